use Rattle.std.proofs.Common.{◌≡◌, drop, map}
use Rattle.std.specs.List.{AllByRecursion}
use Rattle.path_cond.specs.Seen.{seen}
use Rattle.path_formula.specs.Typed.{IsTyped}
use Rattle.path_formula.specs.View.{view}
use Rattle.refutation_check.specs.Longer.{with_entries}
use Rattle.net_compare.specs.Joining.{IsReady, each_with}
use Rattle.net_compare.proofs.joining.with_each.Given as goal

-- with those that are left it is with all
abbrev pub invariant-loop-formula : goal.invariant-loop-formula
invariant-loop-formula l =
    record {
      ready : IsReady l.now;
      widths : l.now.condition.widths ≡ l.fn.start.condition.widths;
      typed : AllByRecursion (λ f. IsTyped l.fn.start.condition.widths (view f)) (drop l.formula-index l.formulas);
      longer : with_entries (seen view l.now.condition) (each_with l.holds (map view (drop l.formula-index l.formulas)))
          ≡ with_entries (seen view l.fn.start.condition) (each_with l.holds (map view l.formulas));
    }
