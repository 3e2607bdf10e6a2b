use Rattle.std.proofs.Common.{drop}
use Rattle.std.specs.List.{AllByRecursion}
use Rattle.sn_width.specs.declared.rel.Rel.TheVariants.{Ne}
use Rattle.path_formula.specs.Formulas.{compared}
use Rattle.path_formula.specs.Typed.{IsTyped}
use Rattle.symbolic_engine.specs.Origins.{condition_seen}
use Rattle.loop_meaning.specs.Visits.{paired}
use Rattle.loop_check.specs.Lists.{terms_of}
use Rattle.loop_check.proofs.Comparing.{Goes}
use Rattle.loop_check.proofs.last.compare_values.Given as goal

-- those left are typed, and what is told of them is told of all
abbrev pub invariant-loop-place : goal.invariant-loop-place
invariant-loop-place l =
    record {
      typed : AllByRecursion (λ p. IsTyped l.state.condition.widths (compared Ne p.0 p.1)) (paired (drop l.place (terms_of l.earlier)) (drop l.place (terms_of l.later)));
      goes : Goes (condition_seen l.state) l.earlier l.later l.place;
    }
