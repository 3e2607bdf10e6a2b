use Rattle.std.proofs.Common.{◌≡◌, ◌++◌, drop, map}
use Rattle.path_cond.specs.Seen.{AllTyped, entry_seen, itself}
use Rattle.path_formula.specs.View.{view}
use Rattle.net_compare.specs.Joining.{IsReady}
use Rattle.net_compare.specs.Rows.{row_seen}
use Rattle.net_compare.proofs.joining.with_row.Given as goal

-- with those that are left it is with all
abbrev pub invariant-loop-formula : goal.invariant-loop-formula
invariant-loop-formula l =
    record {
      ready : IsReady l.now;
      widths : l.now.condition.widths ≡ l.fn.start.condition.widths;
      most : l.now.condition.most_choices ≡ l.fn.start.condition.most_choices;
      typed : AllTyped itself l.fn.start.condition.widths (row_seen (drop l.formula-index l.row));
      joined : map (entry_seen view) l.now.condition.entries ++ row_seen (drop l.formula-index l.row) ≡ map (entry_seen view) l.fn.start.condition.entries ++ row_seen l.row;
    }
