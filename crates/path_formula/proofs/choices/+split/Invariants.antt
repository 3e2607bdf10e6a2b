use Rattle.std.proofs.Common.{◌≡◌, ◌++◌, drop}
use Rattle.path_formula.specs.View.{views}
use Rattle.path_formula.specs.Bounds.{lists_of}
use Rattle.path_formula.specs.Cases.{cases_of_all, cases_of_any, joined}
use Rattle.path_formula.specs.Splits.{EachCanSplit}
use Rattle.path_formula.proofs.choices.+split.Given as goal

-- the choices so far, with those of the formulas that are left, are all
abbrev pub invariant-cases_all-loop-part : goal.invariant-cases_all-loop-part
invariant-cases_all-loop-part l = record {
  split : EachCanSplit (views (drop l.part-index l.part-items));
  all : cases_of_all (views l.part-items) l.holds ≡ joined (lists_of l.choices.items) (cases_of_all (views (drop l.part-index l.part-items)) l.holds);
}

-- the cases so far, with those of the formulas that are left, are all
abbrev pub invariant-cases_any-loop-part : goal.invariant-cases_any-loop-part
invariant-cases_any-loop-part l = record {
  split : EachCanSplit (views (drop l.part-index l.part-items));
  all : cases_of_any (views l.part-items) l.holds ≡ lists_of l.found.items ++ cases_of_any (views (drop l.part-index l.part-items)) l.holds;
}
