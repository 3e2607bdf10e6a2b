use Rattle.std.proofs.Common.{◌≡◌, ◌+◌, ◌*◌, ◌<◌, ◌^◌, drop, length}
use Rattle.path_formula.specs.View.{views}
use Rattle.path_formula.specs.Cases.{cases_of_all, cases_of_any}
use Rattle.path_formula.specs.CaseCounts.{capped}
use Rattle.path_formula.specs.Splits.{EachCanSplit}
use Rattle.path_formula.proofs.case_count.+count.Given as goal

-- the count so far, times that of the formulas that are left, is that of all
abbrev pub invariant-count_all-loop-part : goal.invariant-count_all-loop-part
invariant-count_all-loop-part l = record {
  split : EachCanSplit (views (drop l.part-index l.part-items));
  all : capped (length (cases_of_all (views l.part-items) l.holds)) ≡ capped (l.count * length (cases_of_all (views (drop l.part-index l.part-items)) l.holds));
  fits : l.count < 2 ^ 64;
}

-- the count so far, plus that of the formulas that are left, is that of all
abbrev pub invariant-count_any-loop-part : goal.invariant-count_any-loop-part
invariant-count_any-loop-part l = record {
  split : EachCanSplit (views (drop l.part-index l.part-items));
  all : capped (length (cases_of_any (views l.part-items) l.holds)) ≡ capped (l.count + length (cases_of_any (views (drop l.part-index l.part-items)) l.holds));
  fits : l.count < 2 ^ 64;
}
