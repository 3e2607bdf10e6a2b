use Rattle.std.proofs.Common.{◌≡◌, ◌||◌, drop}
use Rattle.sn_width.specs.declared.ids.SymId.{SymId}
use Rattle.path_formula.specs.View.{views}
use Rattle.path_formula.specs.Splits.{EachCanSplit}
use Rattle.path_cond.specs.Marks.{has_mark}
use Rattle.path_cond.specs.Occurring.{occurs_among}
use Rattle.path_cond.proofs.marks.+mark.Given as goal

-- the marks so far, with those of the formulas that are left, are all
abbrev pub invariant-mark_all-loop-part : goal.invariant-mark_all-loop-part
invariant-mark_all-loop-part l = record {
  split : EachCanSplit (views (drop l.part-index l.part-items));
  marks : (s : SymId) → (has_mark l.initial.marks s || occurs_among s (views l.part-items)) ≡ (has_mark l.marks s || occurs_among s (views (drop l.part-index l.part-items)));
}
