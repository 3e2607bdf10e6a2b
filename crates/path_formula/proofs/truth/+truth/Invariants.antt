use Rattle.std.proofs.Common.{◌≡◌, drop}
use Rattle.path_formula.specs.Formulas.{all_true, any_true}
use Rattle.path_formula.specs.View.{views}
use Rattle.path_formula.proofs.truth.+truth.Given as goal

-- the whole list has the truth of what is left
abbrev pub invariant-all_hold-loop-part : goal.invariant-all_hold-loop-part
invariant-all_hold-loop-part l = all_true (views l.part-items) l.values ≡ all_true (views (drop l.part-index l.part-items)) l.values

abbrev pub invariant-any_holds-loop-part : goal.invariant-any_holds-loop-part
invariant-any_holds-loop-part l = any_true (views l.part-items) l.values ≡ any_true (views (drop l.part-index l.part-items)) l.values
