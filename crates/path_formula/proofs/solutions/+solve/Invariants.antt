use Rattle.std.proofs.Common.{◌&&◌, take}
use Rattle.sn_ranges.specs.Ranges.{IsSetOf, fits_width}
use Rattle.path_formula.specs.Solutions.{alone, all_agree, any_agrees}
use Rattle.path_formula.specs.View.{views}
use Rattle.path_formula.proofs.solutions.+solve.Given as goal

-- the set so far is that of the formulas so far
abbrev pub invariant-meet_all-loop-part : goal.invariant-meet_all-loop-part
invariant-meet_all-loop-part l =
    IsSetOf l.width (λ x. fits_width l.width x && all_agree l.holds (views (take l.part-index l.part-items)) (alone l.symbol x)) l.set

abbrev pub invariant-join_all-loop-part : goal.invariant-join_all-loop-part
invariant-join_all-loop-part l =
    IsSetOf l.width (λ x. fits_width l.width x && any_agrees l.holds (views (take l.part-index l.part-items)) (alone l.symbol x)) l.set
