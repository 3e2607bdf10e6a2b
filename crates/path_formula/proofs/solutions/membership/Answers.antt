use Rattle.std.proofs.Common.{sym, ◌∙◌}
use Rattle.path_formula.specs.Atoms.{membership_kind}
use Rattle.path_formula.proofs.Solving.{single_over, by_member, others_of}
use Rattle.path_formula.proofs.solutions.membership.Goals as goal

pub returns-in_ok-others-in-Single : goal.returns-in_ok-others-in-Single
returns-in_ok-others-in-Single c =
    let t = c.args.value.now in
    let given = c.args.ranges.now in
    let others = c.in_ok-others-in-Single.others in
    let kind = sym c.of_membership.ensures ∙ c.in-Single.is in
    let over = single_over c.args.symbol c.in-Single.symbol c.args.width (membership_kind t) t.width given.width kind c.requires in
    by_member t others given c.args.symbol c.in-Single.symbol c.args.width c.args.holds c.moved_back-in-Single.result kind c.requires c.in_ok-others-in-Single.ensures.same_width
    (others_of given others c.args.width c.args.holds c.if-holds.false over.2 c.in_ok-others-in-Single.ensures)
    (rw (← c.constant-in-Single.ensures.constant) c.moved_back-in-Single.ensures)
