use Rattle.std.proofs.Common.{◌≡◌, ◌≤◌, arith, length, subst, take}
use Rattle.sefl_meaning.specs.Order.{BeginsWith}
use Rattle.whole_checks.proofs.Joined.{got_within, share_more}
use Rattle.whole_checks.proofs.joining.shared.Goals as goal

pub loop-at-preserved : goal.loop-at-preserved
loop-at-preserved c =
    let both = c.is_shared.ensures.0 c.if-not-is_shared.false in
    share_more c.args.one.now c.args.other.now c.loop-at.at both.0 both.1 both.2 c.loop-at.invariant

pub returns-clause-part : goal.returns-clause-part
returns-clause-part c = λ both.
    let less = got_within c.args.one.now (length c.args.one.now) both.0 both.1 in
    omega (arith, less)
