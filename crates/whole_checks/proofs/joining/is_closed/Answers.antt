use Rattle.std.proofs.Common.{refl}
use Rattle.whole_checks.proofs.Joined.{ends_settled, not_so, settled_ends}
use Rattle.whole_checks.proofs.joining.is_closed.Goals as goal

pub returns-then-before-eq0 : goal.returns-then-before-eq0
returns-then-before-eq0 c = λ s settled. (λ yes. settled_ends s c.args.before.decisions.now c.args.before.settled settled c.if-before-eq0.true, λ ends. refl)

pub returns : goal.returns
returns c = λ s settled. (not_so, λ ends. absurd (c.if-before-eq0.false (ends_settled s c.args.before.decisions.now c.args.before.settled settled ends)))
