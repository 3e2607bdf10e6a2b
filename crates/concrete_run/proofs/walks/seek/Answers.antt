use Rattle.std.proofs.Common.{◌++◌, ◌∙◌, List, ap, arith, reverse}
use Rattle.sefl_meaning.specs.declared.walk.Decision.{Decision}
use Rattle.net_check.specs.Network.{network}
use Rattle.concrete_run.specs.Pending.{BeginsWith}
use Rattle.concrete_run.proofs.Searching.{none_led, sought_less}
use Rattle.concrete_run.proofs.Working.{some_steps}
use Rattle.concrete_run.proofs.walks.seek.Goals as goal

pub returns-then-not-leads_to-clause-sought : goal.returns-then-not-leads_to-clause-sought
returns-then-not-leads_to-clause-sought g c = λ all before.
    let p = c.args.pending in
    let other : BeginsWith p.packet.decisions.items c.args.decisions.now → ⊥ = λ b.
    let yes = c.leads_to.ensures.1 (b.0, ap (λ (l : List Decision). l ++ b.0) c.deref.ensures.value ∙ b.1) in cc in
    sought_less (network c.args.net.now) c.args.decisions.now p (reverse c.args.work.now.items) all (none_led (network c.args.net.now) c.args.decisions.now p other) before

pub returns-then-not-leads_to-clause-work : goal.returns-then-not-leads_to-clause-work
returns-then-not-leads_to-clause-work g c = omega (arith, some_steps (network c.args.net.now) c.args.pending)
