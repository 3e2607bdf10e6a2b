use Rattle.std.proofs.Common.{◌∙◌}
use Rattle.concrete_run.proofs.Moving.{copied, copied_steps, first_and_rest}
use Rattle.concrete_run.proofs.pending.copy.Goals as goal

pub returns-clause-walks : goal.returns-clause-walks
returns-clause-walks c = λ net. copied net c.args.hops c.args.number c.in_ok-behind.behind _ c.args.ports.now _ c.args.places.items c.in_ok-copied.field-0.items
    c.args.packet c.in_ok-fork.field-0 c.args.node (first_and_rest c.args.ports.now c.in-len1-up.len_at_least) c.in_ok-behind.ensures
    (c.in_ok-copied.ensures ∙ c.deref.ensures.value) c.in_ok-fork.ensures.given c.in_ok-fork.ensures.decisions c.in_ok-fork.ensures.progress

pub returns-clause-work : goal.returns-clause-work
returns-clause-work c = λ net. copied_steps net c.args.hops _ c.args.ports.now _ c.args.packet c.in_ok-fork.field-0 c.args.node
    (first_and_rest c.args.ports.now c.in-len1-up.len_at_least) c.in_ok-fork.ensures.given c.in_ok-fork.ensures.progress
