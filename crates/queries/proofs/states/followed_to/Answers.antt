use Rattle.path_questions.specs.Deciding.{entry_of, net_of}
use Rattle.queries.proofs.Stating.{arrive_at, not_closed}
use Rattle.queries.proofs.states.followed_to.Goals as goal

pub unreachable-requires : goal.unreachable-requires
unreachable-requires c =
    not_closed (net_of c.args.subject.now) (entry_of c.args.subject.now) c.args.subject.now.hops c.args.run.now c.requires.path
    c.the_first_closed_decision_is_one.ensures.closed c.in-Err-Impossible.field-0-0
    (rw c.in-Err-Impossible.field-0-is at c.in-Err-Impossible.ensures)

pub returns-in-Ok : goal.returns-in-Ok
returns-in-Ok c =
    arrive_at (net_of c.args.subject.now) (entry_of c.args.subject.now) c.args.subject.now.hops c.args.place c.args.run.now.decisions.now c.in-Ok.states.items c.in-Ok.ensures
