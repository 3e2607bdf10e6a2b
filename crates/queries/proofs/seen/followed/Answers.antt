use Rattle.path_questions.specs.Deciding.{entry_of, net_of}
use Rattle.queries.proofs.Ways.{nowhere}
use Rattle.queries.proofs.seen.followed.Goals as goal

pub returns-in-Err-Impossible : goal.returns-in-Err-Impossible
returns-in-Err-Impossible c =
    nowhere (net_of c.args.subject.now) (entry_of c.args.subject.now) c.args.subject.now.hops c.the_first_closed_decision_is_one.ensures.closed
    c.args.decisions.now c.in-Err-Impossible.field-0-0 (rw c.in-Err-Impossible.field-0-is at c.in-Err-Impossible.ensures)
