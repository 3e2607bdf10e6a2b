use Rattle.std.proofs.Common.{sym}
use Rattle.path_questions.specs.Asked.{question_seen}
use Rattle.path_questions.specs.Deciding.{entry_of, net_of}
use Rattle.queries.proofs.Stating.{noted_there, states_there}
use Rattle.queries.proofs.saying.judge_at.Goals as goal

pub judge_on-requires-clause-states : goal.judge_on-requires-clause-states
judge_on-requires-clause-states c =
    let net = net_of c.args.subject.now in
    let i = entry_of c.args.subject.now in
    let hops = c.args.subject.now.hops in
    states_there net i hops (question_seen c.args.question.now) c.args.place c.args.run.now c.requires.path c.in-Some.states.now c.requires.looks
    (noted_there net i hops c.args.place c.args.run.now.decisions.now c.args.stops.now c.in-Some.states.now c.requires.stops (sym c.in-Some.ensures))
