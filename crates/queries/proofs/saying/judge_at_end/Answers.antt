use Rattle.std.proofs.Common.{◌∙◌}
use Rattle.path_questions.specs.Asked.{question_seen}
use Rattle.path_questions.specs.Deciding.{entry_of, net_of}
use Rattle.queries.proofs.Stating.{states_at_end}
use Rattle.queries.proofs.saying.judge_at_end.Goals as goal

pub judge_on-requires-clause-states : goal.judge_on-requires-clause-states
judge_on-requires-clause-states c =
    states_at_end (net_of c.args.subject.now) (entry_of c.args.subject.now) c.args.subject.now.hops c.args.run.now c.requires.path
    (question_seen c.args.question.now) c.args.place c.requires.looks c.deref.result.now (c.deref.ensures.value ∙ c.in_ok-states.ensures)
