use Rattle.std.proofs.Common.{◌∙◌, ap}
use Rattle.path_cond.specs.Seen.{seen}
use Rattle.path_formula.specs.View.{view}
use Rattle.path_questions.specs.Asked.{question_seen}
use Rattle.path_questions.specs.Deciding.{entry_of, net_of}
use Rattle.queries.proofs.Telling.{judged_on, typed_there}
use Rattle.queries.proofs.saying.judge_on.Goals as goal

pub judge_states-requires-clause-typed : goal.judge_states-requires-clause-typed
judge_states-requires-clause-typed c =
    let net = net_of c.args.subject.now in
    let i = entry_of c.args.subject.now in
    let hops = c.args.subject.now.hops in
    let q = question_seen c.args.question.now in
    let run = c.args.run.now in
    let r = c.requires.path in
    typed_there net i hops q (seen view c.condition.result.now) r.way c.args.states.now (ap (seen view) c.condition.ensures ∙ r.condition)
    (c.requires.states r.way r.leads) (c.the_formulas_of_questions_are_typed.ensures net i hops r.is q c.requires.own run.decisions.now r.way r.leads)

pub returns : goal.returns
returns c =
    judged_on (net_of c.args.subject.now) (entry_of c.args.subject.now) c.args.subject.now.hops (question_seen c.args.question.now) c.judge_states.result
    c.args.run.now c.requires.path (seen view c.condition.result.now) c.args.states.now (ap (seen view) c.condition.ensures) c.requires.states c.judge_states.ensures
