use Rattle.sefl_syntax.specs.Views.{ask_tree}
use Rattle.net_check.specs.Network.{entry, network}
use Rattle.exact_records.specs.View.{record_trees}
use Rattle.path_questions.specs.Asked.{question_seen}
use Rattle.path_questions.specs.Known.{outcome_seen}
use Rattle.queries.specs.Answers.{answer_seen}
use Rattle.queries.proofs.OneLemmas.{answers_it, own_of}
use Rattle.queries.proofs.single.ask.Goals as goal

pub told-requires-clause-own : goal.told-requires-clause-own
told-requires-clause-own c =
    own_of (network c.args.net.now) (entry c.args.injection.now) (ask_tree c.args.words.now) (question_seen c.in_ok-question.question) c.in_ok-question.ensures.asked

pub returns-clause-answered : goal.returns-clause-answered
returns-clause-answered c =
    answers_it (network c.args.net.now) (entry c.args.injection.now) c.args.hops (question_seen c.in_ok-question.question)
    (c.kept_outcomes_are_right.ensures (network c.args.net.now) (entry c.args.injection.now) c.args.hops)
    (ask_tree c.args.words.now) c.in_ok-question.ensures.asked c.requires.exact.0 (record_trees c.args.records.now) c.requires.exact.1
    (outcome_seen c.in_ok-kept.kept) c.in_ok-kept.ensures (answer_seen c.answer_of.result) c.answer_of.ensures
