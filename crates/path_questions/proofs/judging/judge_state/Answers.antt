use Rattle.std.proofs.Common.{true}
use Rattle.path_questions.specs.Formulas.{formula_of}
use Rattle.path_questions.specs.Asked.{question_seen}
use Rattle.path_questions.specs.Deciding.{entry_of, net_of}
use Rattle.path_questions.proofs.DecisionLemmas.{says_with}
use Rattle.path_questions.proofs.judging.judge_state.Goals as goal

pub judge_longer-judged-requires : goal.judge_longer-judged-requires
judge_longer-judged-requires c =
    c.one_formula_more_may_be_met.ensures c.args.condition.now c.in_ok-longer.longer (c.in_ok-formula.formula, true) c.args.domains.now
    c.in_ok-longer.ensures c.requires.domains

pub returns : goal.returns
returns c =
    says_with c.args.condition.now c.in_ok-longer.longer c.in_ok-formula.formula c.in_ok-longer.ensures
    (formula_of (net_of c.args.subject.now) (entry_of c.args.subject.now) c.args.subject.now.hops (question_seen c.args.question.now) c.args.state.now.carried)
    c.in_ok-formula.ensures c.judge_longer-judged.result c.judge_longer-judged.ensures
