use Rattle.std.proofs.Common.{◌∙◌, sym}
use Rattle.path_cond.specs.Seen.{seen}
use Rattle.path_formula.specs.Typed.{IsTyped}
use Rattle.path_formula.specs.View.{view}
use Rattle.sym_state.specs.Symbolic.{Symbolic}
use Rattle.path_questions.specs.Formulas.{formula_of}
use Rattle.path_questions.specs.Asked.{question_seen}
use Rattle.path_questions.specs.Deciding.{entry_of, net_of}
use Rattle.path_questions.proofs.StateLemmas.{met_at_state, past_state, typed_here, typed_next}
use Rattle.path_questions.proofs.judging.judge_states.Goals as goal

pub judge_state-requires-clause-typed : goal.judge_state-requires-clause-typed
judge_state-requires-clause-typed c =
    typed_here
    (λ (x : Symbolic). IsTyped c.args.condition.now.widths (formula_of (net_of c.args.subject.now) (entry_of c.args.subject.now) c.args.subject.now.hops (question_seen c.args.question.now) x.carried))
    c.args.states.now c.loop-state.state-index c.state-item.result c.loop-state-test.true c.state-item.is c.loop-state.invariant.typed

pub returns-then-is_hit : goal.returns-then-is_hit
returns-then-is_hit c =
    met_at_state c.verdicts_on_trees_are_exact.ensures (net_of c.args.subject.now) (entry_of c.args.subject.now) c.args.subject.now.hops (question_seen c.args.question.now)
    (seen view c.args.condition.now) c.args.states.now c.loop-state.state-index c.state-item.result c.loop-state-test.true c.state-item.is c.loop-state.open c.loop-state.invariant.goes
    c.in_ok-judged.judged c.in_ok-judged.ensures (sym c.is_hit.ensures ∙ c.if-is_hit.true)

pub loop-state-preserved : goal.loop-state-preserved
loop-state-preserved c =
    record {
      typed = typed_next _ c.args.states.now c.loop-state.state-index c.state-item.result c.loop-state-test.true c.state-item.is c.loop-state.invariant.typed;
      goes = past_state c.verdicts_on_trees_are_exact.ensures (net_of c.args.subject.now) (entry_of c.args.subject.now) c.args.subject.now.hops (question_seen c.args.question.now)
          (seen view c.args.condition.now) c.args.states.now c.loop-state.state-index c.state-item.result c.loop-state-test.true c.state-item.is c.loop-state.open c.loop-state.invariant.goes
          c.in_ok-judged.judged c.in_ok-judged.ensures (sym c.is_hit.ensures ∙ c.if-is_hit.false) _ c.open_with-open.ensures;
    }
