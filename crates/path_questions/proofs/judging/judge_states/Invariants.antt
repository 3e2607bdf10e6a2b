use Rattle.std.proofs.Common.{drop}
use Rattle.std.specs.List.{AllByRecursion}
use Rattle.path_cond.specs.Seen.{seen}
use Rattle.path_formula.specs.Typed.{IsTyped}
use Rattle.path_formula.specs.View.{view}
use Rattle.path_questions.specs.Formulas.{formula_of}
use Rattle.path_questions.specs.Asked.{question_seen}
use Rattle.path_questions.specs.Deciding.{conditions_with, entry_of, net_of}
use Rattle.path_questions.proofs.Going.{Goes}
use Rattle.path_questions.proofs.judging.judge_states.Given as goal

-- whatever the states that are left say, all say
abbrev pub invariant-loop-state : goal.invariant-loop-state
invariant-loop-state l =
    record {
      typed : AllByRecursion (λ x. IsTyped l.condition.widths (formula_of (net_of l.subject) (entry_of l.subject) l.subject.hops (question_seen l.question) x.carried)) (drop l.state-index l.states);
      goes : Goes (conditions_with (net_of l.subject) (entry_of l.subject) l.subject.hops (question_seen l.question) (seen view l.condition) l.states)
          (conditions_with (net_of l.subject) (entry_of l.subject) l.subject.hops (question_seen l.question) (seen view l.condition) (drop l.state-index l.states)) l.open;
    }
