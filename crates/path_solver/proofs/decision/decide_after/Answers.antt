use Rattle.std.proofs.lemmas.Result.{IfOk-weaker}
use Rattle.path_solver.specs.Decisions.{IsDecisionOn}
use Rattle.path_solver.proofs.Verdicts.{unsat_never}
use Rattle.path_solver.proofs.decision.decide_after.Goals as goal

pub returns-clause-sat : goal.returns-clause-sat
returns-clause-sat c =
    IfOk-weaker c.decide_from.result (IsDecisionOn c.args.cond.now) _
    (λ decided h values. c.sat_exactly_where_met.ensures c.args.cond.now decided values h) c.decide_from.ensures

pub returns-clause-unsat : goal.returns-clause-unsat
returns-clause-unsat c =
    IfOk-weaker c.decide_from.result (IsDecisionOn c.args.cond.now) _
    (λ decided h. c.unsat_exactly_where_refuted.ensures c.args.cond.now decided c.formulas_are_typed.ensures h) c.decide_from.ensures

pub returns-clause-undecided : goal.returns-clause-undecided
returns-clause-undecided c =
    IfOk-weaker c.decide_from.result (IsDecisionOn c.args.cond.now) _
    (λ decided h cause. c.undecided_exactly_where_undecided.ensures c.args.cond.now decided cause h) c.decide_from.ensures

pub returns-clause-settled : goal.returns-clause-settled
returns-clause-settled c =
    IfOk-weaker c.decide_from.result (IsDecisionOn c.args.cond.now) _
    (λ decided h. c.settled_in_the_fragment.ensures c.args.cond.now decided h) c.decide_from.ensures

pub returns-clause-least : goal.returns-clause-least
returns-clause-least c =
    IfOk-weaker c.decide_from.result (IsDecisionOn c.args.cond.now) _
    (λ decided h. c.simple_conditions_have_the_least_values.ensures c.args.cond.now decided c.formulas_are_typed.ensures h) c.decide_from.ensures

pub returns-clause-never : goal.returns-clause-never
returns-clause-never c =
    IfOk-weaker c.decide_from.result (IsDecisionOn c.args.cond.now) _
    (λ decided h. unsat_never c.an_accepted_refutation_refutes.ensures c.args.cond.now decided c.formulas_are_typed.ensures h) c.decide_from.ensures
