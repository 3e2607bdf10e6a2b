use Rattle.std.proofs.Common.{subst}
use Rattle.path_cond.specs.Conditions.{Condition}
use Rattle.path_cond.specs.Seen.{seen}
use Rattle.path_formula.specs.View.{view}
use Rattle.path_solver.specs.Decisions.{IsDecisionOn}
use Rattle.exact_records.specs.Records.{IsFoundRefuted}
use Rattle.refutation_check.specs.declared.outcome.Verdict.TheVariants.{Sat, Undecided}
use Rattle.symbolic_engine.specs.Finding.{IsOpenBy}
use Rattle.symbolic_engine.proofs.deciding.find.Goals as goal

pub returns-in-Sat : goal.returns-in-Sat
returns-in-Sat c =
    let cond = c.condition-condition.result.now in
    let judged = c.a_condition_is_judged_by_its_trees.ensures cond in
    subst (λ (k : Condition). IsOpenBy (seen view k) (Sat c.in-Sat.values)) c.condition-condition.ensures (record {
      typed = judged.typed.0 c.formulas_are_typed.ensures;
      verdict_is = (judged.met c.in-Sat.values).0 (subst (IsDecisionOn cond) c.in-Sat.is c.in_ok-values.ensures.decision);
    })

pub returns-in-Undecided : goal.returns-in-Undecided
returns-in-Undecided c =
    let cond = c.condition-condition.result.now in
    let judged = c.a_condition_is_judged_by_its_trees.ensures cond in
    subst (λ (k : Condition). IsOpenBy (seen view k) (Undecided c.in-Undecided.cause)) c.condition-condition.ensures (record {
      typed = judged.typed.0 c.formulas_are_typed.ensures;
      verdict_is = (judged.undecided c.in-Undecided.cause).0 (subst (IsDecisionOn cond) c.in-Undecided.is c.in_ok-values.ensures.decision);
    })

pub returns-in-Unsat : goal.returns-in-Unsat
returns-in-Unsat c =
    let cond = c.condition-condition.result.now in
    let judged = c.a_condition_is_judged_by_its_trees.ensures cond in
    let decision = subst (IsDecisionOn cond) c.in-Unsat.is c.in_ok-values.ensures.decision in
    subst (λ (k : Condition). IsFoundRefuted (seen view k) c.in-Unsat.refutation) c.condition-condition.ensures (record {
      refuted = judged.refuted.0 decision.0;
      by = record { accepted = (judged.accepted c.in-Unsat.refutation).0 decision.1; typed = judged.typed.0 c.formulas_are_typed.ensures };
    })
