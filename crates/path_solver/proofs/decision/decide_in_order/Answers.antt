use Rattle.std.proofs.Common.{◌≡◌, ℕ, List, [], ◌∷◌, sym, ap, subst, ◌∙◌}
use Rattle.path_cond.specs.Conditions.{simple_picks}
use Rattle.interval_solver.specs.Verdicts.{IsVerdictOn}
use Rattle.interval_solver.specs.declared.decide.SimpleVerdict.{SimpleVerdict}
use Rattle.refutation_check.specs.Accepted.{IsAccepted}
use Rattle.refutation_check.specs.declared.steps.Refute.{Refute}
use Rattle.refutation_check.specs.declared.steps.Refute.TheVariants.{Empty}
use Rattle.path_solver.proofs.Simple.{split_accepted, empty_accepted, broken_refuted, empty_refuted}
use Rattle.path_solver.proofs.decision.decide_in_order.Goals as goal

pub returns-in_ok-split_whole-in-False : goal.returns-in_ok-split_whole-in-False
returns-in_ok-split_whole-in-False c =
    let first = subst (λ (v : SimpleVerdict). IsVerdictOn c.args.cond.now v) c.in-False.is c.in_ok-pick.ensures.verdict in (
      broken_refuted c.args.cond.now c.in-False.pick first,
      subst (λ (r : List Refute). IsAccepted c.args.cond.now r) (sym c.in_ok-split_whole-in-False.ensures)
          (split_accepted c.facts.ensures c.args.cond.now c.in-False.pick c.formulas_are_typed.ensures first),
    )

pub returns-in_ok-one_step-in-Empty : goal.returns-in_ok-one_step-in-Empty
returns-in_ok-one_step-in-Empty c =
    let verdict = subst (λ (v : SimpleVerdict). IsVerdictOn c.args.cond.now v) c.in-Empty.is c.in_ok-pick.ensures.verdict in
    let picks : c.from_vec-picks.result ≡ simple_picks c.in-Empty.symbol c.args.cond.now = c.from_vec-picks.ensures ∙ verdict.2 in
    let steps = c.in_ok-one_step-in-Empty.ensures ∙ ap (λ (ps : List ℕ). Empty c.in-Empty.symbol ps ∷ []) picks in (
      empty_refuted c.args.cond.now c.in-Empty.symbol verdict.1,
      subst (λ (r : List Refute). IsAccepted c.args.cond.now r) (sym steps)
          (empty_accepted c.args.cond.now c.in-Empty.symbol verdict.1),
    )
