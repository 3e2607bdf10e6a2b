use Rattle.std.proofs.Common.{◌≡◌, ◌↔◌, ℕ, false, List, IsTrue}
use Rattle.std.proofs.lemmas.Result.{IfOk-weaker}
use Rattle.path_cond.specs.Conditions.{holds_at}
use Rattle.refutation_check.specs.Accepted.{IsAccepted}
use Rattle.refutation_check.proofs.checker.check.Goals as goal

pub returns-clause-refuted : goal.returns-clause-refuted
returns-clause-refuted c =
    let cond = c.args.cond.now in
    let steps = c.args.refutation.now in
    IfOk-weaker c.is_accepted.result (λ yes. IsTrue yes ↔ IsAccepted cond steps) (λ yes. IsTrue yes → (values : List ℕ) → holds_at cond values ≡ false)
    (λ yes h y values. c.an_accepted_refutation_refutes.ensures cond steps values c.formulas_are_typed.ensures (h.0 y)) c.is_accepted.ensures
