use Rattle.std.proofs.Common.{◌≡◌, ◌↔◌, true, false, IsTrue, sym, rules}
use Rattle.std.proofs.lemmas.Result.{IfOk-weaker}
use Rattle.path_cond.specs.Conditions.{Entry, entry_holds}
use Rattle.refutation_check.specs.Least.{AreCandidates, is_outside}
use Rattle.refutation_check.specs.Decisions.{AreBreaking}
use Rattle.refutation_check.proofs.licence.are_breaking.Goals as goal

pub returns-else-agrees : goal.returns-else-agrees
returns-else-agrees c =
    let cond = c.args.cond.now in
    let vs = c.args.values.now in
    let e : Entry = (c.in-Some.formula.now, c.in-Some.holds) in
    let outside : is_outside e ≡ true = search rules in
    let broken : entry_holds vs e ≡ false = search rules in
    IfOk-weaker c.are_candidates.result (λ yes. IsTrue yes ↔ AreCandidates cond vs) (λ yes. IsTrue yes ↔ AreBreaking cond c.args.pick vs)
    (λ yes h. (λ y. record { entry = e; at = sym c.in-Some.ensures; outside = outside; candidates = h.0 y; broken = broken }, λ b. h.1 b.candidates)) c.are_candidates.ensures
