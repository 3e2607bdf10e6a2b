use Rattle.std.proofs.Common.{◌≡◌, ◌↔◌, ℕ, IfOk, IsTrue, List, sym, subst, rules}
use Rattle.refutation_check.specs.declared.outcome.Verdict.{Verdict}
use Rattle.refutation_check.specs.declared.outcome.Verdict.TheVariants.{Sat, Undecided}
use Rattle.exact_records.specs.Records.{MayPrecede, Satisfy}
use Rattle.record_checks.specs.Stops.{trees_of}
use Rattle.record_checks.proofs.verdicts.may_precede.Goals as goal

pub returns-in-Sat : goal.returns-in-Sat
returns-in-Sat c =
    let cond = c.args.cond.now in
    let is : c.args.before.now ≡ Sat c.in-Sat.values = search rules in
    let holds = subst (λ (vs : List ℕ). IsTrue c.make_true.result ↔ Satisfy vs (trees_of cond)) c.as_slice.ensures c.make_true.ensures in
    subst (λ (v : Verdict). IsTrue c.make_true.result ↔ MayPrecede (trees_of cond) v) (sym is) holds

pub returns-in-Undecided : goal.returns-in-Undecided
returns-in-Undecided c =
    let cond = c.args.cond.now in
    let is : c.args.before.now ≡ Undecided c.in-Undecided.cause = search rules in
    subst (λ (v : Verdict). IfOk c.is_licensed.result (λ yes. IsTrue yes ↔ MayPrecede (trees_of cond) v)) (sym is) c.is_licensed.ensures
