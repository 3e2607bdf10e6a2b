use Rattle.std.proofs.Common.{◌≡◌, ◌↔◌, IfOk, IsTrue, sym, subst, rules}
use Rattle.refutation_check.specs.declared.outcome.Verdict.{Verdict}
use Rattle.refutation_check.specs.declared.outcome.Verdict.TheVariants.{Undecided}
use Rattle.record_checks.specs.Checks.{MayStayOpen}
use Rattle.record_checks.specs.Stops.{trees_of}
use Rattle.record_checks.proofs.checks.may_stay_open.Goals as goal

pub returns-in-Undecided : goal.returns-in-Undecided
returns-in-Undecided c =
    let cond = c.args.cond.now in
    let is : c.args.verdict.now ≡ Undecided c.in-Undecided.cause = search rules in
    subst (λ (v : Verdict). IfOk c.is_licensed.result (λ yes. IsTrue yes ↔ MayStayOpen (trees_of cond) v)) (sym is) c.is_licensed.ensures
