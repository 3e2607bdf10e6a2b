use Rattle.std.proofs.Common.{◌≡◌, ◌↔◌, IfOk, IsTrue, Option, Some, rules, subst, sym}
use Rattle.refutation_check.specs.declared.outcome.Verdict.{Verdict}
use Rattle.exact_records.specs.Records.{IsPruned}
use Rattle.record_checks.proofs.checks.is_pruned.Goals as goal

pub returns-in-Some-clause-pruned : goal.returns-in-Some-clause-pruned
returns-in-Some-clause-pruned g c =
    let is : c.args.before.now ≡ Some c.in-Some.verdict = search rules in
    subst (λ (before : Option Verdict). IfOk c.is_side_refuted.result (λ yes. IsTrue yes ↔ IsPruned g.G.Guide.start c.args.decisions.now before c.args.refutation.now))
    (sym is) c.is_side_refuted.ensures.refuted
