use Rattle.std.proofs.Common.{◌≡◌, ◌↔◌, IfOk, IsTrue, List, ℕ, sym, subst, rules}
use Rattle.refutation_check.specs.Decisions.{AreBreaking, IsLicensed}
use Rattle.refutation_check.specs.declared.outcome.Cause.{Cause}
use Rattle.refutation_check.specs.declared.outcome.Cause.TheVariants.{Outside, Cases, Coupled}
use Rattle.refutation_check.proofs.licence.lawful.Goals as goal

pub returns-in-Outside : goal.returns-in-Outside
returns-in-Outside c =
    let cond = c.args.cond.now in
    let is : c.args.cause.now ≡ Outside c.in-Outside.pick c.in-Outside.values = search rules in
    subst (λ (x : Cause). IfOk c.are_breaking.result (λ yes. IsTrue yes ↔ IsLicensed cond x)) (sym is)
    (subst (λ (vs : List ℕ). IfOk c.are_breaking.result (λ yes. IsTrue yes ↔ AreBreaking cond c.in-Outside.pick vs)) c.as_slice.ensures c.are_breaking.ensures)

pub returns-in-Cases : goal.returns-in-Cases
returns-in-Cases c =
    let is : c.args.cause.now ≡ Cases c.in-Cases.count = search rules in
    subst (λ (x : Cause). IfOk c.are_many_choices.result (λ yes. IsTrue yes ↔ IsLicensed c.args.cond.now x)) (sym is) c.are_many_choices.ensures

pub returns-in-Coupled : goal.returns-in-Coupled
returns-in-Coupled c =
    let is : c.args.cause.now ≡ Coupled c.in-Coupled.count = search rules in
    subst (λ (x : Cause). IfOk c.are_many_coupled.result (λ yes. IsTrue yes ↔ IsLicensed c.args.cond.now x)) (sym is) c.are_many_coupled.ensures
