use Rattle.std.proofs.Common.{◌↔◌, ◌++◌, [], ◌∷◌, IfOk, IsTrue, refl, sym, subst}
use Rattle.std.proofs.lemmas.Result.{IfOk-weaker}
use Rattle.sefl_meaning.specs.Routes.{IsOpen}
use Rattle.sefl_meaning.specs.declared.walk.Decision.{Decision}
use Rattle.whole_checks.specs.Chains.{IsLast}
use Rattle.whole_checks.proofs.Joined.{not_so}
use Rattle.whole_checks.proofs.Settled.{broken_last, else_last, pass_later, then_later}
use Rattle.whole_checks.proofs.settling.is_last.Goals as goal

pub returns-in-Then : goal.returns-in-Then
returns-in-Then g c = λ p leads opens.
    let s = g.G.Guide.start in (
      not_so,
      λ last. absurd (then_later s c.routes_compose.ensures.prefix c.routes_compose.ensures.more p (subst (λ (x : Decision). IsOpen s.tree (p ++ x ∷ [])) c.in-Then.is opens)
          (subst (λ (x : Decision). IsLast s p x) c.in-Then.is last)),
    )

pub returns-in-Else : goal.returns-in-Else
returns-in-Else g c = λ p leads opens.
    let s = g.G.Guide.start in (
      λ _. subst (λ (x : Decision). IsLast s p x) (sym c.in-Else.is)
          (else_last s c.routes_compose.ensures.prefix c.routes_compose.ensures.more p (subst (λ (x : Decision). IsOpen s.tree (p ++ x ∷ [])) c.in-Else.is opens)),
      λ last. refl,
    )

pub returns-in-Pass : goal.returns-in-Pass
returns-in-Pass g c = λ p leads opens.
    let s = g.G.Guide.start in (
      not_so,
      λ last. absurd (pass_later s c.routes_compose.ensures.prefix c.routes_compose.ensures.more p (subst (λ (x : Decision). IsOpen s.tree (p ++ x ∷ [])) c.in-Pass.is opens)
          (subst (λ (x : Decision). IsLast s p x) c.in-Pass.is last)),
    )

pub returns-in-Broken : goal.returns-in-Broken
returns-in-Broken g c = λ p leads opens.
    let s = g.G.Guide.start in (
      λ _. subst (λ (x : Decision). IsLast s p x) (sym c.in-Broken.is)
          (broken_last s c.routes_compose.ensures.prefix c.routes_compose.ensures.more p (subst (λ (x : Decision). IsOpen s.tree (p ++ x ∷ [])) c.in-Broken.is opens)),
      λ last. refl,
    )

pub returns-in-Copy : goal.returns-in-Copy
returns-in-Copy g c =
    let s = g.G.Guide.start in
    IfOk-weaker c.is_last_copy.result _ _
    (λ is_so h p leads opens. subst (λ (x : Decision). IsTrue is_so ↔ IsLast s p x) (sym c.in-Copy.is) (h p leads)) c.is_last_copy.ensures
