-- The test of reduced terms says what it is to say.
use Rattle.std.proofs.Common.{◌≡◌, ℕ, suc, ◌↔◌, Bool, true, false, List, [], ◌∷◌, refl, sym, ap, ◌∙◌, true≢false, arith}
use Rattle.std.proofs.lemmas.Bool.Decides.{nat_tests}
use Rattle.lin_term.specs.Terms.{Part, LinearTerm, AscendsFrom, CoefficientsFit, IsReduced}
use Rattle.lin_term.specs.Reduced.{are_reduced_from, is_reduced}

from_test : (w n : ℕ) (ps : List Part) → are_reduced_from w n ps ≡ true → CoefficientsFit w ps × AscendsFrom n ps
from_test w n [] h = (tt, tt)
from_test w n (p ∷ ps) h =
    let rest = from_test w (suc p.0.0) ps (grind (arith, nat_tests)) in
    (((grind (arith, nat_tests), grind (arith, nat_tests)), rest.0), (grind (arith, nat_tests), rest.1))

to_test : (w n : ℕ) (ps : List Part) → CoefficientsFit w ps → AscendsFrom n ps → are_reduced_from w n ps ≡ true
to_test w n [] fit up = refl
to_test w n (p ∷ ps) fit up = let rest = to_test w (suc p.0.0) ps fit.1 up.1 in grind (arith, nat_tests, fit.0.0, fit.0.1, up.0)

reduced_from_test : (t : LinearTerm) → is_reduced t ≡ true → IsReduced t
reduced_from_test t h =
    let parts = from_test t.width 0 t.parts (grind (arith, nat_tests)) in
    record { constant = grind (arith, nat_tests); coefficients = parts.0; ascending = parts.1 }

test_of_reduced : (t : LinearTerm) → IsReduced t → is_reduced t ≡ true
test_of_reduced t h =
    let parts = to_test t.width 0 t.parts h.coefficients h.ascending in
    grind (arith, nat_tests, h.constant)

pub reduced_test : (t : LinearTerm) → (is_reduced t ≡ true) ↔ IsReduced t
reduced_test t = (reduced_from_test t, test_of_reduced t)

-- what an answer of the test of a list's parts says
module _ (w constant : ℕ) (ps qs : List Part) (answer : Bool) (asked : qs ≡ ps) (is : answer ≡ is_reduced (record { width = w; constant = constant; parts = qs })) where
  pub is_reduced_term : answer ≡ true → IsReduced (record { width = w; constant = constant; parts = ps })
  is_reduced_term holds = reduced_from_test (record { width = w; constant = constant; parts = ps }) (sym (is ∙ ap (λ (parts : List Part). is_reduced (record { width = w; constant = constant; parts = parts })) asked) ∙ holds)

  pub is_no_reduced_term : answer ≡ false → IsReduced (record { width = w; constant = constant; parts = ps }) → ⊥
  is_no_reduced_term fails h = true≢false (sym (test_of_reduced (record { width = w; constant = constant; parts = ps }) h) ∙ sym (is ∙ ap (λ (parts : List Part). is_reduced (record { width = w; constant = constant; parts = parts })) asked) ∙ fails)
