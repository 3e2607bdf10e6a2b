-- A symbol plus a constant, as tests make it.
use Rattle.std.proofs.Common.{◌≡◌, ℕ, ◌+◌, ◌%◌, ◌^◌, ◌<◌, ◌≤◌, [], ◌∷◌, refl, ap, ◌∙◌, subst, arith, Result, Ok, Err, IfOk}
use Rattle.std.proofs.Math.Nat.{mod-eq_of_lt}
use Rattle.std.proofs.lemmas.Bool.Decides.{nat_tests}
use Rattle.std.proofs.lemmas.Nat.{pow_below}
use Rattle.sn_width.specs.Width.{FitsWidth}
use Rattle.sn_width.specs.declared.ids.SymId.{SymId}
use Rattle.lin_term.specs.Terms.{LinearTerm, IsReduced, coefficient_of, IsSum}

small : (q : SymId) (s w : ℕ) → 1 ≤ w → (coefficient_of s ((q, 1) ∷ []) + 0) % 2 ^ w ≡ coefficient_of s ((q, 1) ∷ [])
small q s w le =
    let one : 1 < 2 ^ w = pow_below 0 w (omega arith) in
    let most : coefficient_of s ((q, 1) ∷ []) ≤ 1 = grind (arith, nat_tests) in
    ap (λ n. n % 2 ^ w) (omega arith) ∙ mod-eq_of_lt (omega arith)

-- a symbol plus a constant has the symbol as its one part, by the law of terms
pub symbol_plus : ((a b : LinearTerm) → IsReduced a → IsReduced b → a.width ≡ b.width → a.constant ≡ b.constant → ((s : ℕ) → coefficient_of s a.parts ≡ coefficient_of s b.parts) → a ≡ b)
    → (q : SymId) (w : ℕ) (x c r : LinearTerm) → 1 ≤ w → x ≡ record { width = w; constant = 0; parts = (q, 1) ∷ [] } → c.parts ≡ [] → IsSum x c r → IsReduced r → r.parts ≡ (q, 1) ∷ []
symbol_plus law q w x c r le is none sum reduced =
    let width : r.width ≡ w = sum.width ∙ ap (λ (t : LinearTerm). t.width) is in
    let one : 1 < 2 ^ w = pow_below 0 w (omega arith) in
    let fits : FitsWidth w r.constant = subst (λ n. FitsWidth n r.constant) width reduced.constant in
    let target : LinearTerm = record { width = w; constant = r.constant; parts = (q, 1) ∷ [] } in
    let parts : (s : ℕ) → coefficient_of s r.parts ≡ coefficient_of s ((q, 1) ∷ []) =
    λ s. sum.coefficients s
    ∙ ap (λ ps. (coefficient_of s x.parts + coefficient_of s ps) % 2 ^ x.width) none
    ∙ ap (λ (t : LinearTerm). (coefficient_of s t.parts + 0) % 2 ^ t.width) is
    ∙ small q s w le in
    ap (λ (t : LinearTerm). t.parts) (law r target reduced (record { constant = fits; coefficients = ((omega arith, one), tt); ascending = (omega arith, tt) }) width refl parts)

-- the same of the answer of a call
pub symbol_plus_ok : {E : Type 0} (out : Result LinearTerm E) → ((a b : LinearTerm) → IsReduced a → IsReduced b → a.width ≡ b.width → a.constant ≡ b.constant → ((s : ℕ) → coefficient_of s a.parts ≡ coefficient_of s b.parts) → a ≡ b)
    → (q : SymId) (w : ℕ) (x c : LinearTerm) → 1 ≤ w → x ≡ record { width = w; constant = 0; parts = (q, 1) ∷ [] } → c.parts ≡ [] → IfOk out (IsSum x c) → IfOk out IsReduced → IfOk out (λ t. t.parts ≡ (q, 1) ∷ [])
symbol_plus_ok (Ok r) law q w x c le is none sum reduced = symbol_plus law q w x c r le is none sum reduced
symbol_plus_ok (Err e) law q w x c le is none sum reduced = tt
