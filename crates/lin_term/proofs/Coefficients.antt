-- The coefficients of a list of parts, and that they fix it.
use Rattle.std.proofs.Common.{zero, ◌≡◌, ℕ, suc, ◌+◌, ◌^◌, ◌<◌, ◌≤◌, List, [], ◌∷◌, ◌++◌, ◌⊎◌, refl, sym, ap, ◌∙◌, subst, ⊎_elim, arith, Decides, nat_eq, ◌&&◌}
use Rattle.sn_width.specs.Width.{FitsWidth}
use Rattle.std.specs.Prelude.{IfSome, slice_get, if◌then◌else◌, ◌==◌}
use Rattle.std.proofs.lemmas.Bool.{cases_eq, cases_order}
use Rattle.std.proofs.lemmas.Nat.{pow_pos, pow_below}
use Rattle.sn_width.specs.declared.ids.SymId.{SymId}
use Rattle.lin_term.specs.Terms.{Part, LinearTerm, AscendsFrom, CoefficientsFit, IsReduced, coefficient_of}

-- a symbol before the first has coefficient 0
pub coefficient_of-before : (n s : ℕ) (ps : List Part) → AscendsFrom n ps → s < n → coefficient_of s ps ≡ 0
coefficient_of-before n s [] h l = refl
coefficient_of-before n s (p ∷ ps) h l =
    let rest = coefficient_of-before (suc p.0.0) s ps h.1 (omega arith) in
    let at = h.0 in
    grind arith

-- what ascends from a later symbol ascends from an earlier one
pub AscendsFrom-earlier : (m n : ℕ) (ps : List Part) → m ≤ n → AscendsFrom n ps → AscendsFrom m ps
AscendsFrom-earlier m n [] l h = tt
AscendsFrom-earlier m n (p ∷ ps) l h = (omega arith, h.1)

-- coefficients add up over joined lists
pub coefficient_of-append : (s : ℕ) (ps qs : List Part) → coefficient_of s (ps ++ qs) ≡ coefficient_of s ps + coefficient_of s qs
coefficient_of-append s [] qs = omega arith
coefficient_of-append s (p ∷ ps) qs = omega (arith, coefficient_of-append s ps qs)

-- in a reduced list a coefficient is one of its width
pub coefficient_of-fits : (w n s : ℕ) (ps : List Part) → CoefficientsFit w ps → AscendsFrom n ps → coefficient_of s ps < 2 ^ w
coefficient_of-fits w n s [] fit up = pow_pos w
coefficient_of-fits w n s (p ∷ ps) fit up =
    ⊎_elim
    (λ (e : p.0.0 ≡ s).
    let rest : coefficient_of s ps ≡ 0 = coefficient_of-before (suc p.0.0) s ps up.1 (omega arith) in
    let here = fit.0.1 in
    grind arith)
    (λ (ne : p.0.0 ≡ s → ⊥).
    let rest : coefficient_of s ps < 2 ^ w = coefficient_of-fits w (suc p.0.0) s ps fit.1 up.1 in
    grind arith)
    (cases_eq p.0.0 s)

-- each part's coefficient is one of the width, and not 0
pub coefficient_at : (w : ℕ) (ps : List Part) (i : ℕ) → CoefficientsFit w ps → IfSome (slice_get ps i) (λ (p : Part). (0 < p.1) × FitsWidth w p.1)
coefficient_at w [] i fit = tt
coefficient_at w (p ∷ ps) zero fit = fit.0
coefficient_at w (p ∷ ps) (suc i) fit = coefficient_at w ps i fit.1

-- a symbol alone is a reduced term
pub reduced_symbol : (w : ℕ) (s : SymId) → 1 ≤ w → IsReduced (record { width = w; constant = 0; parts = (s, 1) ∷ [] })
reduced_symbol w s l =
    let one : 1 < 2 ^ w = pow_below 0 w (omega arith) in
    record { constant = pow_pos w; coefficients = ((omega arith, one), tt); ascending = (omega arith, tt) }

-- the first symbol of an ascending list has the first coefficient
coefficient_of-first : (p : Part) (ps : List Part) → AscendsFrom (suc p.0.0) ps → coefficient_of p.0.0 (p ∷ ps) ≡ p.1
coefficient_of-first p ps up =
    let rest : coefficient_of p.0.0 ps ≡ 0 = coefficient_of-before (suc p.0.0) p.0.0 ps up (omega arith) in
    grind arith

-- where a later list begins at a later symbol, the first symbol tells them apart
apart : (p : Part) (ps qs : List Part) → 0 < p.1 → AscendsFrom (suc p.0.0) ps → AscendsFrom (suc p.0.0) qs → coefficient_of p.0.0 (p ∷ ps) ≡ coefficient_of p.0.0 qs → ⊥
apart p ps qs some up later e =
    let first = coefficient_of-first p ps up in
    let none = coefficient_of-before (suc p.0.0) p.0.0 qs later (omega arith) in
    omega arith

same_part : (p q : Part) → p.0.0 ≡ q.0.0 → p.1 ≡ q.1 → p ≡ q
same_part p q e f =
    ap (λ (n : ℕ). let x : Part = (record { 0 = n }, p.1) in x) e ∙ ap (λ (c : ℕ). let x : Part = (q.0, c) in x) f

-- the parts after equal first ones have equal coefficients
same_rest : (p q : Part) (a b : List Part) → p ≡ q → ((s : ℕ) → coefficient_of s (p ∷ a) ≡ coefficient_of s (q ∷ b)) → (s : ℕ) → coefficient_of s a ≡ coefficient_of s b
same_rest p q a b e h s =
    let first = ap (λ (x : Part). if x.0.0 == s then x.1 else 0) e in
    omega (arith, first, h s)

-- lists that ascend, without coefficients of 0, are the same where the coefficients of each symbol are
pub same_parts : (w n : ℕ) (a b : List Part) → CoefficientsFit w a → CoefficientsFit w b → AscendsFrom n a → AscendsFrom n b → ((s : ℕ) → coefficient_of s a ≡ coefficient_of s b) → a ≡ b
same_parts w n [] [] fa fb ua ub h = refl
same_parts w n [] (q ∷ b) fa fb ua ub h = absurd (apart q b [] fb.0.0 ub.1 tt (sym (h q.0.0)))
same_parts w n (p ∷ a) [] fa fb ua ub h = absurd (apart p a [] fa.0.0 ua.1 tt (h p.0.0))
same_parts w n (p ∷ a) (q ∷ b) fa fb ua ub h =
    ⊎_elim
    (λ (e : p.0.0 ≡ q.0.0).
    let up : AscendsFrom (suc p.0.0) b = subst (λ (s : ℕ). AscendsFrom (suc s) b) (sym e) ub.1 in
    let number : p.1 ≡ q.1 = sym (coefficient_of-first p a ua.1) ∙ h p.0.0 ∙ ap (λ (s : ℕ). coefficient_of s (q ∷ b)) e ∙ coefficient_of-first q b ub.1 in
    let here : p ≡ q = same_part p q e number in
    let rest : a ≡ b = same_parts w (suc p.0.0) a b fa.1 fb.1 ua.1 up (same_rest p q a b here h) in
    cc)
    (λ (ne : (p.0.0 < q.0.0) ⊎ (q.0.0 < p.0.0)).
    absurd (⊎_elim
    (λ (l : p.0.0 < q.0.0). apart p a (q ∷ b) fa.0.0 ua.1 (l, ub.1) (h p.0.0))
    (λ (l : q.0.0 < p.0.0). apart q b (p ∷ a) fb.0.0 ub.1 (l, ua.1) (sym (h q.0.0)))
    ne))
    (cases_order p.0.0 q.0.0)

-- reduced terms are the same where width, constant and the coefficients of each symbol are
pub same_terms : (a b : LinearTerm) → IsReduced a → IsReduced b → a.width ≡ b.width → a.constant ≡ b.constant → ((s : ℕ) → coefficient_of s a.parts ≡ coefficient_of s b.parts) → a ≡ b
same_terms a b ra rb width constant h =
    let fit : CoefficientsFit a.width b.parts = subst (λ (w : ℕ). CoefficientsFit w b.parts) (sym width) rb.coefficients in
    let parts : a.parts ≡ b.parts = same_parts a.width 0 a.parts b.parts ra.coefficients fit ra.ascending rb.ascending h in
    ap (λ (w : ℕ). let t : LinearTerm = record { width = w; constant = a.constant; parts = a.parts } in t) width
    ∙ ap (λ (c : ℕ). let t : LinearTerm = record { width = b.width; constant = c; parts = a.parts } in t) constant
    ∙ ap (λ (ps : List Part). let t : LinearTerm = record { width = b.width; constant = b.constant; parts = ps } in t) parts

-- `==` of parts tells whether they are the same
pub same_part-Decides : (p q : Part) → Decides (nat_eq p.0.0 q.0.0 && nat_eq p.1 q.1) (p ≡ q)
same_part-Decides p q =
    (λ h. same_part p q (grind (arith, h)) (grind (arith, h)), λ e. (let symbol : p.0.0 ≡ q.0.0 = ap (λ (x : Part). x.0.0) e in let number : p.1 ≡ q.1 = ap (λ (x : Part). x.1) e in grind arith))
