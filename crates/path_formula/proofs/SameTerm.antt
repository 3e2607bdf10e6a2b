-- The test whether two terms are the same.
use Rattle.std.proofs.Common.{◌≡◌, ◌&&◌, ◌==◌, true, List, [], ◌∷◌, refl}
use Rattle.std.proofs.lemmas.Bool.{false≢true, and_parts, and_from, eqb-true, eq-eqb}
use Rattle.lin_term.specs.Terms.{Part, LinearTerm}
use Rattle.path_formula.specs.Terms.{same_parts, same_term}

same_parts-self : (ps : List Part) → same_parts ps ps ≡ true
same_parts-self [] = refl
same_parts-self (p ∷ ps) =
    and_from (p.0.0 == p.0.0 && p.1 == p.1) (same_parts ps ps) (and_from (p.0.0 == p.0.0) (p.1 == p.1) (eq-eqb p.0.0 p.0.0 refl) (eq-eqb p.1 p.1 refl)) (same_parts-self ps)

same_parts-true : (ps qs : List Part) → same_parts ps qs ≡ true → ps ≡ qs
same_parts-true [] [] h = refl
same_parts-true [] (q ∷ qs) h = absurd (false≢true h)
same_parts-true (p ∷ ps) [] h = absurd (false≢true h)
same_parts-true (p ∷ ps) (q ∷ qs) h =
    let all = and_parts (p.0.0 == q.0.0 && p.1 == q.1) (same_parts ps qs) h in
    let here = and_parts (p.0.0 == q.0.0) (p.1 == q.1) all.0 in
    let symbol : p.0.0 ≡ q.0.0 = eqb-true p.0.0 q.0.0 here.0 in
    let coefficient : p.1 ≡ q.1 = eqb-true p.1 q.1 here.1 in
    let rest : ps ≡ qs = same_parts-true ps qs all.1 in
    λ i. (record { 0 = symbol i }, coefficient i) ∷ rest i

-- a term is the same as itself
pub same_term-self : (a : LinearTerm) → same_term a a ≡ true
same_term-self a =
    and_from (a.width == a.width && a.constant == a.constant) (same_parts a.parts a.parts) (and_from (a.width == a.width) (a.constant == a.constant) (eq-eqb a.width a.width refl) (eq-eqb a.constant a.constant refl)) (same_parts-self a.parts)

-- the test finds equal terms alone
pub same_term-true : (a b : LinearTerm) → same_term a b ≡ true → a ≡ b
same_term-true a b h =
    let all = and_parts (a.width == b.width && a.constant == b.constant) (same_parts a.parts b.parts) h in
    let here = and_parts (a.width == b.width) (a.constant == b.constant) all.0 in
    let width : a.width ≡ b.width = eqb-true a.width b.width here.0 in
    let constant : a.constant ≡ b.constant = eqb-true a.constant b.constant here.1 in
    let parts : a.parts ≡ b.parts = same_parts-true a.parts b.parts all.1 in
    λ i. record { width = width i; constant = constant i; parts = parts i }
