-- The order of lists of decisions.
use Rattle.std.proofs.Common.{◌≡◌, ℕ, zero, suc, ◌+◌, ◌<◌, ◌⊎◌, inl, inr, List, [], ◌∷◌, ◌++◌, refl, sym, ap, subst, ◌∙◌, arith}
use Rattle.sefl_meaning.specs.declared.walk.Decision.{Decision}
use Rattle.sefl_meaning.specs.declared.walk.Decision.TheVariants.{Then, Else, Pass, Broken, Copy}
use Rattle.sefl_meaning.specs.Order.{rank, Precedes, BeginsWith, Parts}

pub less_same_more : (a b : ℕ) → (a < b) ⊎ ((a ≡ b) ⊎ (b < a))
less_same_more zero zero = inr (inl refl)
less_same_more zero (suc b) = inl (omega arith)
less_same_more (suc a) zero = inr (inr (omega arith))
less_same_more (suc a) (suc b) = elim (less_same_more a b) [
  | inl less ↦ inl (omega (arith, less))
  | inr other ↦ elim other [ inl same ↦ inr (inl (ap suc same)) | inr more ↦ inr (inr (omega (arith, more))) ]
]

-- the decision at a place of their order
abbrev of_rank : ℕ → Decision
of_rank zero = Then
of_rank (suc zero) = Else
of_rank (suc (suc zero)) = Pass
of_rank (suc (suc (suc zero))) = Broken
of_rank (suc (suc (suc (suc n)))) = Copy n

of_its_rank : (d : Decision) → of_rank (rank d) ≡ d
of_its_rank Then = refl
of_its_rank Else = refl
of_its_rank Pass = refl
of_its_rank Broken = refl
of_its_rank (Copy number) =
    let e : 4 + number ≡ suc (suc (suc (suc number))) = omega arith in
    ap of_rank e

same_rank : (c d : Decision) → rank c ≡ rank d → c ≡ d
same_rank c d e = sym (of_its_rank c) ∙ ap of_rank e ∙ of_its_rank d

pub irreflexive : (ds : List Decision) → Precedes ds ds → ⊥
irreflexive [] h = h
irreflexive (d ∷ ds) (inl less) = omega (arith, less)
irreflexive (d ∷ ds) (inr same) = irreflexive ds same.1

pub transitive : (cs ds es : List Decision) → Precedes cs ds → Precedes ds es → Precedes cs es
transitive [] [] es h k = absurd h
transitive [] (d ∷ ds) [] h k = absurd k
transitive [] (d ∷ ds) (e ∷ es) h k = tt
transitive (c ∷ cs) [] es h k = absurd h
transitive (c ∷ cs) (d ∷ ds) [] h k = absurd k
transitive (c ∷ cs) (d ∷ ds) (e ∷ es) (inl h) (inl k) = inl (omega (arith, h, k))
transitive (c ∷ cs) (d ∷ ds) (e ∷ es) (inl h) (inr k) = inl (subst (λ (x : Decision). rank c < rank x) k.0 h)
transitive (c ∷ cs) (d ∷ ds) (e ∷ es) (inr h) (inl k) = inl (subst (λ (x : Decision). rank x < rank e) (sym h.0) k)
transitive (c ∷ cs) (d ∷ ds) (e ∷ es) (inr h) (inr k) = inr (h.0 ∙ k.0, transitive cs ds es h.1 k.1)

abbrev Compared : List Decision → List Decision → Type 0
Compared cs ds = Precedes cs ds ⊎ ((cs ≡ ds) ⊎ Precedes ds cs)

behind_same : (c d : Decision) (cs ds : List Decision) → c ≡ d → Compared cs ds → Compared (c ∷ cs) (d ∷ ds)
behind_same c d cs ds e (inl less) = inl (inr (e, less))
behind_same c d cs ds e (inr (inl same)) = inr (inl (λ i. e i ∷ same i))
behind_same c d cs ds e (inr (inr more)) = inr (inr (inr (sym e, more)))

pub total : (cs ds : List Decision) → Compared cs ds
total [] [] = inr (inl refl)
total [] (d ∷ ds) = inl tt
total (c ∷ cs) [] = inr (inr tt)
total (c ∷ cs) (d ∷ ds) = elim (less_same_more (rank c) (rank d)) [
  | inl less ↦ inl (inl less)
  | inr other ↦ elim other [
    | inl same ↦ behind_same c d cs ds (same_rank c d same) (total cs ds)
    | inr more ↦ inr (inr (inl more))
  ]
]

first_precedes : (ds rest : List Decision) → Precedes ds (ds ++ rest) ⊎ (ds ≡ ds ++ rest)
first_precedes [] [] = inr refl
first_precedes [] (r ∷ rest) = inl tt
first_precedes (d ∷ ds) rest = elim (first_precedes ds rest) [
  | inl less ↦ inl (inr (refl, less))
  | inr same ↦ inr (ap (λ (xs : List Decision). d ∷ xs) same)
]

pub prefix_precedes : (ds es : List Decision) → BeginsWith ds es → Precedes ds es ⊎ (ds ≡ es)
prefix_precedes ds es h = subst (λ (xs : List Decision). Precedes ds xs ⊎ (ds ≡ xs)) h.1 (first_precedes ds h.0)

part_precedes : (cs ds : List Decision) → Parts cs ds → Precedes cs ds
part_precedes [] ds h = absurd h
part_precedes (c ∷ cs) [] h = absurd h
part_precedes (c ∷ cs) (d ∷ ds) (inl less) = inl less
part_precedes (c ∷ cs) (d ∷ ds) (inr same) = inr (same.0, part_precedes cs ds same.1)

no_part : (cs rest : List Decision) → Parts cs (cs ++ rest) → ⊥
no_part [] rest h = h
no_part (c ∷ cs) rest (inl less) = omega (arith, less)
no_part (c ∷ cs) rest (inr same) = no_part cs rest same.1

pub parts_apart : (cs ds : List Decision) → Parts cs ds → Precedes cs ds × (BeginsWith cs ds → ⊥)
parts_apart cs ds h = (part_precedes cs ds h, λ b. no_part cs b.0 (subst (Parts cs) (sym b.1) h))

pub apart_parts : (cs ds : List Decision) → Precedes cs ds → (BeginsWith cs ds → ⊥) → Parts cs ds
apart_parts [] [] h k = absurd h
apart_parts [] (d ∷ ds) h k = absurd (k (d ∷ ds, refl))
apart_parts (c ∷ cs) [] h k = absurd h
apart_parts (c ∷ cs) (d ∷ ds) (inl less) k = inl less
apart_parts (c ∷ cs) (d ∷ ds) (inr same) k =
    inr (same.0, apart_parts cs ds same.1 (λ b. k (b.0, λ i. same.0 i ∷ b.1 i)))
