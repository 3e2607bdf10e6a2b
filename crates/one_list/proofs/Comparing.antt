-- Lists of decisions, one of which begins with the other.
use Rattle.std.proofs.Common.{◌<◌, ◌⊎◌, inl, inr, List, [], ◌∷◌, ◌++◌, refl, sym, subst, ◌∙◌, arith}
use Rattle.sefl_meaning.specs.declared.walk.Decision.{Decision}
use Rattle.sefl_meaning.specs.Order.{BeginsWith, Parts, rank}
use Rattle.exact_records.proofs.Begins.{parts_apart, parts_apart_back, parts_longer}
use Rattle.exact_records.proofs.Lists.{append_nil}

-- one of them begins with the other
abbrev pub Meets : List Decision → List Decision → Type 0
Meets cs ds = BeginsWith cs ds ⊎ BeginsWith ds cs

pub turned : (cs ds : List Decision) → Meets cs ds → Meets ds cs
turned cs ds (inl h) = inr h
turned cs ds (inr h) = inl h

-- so they do not part
pub meets_apart : (cs ds : List Decision) → Meets cs ds → Parts cs ds → ⊥
meets_apart cs ds (inl h) k = parts_apart cs h.0 (subst (Parts cs) (sym h.1) k)
meets_apart cs ds (inr h) k = parts_apart_back ds h.0 (subst (λ xs. Parts xs ds) (sym h.1) k)

parts_behind : (cs ds es : List Decision) → Parts cs ds → Parts ds es → Parts cs es
parts_behind [] ds es h k = absurd h
parts_behind (c ∷ cs) [] es h k = absurd h
parts_behind (c ∷ cs) (d ∷ ds) [] h k = absurd k
parts_behind (c ∷ cs) (d ∷ ds) (e ∷ es) (inl h) (inl k) = inl (omega (arith, h, k))
parts_behind (c ∷ cs) (d ∷ ds) (e ∷ es) (inl h) (inr k) = inl (subst (λ (x : Decision). rank c < rank x) k.0 h)
parts_behind (c ∷ cs) (d ∷ ds) (e ∷ es) (inr h) (inl k) = inl (subst (λ (x : Decision). rank x < rank e) (sym h.0) k)
parts_behind (c ∷ cs) (d ∷ ds) (e ∷ es) (inr h) (inr k) = inr (h.0 ∙ k.0, parts_behind cs ds es h.1 k.1)

parts_further : (cs ds rest : List Decision) → Parts cs ds → Parts cs (ds ++ rest)
parts_further cs ds rest h = subst (λ xs. Parts xs (ds ++ rest)) (append_nil cs) (parts_longer cs ds [] rest h)

-- what parts from a longer list parts from the shorter one, or begins with it
parts_sooner : (cs ds rest : List Decision) → Parts cs (ds ++ rest) → Parts cs ds ⊎ BeginsWith ds cs
parts_sooner cs [] rest h = inr (cs, refl)
parts_sooner [] (d ∷ ds) rest h = absurd h
parts_sooner (c ∷ cs) (d ∷ ds) rest (inl h) = inl (inl h)
parts_sooner (c ∷ cs) (d ∷ ds) rest (inr h) =
    elim (parts_sooner cs ds rest h.1) [
      | inl k ↦ inl (inr (h.0, k))
      | inr k ↦ inr (k.0, λ i. sym h.0 i ∷ k.1 i)
    ]

-- of two lists each comes before one that the other meets: so they meet
pub both_meet : (cs ds es fs : List Decision) → Parts cs es → Parts ds fs → Meets cs fs → Meets ds es → Meets cs ds
both_meet cs ds es fs less more (inl h) k =
    elim (parts_sooner ds cs h.0 (subst (Parts ds) (sym h.1) more)) [
      | inl p ↦ absurd (meets_apart ds es k (parts_behind ds cs es p less))
      | inr b ↦ inl b
    ]
both_meet cs ds es fs less more (inr h) k =
    absurd (meets_apart ds es k (parts_behind ds cs es (subst (Parts ds) h.1 (parts_further ds fs h.0 more)) less))
