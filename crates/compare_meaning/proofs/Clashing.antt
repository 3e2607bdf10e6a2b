-- Paths have one first clash.
use Rattle.std.proofs.Common.{◌≡◌, ℕ, inl, inr, List, [], ◌∷◌, sym, ◌∙◌}
use Rattle.compare_meaning.specs.Clashes.{FitsAll, IsFirstClash, IsFirstWith, NoneClash}
use Rattle.compare_meaning.specs.Laws.{FirstClashIsOne}
use Rattle.compare_meaning.specs.Paths.{DeliveredPath}

one_with : (p : DeliveredPath) (qs : List DeliveredPath) (a b : ℕ) → IsFirstWith p qs a → IsFirstWith p qs b → a ≡ b
one_with p [] a b h k = absurd h
one_with p (q ∷ qs) a b (inl h) (inl k) = h.1 ∙ sym k.1
one_with p (q ∷ qs) a b (inl h) (inr k) = absurd (k.0 h.0)
one_with p (q ∷ qs) a b (inr h) (inl k) = absurd (h.0 k.0)
one_with p (q ∷ qs) a b (inr h) (inr k) = one_with p qs a b h.1 k.1

fits_none : (p : DeliveredPath) (qs : List DeliveredPath) (a : ℕ) → FitsAll p qs → IsFirstWith p qs a → ⊥
fits_none p [] a h k = k
fits_none p (q ∷ qs) a h (inl k) = h.0 k.0
fits_none p (q ∷ qs) a h (inr k) = fits_none p qs a h.1 k.1

one_clash : (ps : List DeliveredPath) (a b c d : ℕ) → IsFirstClash ps a b → IsFirstClash ps c d → (a ≡ c) × (b ≡ d)
one_clash [] a b c d h k = absurd h
one_clash (p ∷ ps) a b c d (inl h) (inl k) = (h.0 ∙ sym k.0, one_with p ps b d h.1 k.1)
one_clash (p ∷ ps) a b c d (inl h) (inr k) = absurd (fits_none p ps b k.0 h.1)
one_clash (p ∷ ps) a b c d (inr h) (inl k) = absurd (fits_none p ps d h.0 k.1)
one_clash (p ∷ ps) a b c d (inr h) (inr k) = one_clash ps a b c d h.1 k.1

none_clash : (ps : List DeliveredPath) (a b : ℕ) → NoneClash ps → IsFirstClash ps a b → ⊥
none_clash [] a b h k = k
none_clash (p ∷ ps) a b h (inl k) = fits_none p ps b h.0 k.1
none_clash (p ∷ ps) a b h (inr k) = none_clash ps a b h.1 k.1

pub first_clash_is_one : FirstClashIsOne
first_clash_is_one = record { one = one_clash; not_none = none_clash }
