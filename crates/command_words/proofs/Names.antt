-- The names of options are those that `clap` reads.
use Rattle.std.proofs.Common.{◌==◌, ◌≡◌, refl, [], ◌∷◌, true, false, Bool, inl, inr, ◌⊎◌}
use Rattle.clap.specs.Lexer.{long_of}
use Rattle.command_words.specs.Forms.{Text, option_of}

pub split : (b : Bool) → (b ≡ true) ⊎ (b ≡ false)
split true = inl refl
split false = inr refl

pub option_is : (word : Text) → option_of word ≡ long_of word
option_is [] = refl
option_is (a ∷ []) = elim (split (a == 45)) [ inl h ↦ rw (h) refl | inr h ↦ rw (h) refl ]
option_is (a ∷ b ∷ []) = elim (split (a == 45)) [
  | inl h ↦ elim (split (b == 45)) [ inl k ↦ rw (h, k) refl | inr k ↦ rw (h, k) refl ]
  | inr h ↦ rw (h) refl
]
option_is (a ∷ b ∷ c ∷ rest) = elim (split (a == 45)) [
  | inl h ↦ elim (split (b == 45)) [ inl k ↦ rw (h, k) refl | inr k ↦ rw (h, k) refl ]
  | inr h ↦ rw (h) refl
]
