-- Tests of the members of lists, one by one.
use Rattle.std.proofs.Common.{◌≡◌, ℕ, zero, suc, ◌+◌, ◌<◌, ◌⊎◌, inl, inr, Bool, ◌&&◌, List, [], ◌∷◌, length, drop, sym, ap, ◌∙◌, subst, arith}
use Rattle.std.specs.Prelude.{slice_get, IfSome}
use Rattle.std.specs.List.{list_all}
use Rattle.sn_width.specs.declared.ids.SymId.{SymId}

-- one more element that a test was tried on
pub test_step : {X : Type 0} (p : X → Bool) (xs : List X) (i : ℕ) (r : Bool) → i < length xs → IfSome (slice_get xs i) (λ x. r ≡ p x) → list_all p (drop i xs) ≡ (r && list_all p (drop (i + 1) xs))
test_step p [] i r lt h = absurd (omega arith)
test_step p (x ∷ xs) zero r lt h = ap (λ b. b && list_all p xs) (sym h)
test_step p (x ∷ xs) (suc i) r lt h =
    let next : suc (i + 1) ≡ suc i + 1 = omega arith in
    test_step p xs i r (omega arith) h ∙ ap (λ k. r && list_all p (drop k (x ∷ xs))) next

up_to : (m n : ℕ) → m < n + 1 → (m < n) ⊎ (n ≡ m)
up_to m n h = search arith

-- what holds of each of the first `n` symbols, and of the next one
pub next_symbol : (P : SymId → Type 0) (n : ℕ) → ((s : SymId) → s.0 < n → P s) → P record { 0 = n } → (s : SymId) → s.0 < n + 1 → P s
next_symbol P n all here s lt =
    elim (up_to s.0 n lt) [
      | inl below ↦ all s below
      | inr same ↦ subst P (λ i. record { 0 = same i }) here
    ]
