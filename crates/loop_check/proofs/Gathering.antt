-- Values that a loop gathers.
use Rattle.std.proofs.Common.{◌≡◌, ◌∙◌, ◌+◌, ◌<◌, ◌≤◌, ℕ, List, [], ◌∷◌, ◌++◌, length, drop, get_or, sym, ap, append_assoc}
use Rattle.std.proofs.lemmas.List.{append-nil, drop_all, drop_more}
use Rattle.lin_term.specs.Terms.{LinearTerm}

-- what each member adds, and what all add
module _ {X : Type 0} (all : List X → List LinearTerm) (each : X → List LinearTerm) (more : (x : X) (xs : List X) → all (x ∷ xs) ≡ each x ++ all xs) where
  -- what was gathered, and what is left, is the whole, with one member more
  pub gathered_more : (xs : List X) (k : ℕ) (x : X) → k < length xs → x ≡ get_or xs k x → (old new whole : List LinearTerm) → new ≡ old ++ each x
      → old ++ all (drop k xs) ≡ whole → new ++ all (drop (k + 1) xs) ≡ whole
  gathered_more xs k x less at old new whole e h =
      ap (λ z. z ++ all (drop (k + 1) xs)) e
      ∙ (append_assoc old (each x) (all (drop (k + 1) xs))
      ∙ (ap (λ z. old ++ z)
      (sym (ap all (drop_more xs k x less ∙ ap (λ (y : X). y ∷ drop (k + 1) xs) (sym at)) ∙ more x (drop (k + 1) xs)))
      ∙ h))

  -- nothing is left
  pub gathered_all : all [] ≡ [] → (xs : List X) (k : ℕ) → length xs ≤ k → (new whole : List LinearTerm) → new ++ all (drop k xs) ≡ whole → new ≡ whole
  gathered_all none xs k long new whole h =
      sym (append-nil new) ∙ (ap (λ z. new ++ z) (sym (ap all (drop_all k xs long) ∙ none)) ∙ h)
