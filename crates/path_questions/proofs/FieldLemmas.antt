-- Members of lists as they come; fields by their words.
use Rattle.std.proofs.Common.{◌≡◌, ◌∙◌, ℕ, ◌+◌, ◌<◌, inl, inr, List, ◌∷◌, length, drop, get_or, sym, ap, subst, Option, Some, None}
use Rattle.std.proofs.lemmas.List.{drop_more}
use Rattle.sefl_syntax.specs.declared.job.RawField.{RawField}
use Rattle.sefl_syntax.specs.declared.reference.Target.{Target}
use Rattle.net_check.specs.Network.{unknown_width}
use Rattle.path_questions.specs.declared.question.InjectedField.{InjectedField}
use Rattle.path_questions.specs.Asked.{FoundField, field_seen}

pub next_is : {A : Type 0} (xs : List A) (n : ℕ) (x : A) → n < length xs → x ≡ get_or xs n x → drop n xs ≡ x ∷ drop (n + 1) xs
next_is xs n x less is = drop_more xs n x less ∙ ap (λ y. y ∷ drop (n + 1) xs) (sym is)

-- a field that has other words
another : (number : ℕ) (target : Target) (f : RawField) (fs : List RawField) (found : Option InjectedField) → (f.target ≡ target → ⊥)
    → FoundField (number + length (unknown_width f)) target fs found → FoundField number target (f ∷ fs) found
another number target f fs None other h = (other, h)
another number target f fs (Some field) other h = inr (other, h)

module _ (number : ℕ) (target : Target) (fields : List RawField) (n : ℕ) (f : RawField) (less : n < length fields) (is : f ≡ get_or fields n f) where
  pub found_here : (field : InjectedField) → f.target ≡ target → field_seen field ≡ record { target = target; given = f.value; number = number }
      → FoundField number target (drop n fields) (Some field)
  found_here field same e = subst (λ fs. FoundField number target fs (Some field)) (sym (next_is fields n f less is)) (inl (same, e))

  pub found_later : (next : ℕ) → next ≡ number + length (unknown_width f) → (f.target ≡ target → ⊥) → (found : Option InjectedField)
      → FoundField next target (drop (n + 1) fields) found → FoundField number target (drop n fields) found
  found_later next e other found h =
      subst (λ fs. FoundField number target fs found) (sym (next_is fields n f less is))
      (another number target f (drop (n + 1) fields) found other (subst (λ m. FoundField m target (drop (n + 1) fields) found) e h))
