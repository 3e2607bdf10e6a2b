-- Beginnings of lists.
use Rattle.std.proofs.Common.{◌≡◌, ℕ, zero, suc, ◌<◌, List, [], ◌∷◌, ◌++◌, length, length-append, drop, Some, refl, sym, ap, ◌∙◌, subst, arith}
use Rattle.std.specs.Prelude.{slice_get}
use Rattle.std.proofs.Math.Seq.{take-length}
use Rattle.std.proofs.lemmas.List.{take-append-drop, take-append-le}
use Rattle.path_cond.specs.Linked.{IsBeginningOf}

module _ {V : Type 0} where
  -- a place keeps what it holds where more comes after
  pub slice_get_before : (xs ys : List V) (i : ℕ) → i < length xs → slice_get (xs ++ ys) i ≡ slice_get xs i
  slice_get_before [] ys i h = absurd (omega arith)
  slice_get_before (x ∷ xs) ys zero h = refl
  slice_get_before (x ∷ xs) ys (suc i) h = slice_get_before xs ys i (omega arith)

  pub slice_get_last : (xs : List V) (x : V) (i : ℕ) → i ≡ length xs → slice_get (xs ++ x ∷ []) i ≡ Some x
  slice_get_last [] x zero h = refl
  slice_get_last [] x (suc i) h = absurd (omega arith)
  slice_get_last (y ∷ ys) x zero h = absurd (omega arith)
  slice_get_last (y ∷ ys) x (suc i) h = slice_get_last ys x i (omega arith)

  -- a list is its beginning and what comes after
  whole : (ys xs : List V) → IsBeginningOf ys xs → ys ≡ xs ++ drop (length xs) ys
  whole ys xs h = sym (take-append-drop (length xs) ys) ∙ ap (λ zs. zs ++ drop (length xs) ys) (sym h.1)

  pub slice_get_beginning : (ys xs : List V) (i : ℕ) → IsBeginningOf ys xs → i < length xs → slice_get xs i ≡ slice_get ys i
  slice_get_beginning ys xs i h lt = sym (ap (λ zs. slice_get zs i) (whole ys xs h) ∙ slice_get_before xs (drop (length xs) ys) i lt)

  pub begins_itself : (xs : List V) → IsBeginningOf xs xs
  begins_itself xs = (omega arith, sym (take-length xs))

  pub begins_more : (ys xs zs : List V) → IsBeginningOf ys xs → IsBeginningOf (ys ++ zs) xs
  begins_more ys xs zs h = let fits = h.0 in (omega (arith, length-append ys zs), h.1 ∙ sym (take-append-le (length xs) ys zs h.0))

  begins_longer : (zs ys xs : List V) → IsBeginningOf zs ys → IsBeginningOf ys xs → IsBeginningOf zs xs
  begins_longer zs ys xs h k = subst (λ ws. IsBeginningOf ws xs) (sym (whole zs ys h)) (begins_more ys xs (drop (length ys) zs) k)

  -- where two jumps lead
  pub two_jumps : (before jump next_before next_jump : List V) (value next_value : V) → IsBeginningOf before jump → jump ≡ next_before ++ next_value ∷ [] → IsBeginningOf next_before next_jump
      → IsBeginningOf (before ++ value ∷ []) next_jump
  two_jumps before jump next_before next_jump value next_value h is k =
      begins_more before next_jump (value ∷ [])
      (begins_longer before jump next_jump h (subst (λ ws. IsBeginningOf ws next_jump) (sym is) (begins_more next_before next_jump (next_value ∷ []) k)))
