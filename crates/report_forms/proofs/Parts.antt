-- The parts of a term, read from a place on.
use Rattle.std.proofs.Common.{◌≡◌, ◌∙◌, ◌+◌, ℕ, zero, suc, List, [], ◌∷◌, drop, Some, sym, ap, subst, add-one}
use Rattle.std.specs.Prelude.{slice_get}
use Rattle.std.specs.List.{AllByRecursion}
use Rattle.lin_term.specs.Terms.{Part}
use Rattle.report_forms.specs.Fits.{PartFits}

next : (xs : List Part) (i : ℕ) (x : Part) → slice_get xs i ≡ Some x → drop i xs ≡ x ∷ drop (suc i) xs
next [] i x e = cc
next (y ∷ xs) zero x e = let is : y ≡ x = cc in ap (λ z. z ∷ xs) is
next (y ∷ xs) (suc i) x e = next xs i x e

-- one part more fits
pub part_read : (parts : List Part) (i n : ℕ) (p : Part) → slice_get parts i ≡ Some p → n ≡ i + 1 → PartFits p
    → (AllByRecursion PartFits (drop i parts) → AllByRecursion PartFits parts) → AllByRecursion PartFits (drop n parts) → AllByRecursion PartFits parts
part_read parts i n p e moved fits rest h =
    let left : drop i parts ≡ p ∷ drop n parts = next parts i p e ∙ ap (λ k. p ∷ drop k parts) (sym (moved ∙ add-one i)) in
    rest (subst (AllByRecursion PartFits) (sym left) (fits, h))
