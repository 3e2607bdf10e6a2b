-- Choices of cases, one list after the other.
use Rattle.std.proofs.Common.{◌≡◌, ℕ, ◌+◌, ◌<◌, List, [], ◌∷◌, ◌++◌, refl, sym, ap, ap₂, ◌∙◌, append_assoc, append-nil, drop, get_or, length}
use Rattle.std.proofs.lemmas.List.{map-append, drop_more}
use Rattle.std.proofs.lemmas.List.Concat.{flat_map-append}
use Rattle.path_formula.specs.Formulas.{formula}
use Rattle.path_formula.specs.View.{view, views}
use Rattle.path_formula.specs.declared.formula.Formula.{Formula}
use Rattle.path_formula.specs.Bounds.{Case}
use Rattle.path_formula.specs.Cases.{with_bounds, joined}

with_none : (cases : List Case) → with_bounds cases [] ≡ cases
with_none [] = refl
with_none (c ∷ cases) = ap (λ cs. c ∷ cs) (with_none cases)

-- one case without bounds is neutral
pub joined_first : (cases : List Case) → joined ([] ∷ []) cases ≡ cases
joined_first cases = append-nil (with_bounds cases []) ∙ with_none cases

pub joined_last : (cases : List Case) → joined cases ([] ∷ []) ≡ cases
joined_last [] = refl
joined_last (c ∷ cases) = ap₂ (λ x xs. x ∷ xs) (append-nil c) (joined_last cases)

with_both : (cases : List Case) (x y : Case) → with_bounds (with_bounds cases y) x ≡ with_bounds cases (x ++ y)
with_both [] x y = refl
with_both (c ∷ cases) x y = ap₂ (λ z zs. z ∷ zs) (sym (append_assoc x y c)) (with_both cases x y)

with_joined : (ys zs : List Case) (x : Case) → with_bounds (joined ys zs) x ≡ joined (with_bounds ys x) zs
with_joined [] zs x = refl
with_joined (y ∷ ys) zs x =
    map-append (λ (c : Case). x ++ c) (with_bounds zs y) (joined ys zs) ∙ ap₂ ◌++◌ (with_both zs x y) (with_joined ys zs x)

pub joined_assoc : (xs ys zs : List Case) → joined xs (joined ys zs) ≡ joined (joined xs ys) zs
joined_assoc [] ys zs = refl
joined_assoc (x ∷ xs) ys zs =
    ap₂ ◌++◌ (with_joined ys zs x) (joined_assoc xs ys zs) ∙ sym (flat_map-append (with_bounds zs) (with_bounds ys x) (joined xs ys))

-- the first of the formulas that are left
pub next_formula : (fs : List Formula) (i : ℕ) (f : Formula) → i < length fs → f ≡ get_or fs i f → views (drop i fs) ≡ formula (view f) (views (drop (i + 1) fs))
next_formula fs i f lt is = ap views (drop_more fs i f lt ∙ ap (λ g. g ∷ drop (i + 1) fs) (sym is))
