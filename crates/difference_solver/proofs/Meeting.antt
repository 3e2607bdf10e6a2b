-- Integers that meet one case of each choice.
use Rattle.std.proofs.Common.{◌≡◌, ℕ, zero, suc, ◌<◌, ℤ, List, [], ◌∷◌, ◌++◌, inl, inr, length, length-append, map, get_or, arith, subst}
use Rattle.std.specs.Prelude.{All}
use Rattle.std.specs.Global.{Vec}
use Rattle.std.proofs.lemmas.List.{get_or_append_left}
use Rattle.std.proofs.lemmas.List.Elements.{All-append, Contains-append_left, Contains-append_right}
use Rattle.difference_solver.specs.Bound.{Meets}
use Rattle.difference_solver.specs.declared.bound.Bound.{Bound}
use Rattle.difference_solver.specs.Choices.{Case, items_of, MeetsOne, MeetsEach, with_each, cases_at, HasBelow}

pub all_left : {X : Type 0} (P : X → Type 0) (xs ys : List X) → All P (xs ++ ys) → All P xs
all_left P xs ys h = λ k d lt. subst P (get_or_append_left xs ys d k lt) (h k d (omega (arith, length-append xs ys)))

pub one_append_left : (v : List ℤ) (xs ys : List Case) → MeetsOne v xs → MeetsOne v (xs ++ ys)
one_append_left v [] ys h = absurd h
one_append_left v (x ∷ xs) ys h = elim h [ inl a ↦ inl a | inr b ↦ inr (one_append_left v xs ys b) ]

pub one_append_right : (v : List ℤ) (xs ys : List Case) → MeetsOne v ys → MeetsOne v (xs ++ ys)
one_append_right v [] ys h = h
one_append_right v (x ∷ xs) ys h = inr (one_append_right v xs ys h)

-- what meets the bounds and one of the cases meets the bounds with one of the cases
pub one_with : (v : List ℤ) (gathered : Case) (cases : List Case) → All (Meets v) gathered → MeetsOne v cases → MeetsOne v (with_each gathered cases)
one_with v gathered [] g h = h
one_with v gathered (c ∷ cases) g h =
    elim h [
      | inl a ↦ inl (All-append (Meets v) gathered c g a)
      | inr b ↦ inr (one_with v gathered cases g b)
    ]

pub each_at : (v : List ℤ) (choices : List (List Case)) (k : ℕ) → k < length choices → MeetsEach v choices → MeetsOne v (cases_at choices k)
each_at v [] k lt h = absurd (omega arith)
each_at v (c ∷ choices) zero lt h = h.0
each_at v (c ∷ choices) (suc k) lt h = each_at v choices k (omega arith) h.1

pub one_at : (v : List ℤ) (cases : List (Vec Bound)) (i : ℕ) (x : Vec Bound) → i < length cases → x ≡ get_or cases i x → All (Meets v) x.items → MeetsOne v (map items_of cases)
one_at v [] i x lt is h = absurd (omega arith)
one_at v (c ∷ cases) zero x lt is h = inl (subst (λ (y : Vec Bound). All (Meets v) y.items) is h)
one_at v (c ∷ cases) (suc i) x lt is h = inr (one_at v cases i x (omega arith) is h)

pub each_push : (v : List ℤ) (choices : List (List Case)) (cases : List Case) → MeetsEach v choices → MeetsOne v cases → MeetsEach v (choices ++ cases ∷ [])
each_push v [] cases h g = (g, tt)
each_push v (c ∷ choices) cases h g = (h.0, each_push v choices cases h.1 g)

pub has_below_left : (u : ℕ) (xs ys : Case) → HasBelow u xs → HasBelow u (xs ++ ys)
has_below_left u xs ys (b, within, plus, minus) = (b, Contains-append_left xs ys b within, plus, minus)

pub has_below_right : (u : ℕ) (xs ys : Case) → HasBelow u ys → HasBelow u (xs ++ ys)
has_below_right u xs ys (b, within, plus, minus) = (b, Contains-append_right xs ys b within, plus, minus)
