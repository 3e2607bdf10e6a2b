-- Choices that are looked at one by one.
use Rattle.std.proofs.Common.{◌≡◌, ℕ, zero, suc, ◌+◌, ◌<◌, ◌≤◌, List, [], ◌∷◌, ◌++◌, inl, inr, length, get_or, map, take, arith, sym, ap, subst, ◌∙◌}
use Rattle.std.specs.Prelude.{All}
use Rattle.std.proofs.lemmas.List.{map_more, take_all}
use Rattle.std.proofs.lemmas.List.Elements.{All-push}
use Rattle.difference_solver.specs.Choices.{Case, lists_of, cases_of, HasBelow, EachHasBelow, OneHasBelow}
use Rattle.difference_solver.specs.declared.choice.Choice.{Choice}

more : {X Y : Type 0} (f : X → Y) (xs : List X) (i : ℕ) (x : X) → i < length xs → x ≡ get_or xs i x → map f (take (i + 1) xs) ≡ map f (take i xs) ++ f x ∷ []
more f xs i x lt is = map_more f xs i x lt ∙ ap (λ y. map f (take i xs) ++ f y ∷ []) (sym is)

pub all_more : {X Y : Type 0} (P : Y → Type 0) (f : X → Y) (xs : List X) (i : ℕ) (x : X) → i < length xs → x ≡ get_or xs i x → P (f x) → All P (map f (take i xs)) → All P (map f (take (i + 1) xs))
all_more P f xs i x lt is here before =
    subst (λ ys. All P ys) (sym (more f xs i x lt is)) (All-push P (map f (take i xs)) (f x) before here)

pub all_taken : {X Y : Type 0} (P : Y → Type 0) (f : X → Y) (xs : List X) (n : ℕ) → length xs ≤ n → All P (map f (take n xs)) → All P (map f xs)
all_taken P f xs n whole h = subst (λ ys. All P (map f ys)) (take_all n xs whole) h

below_push : (u : ℕ) (cases : List Case) (case : Case) → HasBelow u case → EachHasBelow u cases → EachHasBelow u (cases ++ case ∷ [])
below_push u [] case here before = (here, tt)
below_push u (c ∷ cases) case here before = (before.0, below_push u cases case here before.1)

pub below_more : {X : Type 0} (u : ℕ) (f : X → Case) (xs : List X) (i : ℕ) (x : X) → i < length xs → x ≡ get_or xs i x → HasBelow u (f x) → EachHasBelow u (map f (take i xs)) → EachHasBelow u (map f (take (i + 1) xs))
below_more u f xs i x lt is here before =
    subst (λ ys. EachHasBelow u ys) (sym (more f xs i x lt is)) (below_push u (map f (take i xs)) (f x) here before)

pub one_below_at : (u : ℕ) (choices : List Choice) (i : ℕ) (x : Choice) → i < length choices → x ≡ get_or choices i x → EachHasBelow u (cases_of x) → OneHasBelow u (lists_of choices)
one_below_at u [] i x lt is h = absurd (omega arith)
one_below_at u (c ∷ choices) zero x lt is h = inl (subst (λ y. EachHasBelow u (cases_of y)) is h)
one_below_at u (c ∷ choices) (suc i) x lt is h = inr (one_below_at u choices i x (omega arith) is h)
