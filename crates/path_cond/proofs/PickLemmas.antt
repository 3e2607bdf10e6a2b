-- Formulas that pass a test, by their picks.
use Rattle.std.proofs.Common.{◌≡◌, ℕ, zero, suc, ◌+◌, Bool, true, false, cond, ◌&&◌, List, [], ◌∷◌, drop, Option, Some, refl, sym, ap, ◌∙◌, arith}
use Rattle.std.specs.Prelude.{reverse, slice_get}
use Rattle.std.specs.List.{list_all, position_from}
use Rattle.std.proofs.lemmas.List.{reverse-reverse}
use Rattle.path_cond.specs.Conditions.{Condition, Entry}
use Rattle.path_cond.specs.Summaries.{is_inside, picks_where, inside_picks}
use Rattle.path_cond.specs.Picks.{passes, are_inside_picks, first_where}

head_of : {E : Type 0} (xs : List E) (n : ℕ) (e : E) (es : List E) → drop n xs ≡ e ∷ es → slice_get xs n ≡ Some e
head_of [] zero e es h = cc
head_of [] (suc n) e es h = cc
head_of (x ∷ xs) zero e es h = let same : x ≡ e = cc in ap Some same
head_of (x ∷ xs) (suc n) e es h = head_of xs n e es h

tail_of : {E : Type 0} (xs : List E) (n : ℕ) (e : E) (es : List E) → drop n xs ≡ e ∷ es → drop (suc n) xs ≡ es
tail_of [] zero e es h = cc
tail_of [] (suc n) e es h = cc
tail_of (x ∷ xs) zero e es h = cc
tail_of (x ∷ xs) (suc n) e es h = tail_of xs n e es h

first_by : (a b : Bool) (n : ℕ) (p : ℕ → Bool) (rest : List ℕ) (o : Option ℕ) → first_where p rest ≡ o → (a ≡ true → p n ≡ b) → (a ≡ false → b ≡ false)
    → first_where p (cond a (n ∷ rest) rest) ≡ cond b (Some n) o
first_by true b n p rest o h on off = λ i. cond (on refl i) (Some n) (h i)
first_by false b n p rest o h on off = h ∙ ap (λ c. cond c (Some n) o) (sym (off refl))

all_by : (a : Bool) (n : ℕ) (p : ℕ → Bool) (rest : List ℕ) → list_all p rest ≡ true → p n ≡ a → list_all p (cond a (n ∷ rest) rest) ≡ true
all_by true n p rest h at = λ i. at i && h i
all_by false n p rest h at = h

first_from : {E : Type 0} (q r t : E → Bool) → ((e : E) → q e ≡ true → r e ≡ t e) → ((e : E) → q e ≡ false → t e ≡ false)
    → (xs : List E) (n : ℕ) (es : List E) → drop n xs ≡ es → first_where (λ p. passes r (slice_get xs p)) (picks_where q n es) ≡ position_from t n es
first_from q r t on off xs n [] h = refl
first_from q r t on off xs n (e ∷ es) h =
    let next : suc n ≡ n + 1 = omega arith in
    first_by (q e) (t e) n (λ p. passes r (slice_get xs p)) (picks_where q (suc n) es) (position_from t (suc n) es)
    (first_from q r t on off xs (suc n) es (tail_of xs n e es h)) (λ a. ap (passes r) (head_of xs n e es h) ∙ on e a) (off e)
    ∙ ap (λ k. cond (t e) (Some n) (position_from t k es)) next

all_from : {E : Type 0} (q : E → Bool) (xs : List E) (n : ℕ) (es : List E) → drop n xs ≡ es
    → list_all (λ p. passes q (slice_get xs p)) (picks_where q n es) ≡ true
all_from q xs n [] h = refl
all_from q xs n (e ∷ es) h =
    all_by (q e) n (λ p. passes q (slice_get xs p)) (picks_where q (suc n) es) (all_from q xs (suc n) es (tail_of xs n e es h))
    (ap (passes q) (head_of xs n e es h))

-- the first of the picks of one test that passes another
pub first_picked : (q r t : Entry → Bool) (es : List Entry) → ((e : Entry) → q e ≡ true → r e ≡ t e) → ((e : Entry) → q e ≡ false → t e ≡ false)
    → first_where (λ p. passes r (slice_get es p)) (picks_where q 0 es) ≡ position_from t 0 es
first_picked q r t es on off = first_from q r t on off es 0 es refl

-- the picks of a test pass it
pub all_picked : {E : Type 0} (q : E → Bool) (xs : List E) → list_all (λ p. passes q (slice_get xs p)) (picks_where q 0 xs) ≡ true
all_picked q xs = all_from q xs 0 xs refl

-- the picks of the inside formulas are of inside formulas
pub inside_are_inside : (c : Condition) (picks : List ℕ) → picks ≡ inside_picks c → are_inside_picks c picks ≡ true
inside_are_inside c picks is = ap (are_inside_picks c) is ∙ all_picked is_inside c.entries

pub reversed_twice : (picks : List ℕ) → reverse (reverse picks) ≡ picks
reversed_twice picks = reverse-reverse picks
