-- The order of words, and the first in that order of the lists of fitting numbers that pass a test.
use Rattle.std.proofs.Common.{◌≡◌, ◌⊎◌, ℕ, zero, suc, ◌+◌, ◌^◌, ◌<◌, ◌≤◌, Bool, true, false, ◌&&◌, ◌||◌, nat_eq, nat_lt, List, [], ◌∷◌, length, Some, refl, ap, subst, ◌∙◌, arith, inl, inr}
use Rattle.std.specs.Prelude.{slice_get, slice_index, slice_set}
use Rattle.std.proofs.lemmas.Bool.{cases_lt, eqb-true}
use Rattle.std.proofs.lemmas.Bool.Decides.{nat_tests}
use Rattle.path_formula.specs.Formulas.{FormulaTree}
use Rattle.path_cond.specs.Seen.{ConditionOf}
use Rattle.refutation_check.specs.Seen.{AreFitting, AreLeast, is_at_most}
use Rattle.path_solver.proofs.Ascending.{equal_first, lesser_first}
use Rattle.path_solver.proofs.Atoms.{or_cases}
use Rattle.path_solver.proofs.Numbering.{and_left, and_right}

is_less : (a b : ℕ) → nat_lt a b ≡ true → a < b
is_less a b h = grind (arith, nat_tests)

first_cases : (a b : ℕ) (rest : Bool) → (nat_lt a b || (nat_eq a b && rest)) ≡ true → (a < b) ⊎ ((a ≡ b) × (rest ≡ true))
first_cases a b rest h =
    elim (or_cases (nat_lt a b) (nat_eq a b && rest) h) [
      | inl lt ↦ inl (is_less a b lt)
      | inr e ↦ inr (eqb-true a b (and_left (nat_eq a b) rest e), and_right (nat_eq a b) rest e)
    ]

cons_same : (x y : ℕ) (xs ys : List ℕ) → x ≡ y → xs ≡ ys → x ∷ xs ≡ y ∷ ys
cons_same x y xs ys h g = cc

-- two lists are the same where each is at most the other
pub at_most_both : (xs ys : List ℕ) → is_at_most xs ys ≡ true → is_at_most ys xs ≡ true → xs ≡ ys
at_most_both [] [] h g = refl
at_most_both [] (y ∷ ys) h g = absurd (cc)
at_most_both (x ∷ xs) [] h g = absurd (cc)
at_most_both (x ∷ xs) (y ∷ ys) h g =
    elim (first_cases x y (is_at_most xs ys) h) [
      | inl lt ↦ elim (first_cases y x (is_at_most ys xs) g) [
        | inl gt ↦ absurd (omega arith)
        | inr e ↦ absurd
            (omega (arith, e.0))
      ]
      | inr e ↦
          elim (first_cases y x (is_at_most ys xs) g) [
            | inl gt ↦ absurd (omega (arith, e.0))
            | inr f ↦ cons_same x y xs ys e.0 (at_most_both xs ys e.1 f.1)
          ]
    ]

-- a condition has one list of least values
pub same_least : {X : Type 0} (tree : X → FormulaTree) (cond : ConditionOf X) (xs ys : List ℕ) → AreLeast tree cond xs → AreLeast tree cond ys → xs ≡ ys
same_least tree cond xs ys h g = at_most_both xs ys (h.first ys g.candidates) (g.first xs h.candidates)

-- where the list is at most one that differs from it in one place, it has no more there
pub at_most_set : (xs : List ℕ) (i v : ℕ) → i < length xs → is_at_most xs (slice_set xs i v) ≡ true → slice_index xs i ≤ v
at_most_set [] i v known h = absurd (omega arith)
at_most_set (x ∷ xs) zero v known h =
    elim (first_cases x v (is_at_most xs xs) h) [ inl lt ↦ omega arith | inr e ↦ omega (arith, e.0) ]
at_most_set (x ∷ xs) (suc i) v known h =
    elim (first_cases x x (is_at_most xs (slice_set xs i v)) h) [
      | inl lt ↦ absurd (omega arith)
      | inr e ↦ at_most_set xs
          i v (omega arith) e.1
    ]

-- of the lists with one fitting number for each width that pass the test, the first in the order of words
pub record IsFirst (widths : List ℕ) (p : List ℕ → Bool) (values : List ℕ) : Type 0 where
  pub fitting : AreFitting widths values
  pub passes : p values ≡ true
  pub first : (others : List ℕ) → AreFitting widths others → p others ≡ true → is_at_most values others ≡ true

-- no such list passes the test
abbrev pub NonePass : List ℕ → (List ℕ → Bool) → Type 0
NonePass widths p = (values : List ℕ) → AreFitting widths values → p values ≡ true → ⊥

abbrev pub FirstOrNone : List ℕ → (List ℕ → Bool) → Type 0
FirstOrNone widths p = ((values : List ℕ) × IsFirst widths p values) ⊎ NonePass widths p

is_empty : (values : List ℕ) → length values ≡ 0 → values ≡ []
is_empty [] e = refl
is_empty (v ∷ vs) e = absurd (omega arith)

empty_fits : AreFitting [] []
empty_fits = record { one_each = refl; fit = λ symbol width is. absurd (cc) }

empty_by : (p : List ℕ → Bool) (b : Bool) → p [] ≡ b → FirstOrNone [] p
empty_by p true e = inl ([], record { fitting = empty_fits; passes = e; first = λ others fit h. refl })
empty_by p false e = inr (λ values fit h. let none : values ≡ [] = is_empty values fit.one_each in absurd (cc))

cons_at : (w : ℕ) (ws : List ℕ) (v : ℕ) (vs : List ℕ) → v < 2 ^ w → AreFitting ws vs → (i width : ℕ)
    → slice_get (w ∷ ws) i ≡ Some width
    → slice_index (v ∷ vs) i < 2 ^ width
cons_at w ws v vs lt h zero width is = let same : w ≡ width = cc in subst (λ (n : ℕ). v < 2 ^ n) same lt
cons_at w ws v vs lt h (suc i) width is = h.fit i width is

cons_fits : (w : ℕ) (ws : List ℕ) (v : ℕ) (vs : List ℕ) → v < 2 ^ w → AreFitting ws vs → AreFitting (w ∷ ws) (v ∷ vs)
cons_fits w ws v vs lt h = record { one_each = ap suc h.one_each; fit = cons_at w ws v vs lt h }

head_fits : (w : ℕ) (ws : List ℕ) (v : ℕ) (vs : List ℕ) → AreFitting (w ∷ ws) (v ∷ vs) → v < 2 ^ w
head_fits w ws v vs h = h.fit 0 w refl

tail_fits : (w : ℕ) (ws : List ℕ) (v : ℕ) (vs : List ℕ) → AreFitting (w ∷ ws) (v ∷ vs) → AreFitting ws vs
tail_fits w ws v vs h = record { one_each = omega (arith, h.one_each); fit = λ i width is. h.fit (suc i) width is }

-- no list that begins with a number below n passes the test
abbrev NoneBelow : ℕ → List ℕ → (List ℕ → Bool) → ℕ → Type 0
NoneBelow w ws p n = (v : ℕ) (vs : List ℕ) → v < n → AreFitting (w ∷ ws) (v ∷ vs) → p (v ∷ vs) ≡ true → ⊥

none_of : (w : ℕ) (ws : List ℕ) (p : List ℕ → Bool) (n : ℕ) (values : List ℕ) → 2 ^ w ≤ n → NoneBelow w ws p n
    → AreFitting (w ∷ ws) values
    → p values ≡ true → ⊥
none_of w ws p n [] all below fit h = absurd (omega (arith, fit.one_each))
none_of w ws p n (v ∷ vs) all below fit h = below v vs (omega (arith, head_fits w ws v vs fit)) fit h

next_below : (w : ℕ) (ws : List ℕ) (p : List ℕ → Bool) (n : ℕ) → NoneBelow w ws p n → NonePass ws (λ vs. p (n ∷ vs))
    → NoneBelow w ws p (suc n)
next_below w ws p n below none = λ v vs lt fit h.
    elim (cases_lt v n) [
      | inl less ↦ below v vs less fit h
      | inr ge ↦ let same : v ≡ n = omega arith in none vs (tail_fits w ws v vs fit) (subst (λ (m : ℕ). p (m ∷ vs) ≡ true) same h)
    ]

first_by : (w : ℕ) (ws : List ℕ) (p : List ℕ → Bool) (n : ℕ) (vs others : List ℕ) → NoneBelow w ws p n
    → IsFirst ws (λ us. p (n ∷ us)) vs
    → AreFitting (w ∷ ws) others → p others ≡ true → is_at_most (n ∷ vs) others ≡ true
first_by w ws p n vs [] below f fit h = absurd (omega (arith, fit.one_each))
first_by w ws p n vs (m ∷ us) below f fit h =
    elim (cases_lt m n) [
      | inl less ↦ absurd (below m us less fit h)
      | inr ge ↦
          elim (cases_lt n m) [
            | inl more ↦ lesser_first n m vs us more
            | inr le ↦
                let same : m ≡ n = omega arith in
                let back : n ≡ m = omega arith in
                equal_first n m vs us back (f.first us (tail_fits w ws m us fit) (subst (λ (k : ℕ). p (k ∷ us) ≡ true) same h))
          ]
    ]

first_of : (w : ℕ) (ws : List ℕ) (p : List ℕ → Bool) (n : ℕ) (vs : List ℕ) → n < 2 ^ w → NoneBelow w ws p n
    → IsFirst ws (λ us. p (n ∷ us)) vs
    → IsFirst (w ∷ ws) p (n ∷ vs)
first_of w ws p n vs lt below f =
    record {
      fitting = cons_fits w ws n vs lt f.fitting;
      passes = f.passes;
      first = λ others fit h. first_by w ws p n vs others below f fit h;
    }

first_from : (w : ℕ) (ws : List ℕ) (p : List ℕ → Bool) → ((q : List ℕ → Bool) → FirstOrNone ws q) → (n left : ℕ)
    → n + left ≡ 2 ^ w
    → NoneBelow w ws p n → FirstOrNone (w ∷ ws) p
first_from w ws p tails n zero e below = inr (λ values fit h. none_of w ws p n values (omega arith) below fit h)
first_from w ws p tails n (suc left) e below =
    elim (tails (λ vs. p (n ∷ vs))) [
      | inl found ↦ inl (n ∷ found.0, first_of w ws p n found.0 (omega arith) below found.1)
      | inr none ↦ first_from w ws p tails (suc n) left (omega arith) (next_below w ws p n below none)
    ]

-- some list is the first that passes the test, or none passes it
pub first_or_none : (widths : List ℕ) (p : List ℕ → Bool) → FirstOrNone widths p
first_or_none [] p = empty_by p (p []) refl
first_or_none (w ∷ ws) p =
    first_from w ws p (λ q. first_or_none ws q) 0 (2 ^ w) (omega arith) (λ v vs lt fit h. absurd (omega arith))

-- a number that passes the test, or none below the count
abbrev pub NumberOrNone : (ℕ → Bool) → ℕ → Type 0
NumberOrNone p count = ((v : ℕ) × (p v ≡ true)) ⊎ ((v : ℕ) → v < count → p v ≡ false)

number_by : (p : ℕ → Bool) (n : ℕ) (b : Bool) → p n ≡ b → NumberOrNone p n → NumberOrNone p (suc n)
number_by p n true e rest = inl (n, e)
number_by p n false e (inl found) = inl found
number_by p n false e (inr none) =
    inr (λ v lt. elim (cases_lt v n) [
      | inl less ↦ none v less
      | inr ge ↦ let same : v ≡ n = omega arith in ap p same
          ∙ e
    ])

pub number_or_none : (p : ℕ → Bool) (count : ℕ) → NumberOrNone p count
number_or_none p zero = inr (λ v lt. absurd (omega arith))
number_or_none p (suc n) = number_by p n (p n) refl (number_or_none p n)
