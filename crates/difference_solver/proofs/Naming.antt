-- Names of unknowns, and their places.
use Rattle.std.proofs.Common.{◌≡◌, ℕ, zero, suc, ◌+◌, ◌-◌, ◌<◌, ◌≤◌, Bool, true, false, cond, eqb, eq-eqb, ne_eqb, List, [], ◌∷◌, ◌++◌, append_assoc, append-nil, inl, inr, length, arith, refl, ap, sym, ◌∙◌}
use Rattle.std.specs.Prelude.{slice_index}
use Rattle.std.proofs.lemmas.Bool.{cases_lt, cases_order}
use Rattle.difference_solver.specs.Renaming.{one_name, passing, names_of, place_of}

-- a name is one of the numbers, and it passes
record IsName (test : ℕ → Bool) (first n name : ℕ) : Type 0 where
  pub passes : test name ≡ true
  pub from_first : first ≤ name
  pub below : name < first + n

wider : (test : ℕ → Bool) (first n name : ℕ) → IsName test (suc first) n name → IsName test first (suc n) name
wider test first n name h =
    record { passes = h.passes; from_first = omega (arith, h.from_first); below = omega (arith, h.below) }

name_by : (test : ℕ → Bool) (first n : ℕ) (names : List ℕ) (b : Bool) → test first ≡ b → ((i : ℕ) → i < length names → IsName test (suc first) n (slice_index names i)) → (i : ℕ) → i < length (cond b (first ∷ names) names) → IsName test first (suc n) (slice_index (cond b (first ∷ names) names) i)
name_by test first n names true is h zero lt = record { passes = is; from_first = omega arith; below = omega arith }
name_by test first n names true is h (suc i) lt = wider test first n (slice_index names i) (h i (omega arith))
name_by test first n names false is h i lt = wider test first n (slice_index names i) (h i lt)

name_at : (test : ℕ → Bool) (first n i : ℕ) → i < length (passing test first n) → IsName test first n (slice_index (passing test first n) i)
name_at test first zero i lt = absurd (omega arith)
name_at test first (suc n) i lt =
    name_by test first n (passing test (suc first) n) (test first) refl (name_at test (suc first) n) i lt

ascend_by : (test : ℕ → Bool) (first n : ℕ) (names : List ℕ) (b : Bool) → ((i : ℕ) → i < length names → IsName test (suc first) n (slice_index names i)) → ((i j : ℕ) → i < j → j < length names → slice_index names i < slice_index names j) → (i j : ℕ) → i < j → j < length (cond b (first ∷ names) names) → slice_index (cond b (first ∷ names) names) i < slice_index (cond b (first ∷ names) names) j
ascend_by test first n names true is h i zero before lt = absurd (omega arith)
ascend_by test first n names true is h zero (suc j) before lt = let a = (is j (omega arith)).from_first in omega (arith, a)
ascend_by test first n names true is h (suc i) (suc j) before lt = h i j (omega arith) (omega arith)
ascend_by test first n names false is h i j before lt = h i j before lt

ascends : (test : ℕ → Bool) (first n i j : ℕ) → i < j → j < length (passing test first n) → slice_index (passing test first n) i < slice_index (passing test first n) j
ascends test first zero i j before lt = absurd (omega arith)
ascends test first (suc n) i j before lt =
    ascend_by test first n (passing test (suc first) n) (test first) (name_at test (suc first) n) (ascends test (suc first) n) i j before lt

-- an unknown stands at its place
record IsPlaced (names : List ℕ) (u : ℕ) : Type 0 where
  pub within : place_of names u < length names
  pub there : slice_index names (place_of names u) ≡ u

placed_first : (first u : ℕ) (names : List ℕ) (b : Bool) → eqb first u ≡ b → b ≡ true → first ≡ u → (cond b 0 (suc (place_of names u)) < length (first ∷ names)) × (slice_index (first ∷ names) (cond b 0 (suc (place_of names u))) ≡ u)
placed_first first u names true e is same = (omega arith, same)
placed_first first u names false e is same = absurd (cc)

placed_later : (first u : ℕ) (names : List ℕ) (b : Bool) → b ≡ false → IsPlaced names u → (cond b 0 (suc (place_of names u)) < length (first ∷ names)) × (slice_index (first ∷ names) (cond b 0 (suc (place_of names u))) ≡ u)
placed_later first u names true is h = absurd (cc)
placed_later first u names false is h = (omega (arith, h.within), h.there)

placed_by : (test : ℕ → Bool) (first n u : ℕ) (names : List ℕ) (b : Bool) → test first ≡ b → (suc first ≤ u → IsPlaced names u) → first ≤ u → test u ≡ true → IsPlaced (cond b (first ∷ names) names) u
placed_by test first n u names true is later le passes =
    elim (cases_lt first u) [
      | inl before ↦
          let parts = placed_later first u names (eqb first u) (ne_eqb first u (λ e. absurd (omega arith))) (later (omega arith)) in
          record { within = parts.0; there = parts.1 }
      | inr here ↦
          let same : first ≡ u = omega arith in
          let parts = placed_first first u names (eqb first u) refl (eq-eqb first u same) same in
          record { within = parts.0; there = parts.1 }
    ]
placed_by test first n u names false is later le passes =
    elim (cases_lt first u) [
      | inl before ↦ later (omega arith)
      | inr here ↦ let same : u ≡ first = omega arith in let no = ap test same ∙ is in absurd (cc)
    ]

placed_in : (test : ℕ → Bool) (first n u : ℕ) → first ≤ u → u < first + n → test u ≡ true → IsPlaced (passing test first n) u
placed_in test first zero u le lt passes = absurd (omega arith)
placed_in test first (suc n) u le lt passes =
    placed_by test first n u (passing test (suc first) n) (test first) refl
    (λ more. placed_in test (suc first) n u more (omega arith) passes) le passes

first_by : (test : ℕ → Bool) (first : ℕ) (names : List ℕ) (b : Bool) → b ≡ true → (0 < length (cond b (first ∷ names) names)) × (slice_index (cond b (first ∷ names) names) 0 ≡ first)
first_by test first names true is = (omega arith, refl)
first_by test first names false is = absurd (cc)

-- the names of the unknowns from 0 to count that pass; 0 is one of them
pub record AreNames (count : ℕ) (test : ℕ → Bool) (names : List ℕ) : Type 0 where
  pub some : 0 < length names
  pub first : slice_index names 0 ≡ 0
  pub passes : (i : ℕ) → i < length names → test (slice_index names i) ≡ true
  pub within : (i : ℕ) → i < length names → slice_index names i ≤ count
  pub ascend : (i j : ℕ) → i < j → j < length names → slice_index names i < slice_index names j
  pub place : (u : ℕ) → u ≤ count → test u ≡ true → place_of names u < length names
  pub there : (u : ℕ) → u ≤ count → test u ≡ true → slice_index names (place_of names u) ≡ u

pub are_names : (count : ℕ) (test : ℕ → Bool) → test 0 ≡ true → AreNames count test (names_of test count)
are_names count test zero_passes =
    let parts = first_by test 0 (passing test 1 count) (test 0) zero_passes in
    record {
      some = parts.0;
      first = parts.1;
      passes = λ i lt. (name_at test 0 (suc count) i lt).passes;
      within = λ i lt. let b = (name_at test 0 (suc count) i lt).below in omega (arith, b);
      ascend = ascends test 0 (suc count);
      place = λ u le passes. (placed_in test 0 (suc count) u (omega arith) (omega arith) passes).within;
      there = λ u le passes. (placed_in test 0 (suc count) u (omega arith) (omega arith) passes).there;
    }

-- a name stands at its place alone
pub place_at : (count : ℕ) (test : ℕ → Bool) (names : List ℕ) (i : ℕ) → AreNames count test names → i < length names → place_of names (slice_index names i) ≡ i
place_at count test names i are lt =
    let u : ℕ = slice_index names i in
    let p : ℕ = place_of names (slice_index names i) in
    let within : place_of names (slice_index names i) < length names = are.place u (are.within i lt) (are.passes i lt) in
    let there : slice_index names (place_of names (slice_index names i)) ≡ slice_index names i = are.there u (are.within i lt) (are.passes i lt) in
    elim (cases_order p i) [
      | inl same ↦ same
      | inr other ↦ elim other [
        | inl before ↦ let less = are.ascend p i before lt in absurd (omega (arith, less, there))
        | inr after ↦ let less = are.ascend i p after within in absurd (omega (arith, less, there))
      ]
    ]

-- unknowns at one place are one
pub same_place : (count : ℕ) (test : ℕ → Bool) (names : List ℕ) (u t : ℕ) → AreNames count test names → u ≤ count → test u ≡ true → t ≤ count → test t ≡ true → place_of names u ≡ place_of names t → u ≡ t
same_place count test names u t are le passes le' passes' same =
    sym (are.there u le passes) ∙ ap (slice_index names) same ∙ are.there t le' passes'

pub place_of_zero : (count : ℕ) (test : ℕ → Bool) (names : List ℕ) → AreNames count test names → place_of names 0 ≡ 0
place_of_zero count test names are =
    ap (place_of names) (sym are.first) ∙ place_at count test names 0 are are.some

count_of : (count : ℕ) (test : ℕ → Bool) (first n : ℕ) → length (passing test first n) ≤ n
count_of count test first zero = omega arith
count_of count test first (suc n) = fewer (passing test (suc first) n) (test first) (count_of count test (suc first) n)
  where
    fewer : (names : List ℕ) (b : Bool) → length names ≤ n → length (cond b (first ∷ names) names) ≤ suc n
    fewer names true h = omega arith
    fewer names false h = omega arith

pub few_names : (count : ℕ) (test : ℕ → Bool) → length (names_of test count) ≤ suc count
few_names count test = count_of count test 0 (suc count)

-- the names from an unknown on
pub passing_more : (test : ℕ → Bool) (u limit : ℕ) → u < limit → passing test u (limit - u) ≡ cond (test u) (u ∷ passing test (u + 1) (limit - (u + 1))) (passing test (u + 1) (limit - (u + 1)))
passing_more test u limit lt =
    let left : limit - u ≡ suc (limit - (u + 1)) = omega arith in
    let next : suc u ≡ u + 1 = omega arith in
    ap (passing test u) left
    ∙ ap (λ (n : ℕ). cond (test u) (u ∷ passing test n (limit - (u + 1))) (passing test n (limit - (u + 1)))) next

-- the names so far and those that are left, once one unknown more has been looked at
chosen_name : (b : Bool) (u : ℕ) (rest : List ℕ) → cond b (u ∷ rest) rest ≡ cond b (u ∷ []) [] ++ rest
chosen_name true u rest = refl
chosen_name false u rest = refl

pub next_name : (test : ℕ → Bool) (u limit : ℕ) (old new : List ℕ) → u < limit → new ≡ old ++ one_name test u → old ++ passing test u (limit - u) ≡ passing test 0 limit
    → new ++ passing test (u + 1) (limit - (u + 1)) ≡ passing test 0 limit
next_name test u limit old new lt is h =
    let rest = passing test (u + 1) (limit - (u + 1)) in
    ap (λ (xs : List ℕ). xs ++ rest) is ∙ append_assoc old (one_name test u) rest
    ∙ ap (λ (ys : List ℕ). old ++ ys) (sym (passing_more test u limit lt ∙ chosen_name (test u) u rest)) ∙ h

pub all_names : (test : ℕ → Bool) (count u : ℕ) (names : List ℕ) → count + 1 ≤ u → names ++ passing test u (count + 1 - u) ≡ passing test 0 (count + 1) → names ≡ names_of test count
all_names test count u names past h =
    let none : count + 1 - u ≡ zero = omega arith in
    let one : count + 1 ≡ suc count = omega arith in
    sym (append-nil names) ∙ sym (ap (λ (n : ℕ). names ++ passing test u n) none) ∙ h ∙ ap (passing test 0) one

-- an unknown that is a name, or is none
pub is_name : (test : ℕ → Bool) (u : ℕ) (old new : List ℕ) → test u ≡ true → new ≡ old ++ u ∷ [] → new ≡ old ++ one_name test u
is_name test u old new on is = is ∙ sym (ap (λ (b : Bool). old ++ cond b (u ∷ []) []) on)

pub no_name : (test : ℕ → Bool) (u : ℕ) (old : List ℕ) → test u ≡ false → old ≡ old ++ one_name test u
no_name test u old off = sym (ap (λ (b : Bool). old ++ cond b (u ∷ []) []) off ∙ append-nil old)
