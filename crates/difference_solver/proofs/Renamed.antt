-- Choices of a part, with new numbers for the unknowns.
use Rattle.std.proofs.Common.{◌≡◌, ℕ, zero, suc, ◌+◌, ◌-◌, ◌<◌, ◌≤◌, ℤ, pos, Bool, true, false, cond, List, [], ◌∷◌, ◌++◌, inl, inr, length, map, append_assoc, append-nil, arith, refl, ap, sym, subst, ◌∙◌}
use Rattle.std.specs.Prelude.{All, Contains, Some, slice_get, slice_index, ◌≤ℤ◌, ◌<ℤ◌, ◌+ℤ◌}
use Rattle.std.proofs.lemmas.Int.{ints}
use Rattle.std.proofs.lemmas.List.{length-map, get_or-map, map-append}
use Rattle.std.proofs.lemmas.List.Elements.{All-nil, All-cons, All-head, All-tail}
use Rattle.difference_solver.specs.declared.bound.Bound.{Bound}
use Rattle.difference_solver.specs.Bound.{Meets, number, IsInRange}
use Rattle.difference_solver.specs.Cycle.{IsWalk, at_most_of, total, IsNegativeCycle}
use Rattle.difference_solver.specs.Choices.{Case, MeetsOne, MeetsEach, with_each, cases_at, AreInRange, AreBelow, HasBelow, EachHasBelow, OneHasBelow, IsMet, IsUnmet, IsLeast}
use Rattle.difference_solver.specs.Parts.{has_label, case_passes, choice_passes, part_of, EachHasLabel, IsPartLeast}
use Rattle.difference_solver.specs.Renaming.{place_of, renamed, renamed_case, renamed_cases, renamed_choices, spread_at, spread}
use Rattle.difference_solver.specs.Steps.{Refutes}
use Rattle.difference_solver.specs.declared.choice.Step.{Step}
use Rattle.difference_solver.specs.declared.choice.Step.TheVariants.{Split, Cycle}
use Rattle.difference_solver.proofs.Naming.{AreNames, place_at, same_place, place_of_zero}
use Rattle.difference_solver.proofs.Passing.{two, three, each_part, part_below, label_is}
use Rattle.difference_solver.proofs.WordLemmas.{up_to_at}

-- the bound is one of unknowns of the part
pub record IsOf (count : ℕ) (test : ℕ → Bool) (b : Bound) : Type 0 where
  pub plus : test b.plus ≡ true
  pub minus : test b.minus ≡ true
  pub range : IsInRange count b

abbrev pub AreOf : ℕ → (ℕ → Bool) → Case → Type 0
AreOf count test [] = Unit {0}
AreOf count test (b ∷ case) = IsOf count test b × AreOf count test case

abbrev pub EachOf : ℕ → (ℕ → Bool) → List Case → Type 0
EachOf count test [] = Unit {0}
EachOf count test (case ∷ cases) = AreOf count test case × EachOf count test cases

abbrev pub AllOf : ℕ → (ℕ → Bool) → List (List Case) → Type 0
AllOf count test [] = Unit {0}
AllOf count test (cases ∷ choices) = EachOf count test cases × AllOf count test choices

of_case : (count : ℕ) (test : ℕ → Bool) (case : Case) → case_passes test case ≡ true → All (IsInRange count) case → AreOf count test case
of_case count test [] p h = tt
of_case count test (b ∷ case) p h =
    let ps = three (test b.plus) (test b.minus) (case_passes test case) p in (
      record { plus = ps.0; minus = ps.1; range = All-head (IsInRange count) b case h },
      of_case count test case ps.2 (All-tail (IsInRange count) b case h),
    )

of_cases : (count : ℕ) (test : ℕ → Bool) (cases : List Case) → choice_passes test cases ≡ true → All (All (IsInRange count)) cases → EachOf count test cases
of_cases count test [] p h = tt
of_cases count test (c ∷ cases) p h =
    let ps = two (case_passes test c) (choice_passes test cases) p in (
      of_case count test c ps.0 (All-head (All (IsInRange count)) c cases h),
      of_cases count test cases ps.1 (All-tail (All (IsInRange count)) c cases h),
    )

of_next : (count : ℕ) (test : ℕ → Bool) (cases : List Case) (rest : List (List Case)) (b : Bool) → choice_passes test cases ≡ b → All (All (IsInRange count)) cases → AllOf count test rest → AllOf count test (cond b (cases ∷ rest) rest)
of_next count test cases rest true p h next = (of_cases count test cases p h, next)
of_next count test cases rest false p h next = next

-- the bounds of a part are of its unknowns
pub of_part : (count : ℕ) (test : ℕ → Bool) (choices : List (List Case)) → AreInRange count choices → AllOf count test (part_of test choices)
of_part count test [] h = tt
of_part count test (c ∷ choices) h =
    of_next count test c (part_of test choices) (choice_passes test c) refl
    (All-head (All (All (IsInRange count))) c choices h)
    (of_part count test choices (All-tail (All (All (IsInRange count))) c choices h))

-- v has the integers of the unknowns that pass, and w has them by their new numbers
abbrev pub Shares : ℕ → (ℕ → Bool) → List ℕ → List ℤ → List ℤ → Type 0
Shares count test names v w = (u : ℕ) → u ≤ count → test u ≡ true → number w (place_of names u) ≡ number v u

same_order : (a b c d m : ℤ) → a ≡ b → c ≡ d → a ≤ℤ (c +ℤ m) → b ≤ℤ (d +ℤ m)
same_order a b c d m e f h = omega (arith, ints)

meets_to : (count : ℕ) (test : ℕ → Bool) (names : List ℕ) (v w : List ℤ) (b : Bound) → Shares count test names v w → IsOf count test b → Meets v b → Meets w (renamed names b)
meets_to count test names v w b shares is h =
    same_order (number v b.plus) (number w (place_of names b.plus)) (number v b.minus) (number w (place_of names b.minus)) b.at_most
    (sym (shares b.plus is.range.plus is.plus)) (sym (shares b.minus is.range.minus is.minus)) h

meets_back : (count : ℕ) (test : ℕ → Bool) (names : List ℕ) (v w : List ℤ) (b : Bound) → Shares count test names v w → IsOf count test b → Meets w (renamed names b) → Meets v b
meets_back count test names v w b shares is h =
    same_order (number w (place_of names b.plus)) (number v b.plus) (number w (place_of names b.minus)) (number v b.minus) b.at_most
    (shares b.plus is.range.plus is.plus) (shares b.minus is.range.minus is.minus) h

all_to : (count : ℕ) (test : ℕ → Bool) (names : List ℕ) (v w : List ℤ) (case : Case) → Shares count test names v w → AreOf count test case → All (Meets v) case → All (Meets w) (renamed_case names case)
all_to count test names v w [] shares is h = All-nil (Meets w)
all_to count test names v w (b ∷ case) shares is h =
    All-cons (Meets w) (renamed names b) (renamed_case names case)
    (meets_to count test names v w b shares is.0 (All-head (Meets v) b case h))
    (all_to count test names v w case shares is.1 (All-tail (Meets v) b case h))

all_back : (count : ℕ) (test : ℕ → Bool) (names : List ℕ) (v w : List ℤ) (case : Case) → Shares count test names v w → AreOf count test case → All (Meets w) (renamed_case names case) → All (Meets v) case
all_back count test names v w [] shares is h = All-nil (Meets v)
all_back count test names v w (b ∷ case) shares is h =
    All-cons (Meets v) b case
    (meets_back count test names v w b shares is.0 (All-head (Meets w) (renamed names b) (renamed_case names case) h))
    (all_back count test names v w case shares is.1 (All-tail (Meets w) (renamed names b) (renamed_case names case) h))

one_to : (count : ℕ) (test : ℕ → Bool) (names : List ℕ) (v w : List ℤ) (cases : List Case) → Shares count test names v w → EachOf count test cases → MeetsOne v cases → MeetsOne w (renamed_cases names cases)
one_to count test names v w [] shares is h = h
one_to count test names v w (c ∷ cases) shares is h =
    elim h [
      | inl a ↦ inl (all_to count test names v w c shares is.0 a)
      | inr b ↦ inr (one_to count test names v w cases shares is.1 b)
    ]

one_back : (count : ℕ) (test : ℕ → Bool) (names : List ℕ) (v w : List ℤ) (cases : List Case) → Shares count test names v w → EachOf count test cases → MeetsOne w (renamed_cases names cases) → MeetsOne v cases
one_back count test names v w [] shares is h = h
one_back count test names v w (c ∷ cases) shares is h =
    elim h [
      | inl a ↦ inl (all_back count test names v w c shares is.0 a)
      | inr b ↦ inr (one_back count test names v w cases shares is.1 b)
    ]

each_to : (count : ℕ) (test : ℕ → Bool) (names : List ℕ) (v w : List ℤ) (choices : List (List Case)) → Shares count test names v w → AllOf count test choices → MeetsEach v choices → MeetsEach w (renamed_choices names choices)
each_to count test names v w [] shares is h = tt
each_to count test names v w (c ∷ choices) shares is h =
    (one_to count test names v w c shares is.0 h.0, each_to count test names v w choices shares is.1 h.1)

each_back : (count : ℕ) (test : ℕ → Bool) (names : List ℕ) (v w : List ℤ) (choices : List (List Case)) → Shares count test names v w → AllOf count test choices → MeetsEach w (renamed_choices names choices) → MeetsEach v choices
each_back count test names v w [] shares is h = tt
each_back count test names v w (c ∷ choices) shares is h =
    (one_back count test names v w c shares is.0 h.0, each_back count test names v w choices shares is.1 h.1)

-- the integers by their new numbers
abbrev picked : List ℕ → List ℤ → List ℤ
picked names v = map (number v) names

picked_at : (names : List ℕ) (v : List ℤ) (i : ℕ) → i < length names → number (picked names v) i ≡ number v (slice_index names i)
picked_at names v i lt = get_or-map (number v) names i 0 (pos 0) lt

picked_shares : (count : ℕ) (test : ℕ → Bool) (names : List ℕ) (v : List ℤ) → AreNames count test names → Shares count test names v (picked names v)
picked_shares count test names v are = λ u le passes.
    picked_at names v (place_of names u) (are.place u le passes) ∙ ap (number v) (are.there u le passes)

-- integers of all unknowns are integers of a part
pub picked_met : (count last : ℕ) (test : ℕ → Bool) (names : List ℕ) (choices : List (List Case)) (w : List ℤ) → AreNames count test names → suc last ≡ length names → AreInRange count choices → IsMet count choices w → IsMet last (renamed_choices names (part_of test choices)) (picked names w)
picked_met count last test names choices w are many ranges met =
    record {
      one_each = omega (arith, length-map names (number w), many);
      first = picked_at names w 0 are.some ∙ ap (number w) are.first ∙ met.first;
      met = each_to count test names w (picked names w) (part_of test choices) (picked_shares count test names w are) (of_part count test choices ranges) (each_part test w choices met.met);
    }

pub renamed_unmet : (count last : ℕ) (test : ℕ → Bool) (names : List ℕ) (choices : List (List Case)) → AreNames count test names → suc last ≡ length names → AreInRange count choices → IsUnmet last (renamed_choices names (part_of test choices)) → IsUnmet count choices
renamed_unmet count last test names choices are many ranges none = λ w met.
    none (picked names w) (picked_met count last test names choices w are many ranges met)

-- integers that are spread
spread_length : (test : ℕ → Bool) (names : List ℕ) (v : List ℤ) (first n : ℕ) → length (spread test names v first n) ≡ n
spread_length test names v first zero = refl
spread_length test names v first (suc n) = ap suc (spread_length test names v (suc first) n)

spread_number : (test : ℕ → Bool) (names : List ℕ) (v : List ℤ) (first n i : ℕ) → i < n → number (spread test names v first n) i ≡ cond (test (first + i)) (number v (place_of names (first + i))) (pos 0)
spread_number test names v first zero i lt = absurd (omega arith)
spread_number test names v first (suc n) zero lt =
    let e : first ≡ first + 0 = omega arith in
    ap (λ (u : ℕ). cond (test u) (number v (place_of names u)) (pos 0)) e
spread_number test names v first (suc n) (suc i) lt =
    let e : suc first + i ≡ first + suc i = omega arith in
    spread_number test names v (suc first) n i (omega arith)
    ∙ ap (λ (u : ℕ). cond (test u) (number v (place_of names u)) (pos 0)) e

spread_shares : (count : ℕ) (test : ℕ → Bool) (names : List ℕ) (v : List ℤ) → Shares count test names (spread test names v 0 (suc count)) v
spread_shares count test names v = λ u le passes.
    let e : 0 + u ≡ u = omega arith in
    sym (spread_number test names v 0 (suc count) u (omega arith)
    ∙ ap (λ (t : ℕ). cond (test t) (number v (place_of names t)) (pos 0)) e
    ∙ ap (λ (b : Bool). cond b (number v (place_of names u)) (pos 0)) passes)

-- the least integers of the choices with new numbers are the least of the part
pub spread_least : (count last : ℕ) (test : ℕ → Bool) (names : List ℕ) (choices : List (List Case)) (v found : List ℤ) → test 0 ≡ true → AreNames count test names → suc last ≡ length names → AreInRange count choices → found ≡ spread test names v 0 (suc count) → IsLeast last (renamed_choices names (part_of test choices)) v → IsPartLeast count test choices found
spread_least count last test names choices v found zero_passes are many ranges is least =
    subst (λ (x : List ℤ). IsPartLeast count test choices x) (sym is)
    (least_of count last test names choices v zero_passes are many ranges least)
  where
    -- two lists agree before a place
    agree_before : (count : ℕ) (test : ℕ → Bool) (names : List ℕ) (full v w : List ℤ) (u t : ℕ) → AreNames count test names → Shares count test names full v → u ≤ count → test u ≡ true → ((s : ℕ) → s < u → test s ≡ true → number full s ≡ number w s) → t < place_of names u → number v t ≡ number (picked names w) t
    agree_before count test names full v w u t are shares le passes same before =
        let within : t < length names = omega (arith, are.place u le passes) in
        let s : ℕ = slice_index names t in
        let less : slice_index names t < u = omega (arith, are.ascend t (place_of names u) before (are.place u le passes), are.there u le passes) in
        ap (number v) (sym (place_at count test names t are within))
        ∙ shares s (are.within t within) (are.passes t within)
        ∙ same s less (are.passes t within)
        ∙ sym (picked_at names w t within)

    least_of : (count last : ℕ) (test : ℕ → Bool) (names : List ℕ) (choices : List (List Case)) (v : List ℤ) → test 0 ≡ true → AreNames count test names → suc last ≡ length names → AreInRange count choices → IsLeast last (renamed_choices names (part_of test choices)) v → IsPartLeast count test choices (spread test names v 0 (suc count))
    least_of count last test names choices v zero_passes are many ranges least =
        let full : List ℤ = spread test names v 0 (suc count) in
        let shares : Shares count test names full v = spread_shares count test names v in
        record {
          one_each = omega (arith, spread_length test names v 0 (suc count));
          first = sym (shares 0 (omega arith) zero_passes) ∙ ap (number v) (place_of_zero count test names are) ∙ least.met.first;
          met = each_back count test names full v (part_of test choices) shares (of_part count test choices ranges) least.met.met;
          least = λ w met u le passes same.
              let other = picked_met count last test names choices w are many ranges met in
              subst (λ (x : ℤ). x ≤ℤ number w u) (shares u le passes)
              (subst (λ (x : ℤ). number v (place_of names u) ≤ℤ x) (picked_shares count test names w are u le passes)
              (up_to_at v (picked names w) (place_of names u) (least.met.one_each ∙ sym other.one_each) (least.least (picked names w) other)
              (omega (arith, are.place u le passes, many, least.met.one_each))
              (λ t before. agree_before count test names full v w u t are shares le passes same before)));
        }

-- new numbers are in range
in_range_case : (count last : ℕ) (test : ℕ → Bool) (names : List ℕ) (case : Case) → AreNames count test names → suc last ≡ length names → AreOf count test case → All (IsInRange last) (renamed_case names case)
in_range_case count last test names [] are many is = All-nil (IsInRange last)
in_range_case count last test names (b ∷ case) are many is =
    All-cons (IsInRange last) (renamed names b) (renamed_case names case)
    (record {
      plus = omega (arith, are.place b.plus is.0.range.plus is.0.plus, many);
      minus = omega (arith, are.place b.minus is.0.range.minus is.0.minus, many);
      at_least = is.0.range.at_least;
      at_most = is.0.range.at_most;
    })
    (in_range_case count last test names case are many is.1)

in_range_cases : (count last : ℕ) (test : ℕ → Bool) (names : List ℕ) (cases : List Case) → AreNames count test names → suc last ≡ length names → EachOf count test cases → All (All (IsInRange last)) (renamed_cases names cases)
in_range_cases count last test names [] are many is = All-nil (All (IsInRange last))
in_range_cases count last test names (c ∷ cases) are many is =
    All-cons (All (IsInRange last)) (renamed_case names c) (renamed_cases names cases)
    (in_range_case count last test names c are many is.0) (in_range_cases count last test names cases are many is.1)

pub renamed_in_range : (count last : ℕ) (test : ℕ → Bool) (names : List ℕ) (choices : List (List Case)) → AreNames count test names → suc last ≡ length names → AllOf count test choices → AreInRange last (renamed_choices names choices)
renamed_in_range count last test names [] are many is = All-nil (All (All (IsInRange last)))
renamed_in_range count last test names (c ∷ choices) are many is =
    All-cons (All (All (IsInRange last))) (renamed_cases names c) (renamed_choices names choices)
    (in_range_cases count last test names c are many is.0) (renamed_in_range count last test names choices are many is.1)

-- new numbers are bounded from below
contains_renamed : (names : List ℕ) (case : Case) (b : Bound) → Contains case b → Contains (renamed_case names case) (renamed names b)
contains_renamed names case b (k, lt, at) =
    (k, omega (arith, lt, length-map case (renamed names)), get_or-map (renamed names) case k b (renamed names b) lt ∙ ap (renamed names) at)

below_case : (names : List ℕ) (u : ℕ) (case : Case) → place_of names 0 ≡ 0 → HasBelow u case → HasBelow (place_of names u) (renamed_case names case)
below_case names u case first (b, within, plus, minus) =
    (renamed names b, contains_renamed names case b within, ap (place_of names) plus ∙ first, ap (place_of names) minus)

below_cases : (names : List ℕ) (u : ℕ) (cases : List Case) → place_of names 0 ≡ 0 → EachHasBelow u cases → EachHasBelow (place_of names u) (renamed_cases names cases)
below_cases names u [] first h = tt
below_cases names u (c ∷ cases) first h = (below_case names u c first h.0, below_cases names u cases first h.1)

below_choices : (names : List ℕ) (u : ℕ) (choices : List (List Case)) → place_of names 0 ≡ 0 → OneHasBelow u choices → OneHasBelow (place_of names u) (renamed_choices names choices)
below_choices names u [] first h = h
below_choices names u (c ∷ choices) first h =
    elim h [ inl a ↦ inl (below_cases names u c first a) | inr b ↦ inr (below_choices names u choices first b) ]

pub renamed_below : (count last upto : ℕ) (labels : List ℕ) (label : ℕ) (names : List ℕ) (choices : List (List Case)) → AreNames count (has_label labels label) names → suc last ≡ length names → EachHasLabel upto labels choices → AreBelow count choices → AreBelow last (renamed_choices names (part_of (has_label labels label) choices))
renamed_below count last upto labels label names choices are many apart below = λ i above within.
    let lt : i < length names = omega (arith, many) in
    let u : ℕ = slice_index names i in
    let high : 0 < slice_index names i = omega (arith, are.ascend 0 i above lt) in
    let own : slice_index labels u ≡ label = label_is labels label u high (are.passes i lt) in
    let one : OneHasBelow u (part_of (has_label labels label) choices) =
    subst (λ (n : ℕ). OneHasBelow u (part_of (has_label labels n) choices)) own
    (part_below upto labels u choices high apart (below u high (are.within i lt))) in
    subst (λ (n : ℕ). OneHasBelow n (renamed_choices names (part_of (has_label labels label) choices)))
    (place_at count (has_label labels label) names i are lt)
    (below_choices names u (part_of (has_label labels label) choices) (place_of_zero count (has_label labels label) names are) one)

-- a bound that is found by its new numbers
record IsBoundAt (count : ℕ) (test : ℕ → Bool) (names : List ℕ) (case : Case) (i : ℕ) (b : Bound) : Type 0 where
  pub bound : Bound
  pub at : slice_get case i ≡ Some bound
  pub is : renamed names bound ≡ b
  pub of_part : IsOf count test bound

bound_at : (count : ℕ) (test : ℕ → Bool) (names : List ℕ) (case : Case) (i : ℕ) (b : Bound) → AreOf count test case → slice_get (renamed_case names case) i ≡ Some b → IsBoundAt count test names case i b
bound_at count test names [] i b h e = absurd (cc)
bound_at count test names (d ∷ case) zero b h e =
    let same : renamed names d ≡ b = cc in
    record { bound = d; at = refl; is = same; of_part = h.0 }
bound_at count test names (d ∷ case) (suc i) b h e =
    let r = bound_at count test names case i b h.1 e in
    record { bound = r.bound; at = r.at; is = r.is; of_part = r.of_part }

walk_back : (count : ℕ) (test : ℕ → Bool) (names : List ℕ) (case : Case) (s e : ℕ) (indices : List ℕ) → AreNames count test names → AreOf count test case → s ≤ count → test s ≡ true → e ≤ count → test e ≡ true → IsWalk (renamed_case names case) (place_of names s) indices (place_of names e) → IsWalk case s indices e
walk_back count test names case s e [] are is sle spass ele epass w = same_place count test names s e are sle spass ele epass w
walk_back count test names case s e (i ∷ indices) are is sle spass ele epass (b, at, plus, rest) =
    let r = bound_at count test names case i b is at in
    let first : place_of names r.bound.plus ≡ place_of names s = ap (λ (x : Bound). x.plus) r.is ∙ plus in
    let next = subst (λ (x : Bound). IsWalk (renamed_case names case) x.minus indices (place_of names e)) (sym r.is) rest in (
      r.bound,
      r.at,
      same_place count test names r.bound.plus s are r.of_part.range.plus r.of_part.plus sle spass first,
      walk_back count test names case r.bound.minus e indices are is r.of_part.range.minus r.of_part.minus ele epass next,
    )

at_most_same : (names : List ℕ) (case : Case) (i : ℕ) → at_most_of (slice_get (renamed_case names case) i) ≡ at_most_of (slice_get case i)
at_most_same names [] i = refl
at_most_same names (d ∷ case) zero = refl
at_most_same names (d ∷ case) (suc i) = at_most_same names case i

total_same : (names : List ℕ) (case : Case) (indices : List ℕ) → total (renamed_case names case) indices ≡ total case indices
total_same names case [] = refl
total_same names case (i ∷ indices) =
    ap (λ (z : ℤ). z +ℤ total (renamed_case names case) indices) (at_most_same names case i)
    ∙ ap (λ (z : ℤ). at_most_of (slice_get case i) +ℤ z) (total_same names case indices)

cycle_from : (count : ℕ) (test : ℕ → Bool) (names : List ℕ) (case : Case) (start : ℕ) (indices : List ℕ) → AreNames count test names → AreOf count test case → IsWalk (renamed_case names case) start indices start → total (renamed_case names case) indices <ℤ pos 0 → IsNegativeCycle case indices
cycle_from count test names case start [] are is w negative = absurd (omega (arith, ints))
cycle_from count test names case start (i ∷ indices) are is (b, at, plus, rest) negative =
    let r = bound_at count test names case i b is at in
    let first : place_of names r.bound.plus ≡ start = ap (λ (x : Bound). x.plus) r.is ∙ plus in
    let whole : IsWalk (renamed_case names case) start (i ∷ indices) start = (b, at, plus, rest) in
    record {
      start = r.bound.plus;
      closed = walk_back count test names case r.bound.plus r.bound.plus (i ∷ indices) are is r.of_part.range.plus r.of_part.plus r.of_part.range.plus r.of_part.plus
          (subst (λ (n : ℕ). IsWalk (renamed_case names case) n (i ∷ indices) n) (sym first) whole);
      negative = subst (λ (z : ℤ). z <ℤ pos 0) (total_same names case (i ∷ indices)) negative;
    }

cases_renamed : (names : List ℕ) (choices : List (List Case)) (k : ℕ) → cases_at (renamed_choices names choices) k ≡ renamed_cases names (cases_at choices k)
cases_renamed names [] k = refl
cases_renamed names (c ∷ choices) zero = refl
cases_renamed names (c ∷ choices) (suc k) = cases_renamed names choices k

with_renamed : (names : List ℕ) (d : Case) (cases : List Case) → with_each (renamed_case names d) (renamed_cases names cases) ≡ renamed_cases names (with_each d cases)
with_renamed names d [] = refl
with_renamed names d (c ∷ cases) =
    ap (λ (x : Case). x ∷ with_each (renamed_case names d) (renamed_cases names cases)) (sym (map-append (renamed names) d c))
    ∙ ap (λ (xs : List Case). renamed_case names (d ++ c) ∷ xs) (with_renamed names d cases)

of_append : (count : ℕ) (test : ℕ → Bool) (xs ys : Case) → AreOf count test xs → AreOf count test ys → AreOf count test (xs ++ ys)
of_append count test [] ys h g = g
of_append count test (x ∷ xs) ys h g = (h.0, of_append count test xs ys h.1 g)

of_with : (count : ℕ) (test : ℕ → Bool) (d : Case) (cases left : List Case) → AreOf count test d → EachOf count test cases → EachOf count test left → EachOf count test (with_each d cases ++ left)
of_with count test d [] left h g rest = rest
of_with count test d (c ∷ cases) left h g rest = (of_append count test d c h g.0, of_with count test d cases left h g.1 rest)

of_at : (count : ℕ) (test : ℕ → Bool) (choices : List (List Case)) (k : ℕ) → AllOf count test choices → EachOf count test (cases_at choices k)
of_at count test [] k h = tt
of_at count test (c ∷ choices) zero h = h.0
of_at count test (c ∷ choices) (suc k) h = of_at count test choices k h.1

refutes_back : (count : ℕ) (test : ℕ → Bool) (names : List ℕ) (choices : List (List Case)) (left : List Case) (steps : List Step) → AreNames count test names → AllOf count test choices → EachOf count test left → Refutes (renamed_choices names choices) (renamed_cases names left) steps → Refutes choices left steps
refutes_back count test names choices [] [] are is each r = tt
refutes_back count test names choices [] (s ∷ steps) are is each r = absurd r
refutes_back count test names choices (d ∷ left) [] are is each r = absurd r
refutes_back count test names choices (d ∷ left) (Split choice ∷ steps) are is each r =
    let cases : List Case = cases_at choices choice in
    let same : with_each (renamed_case names d) (cases_at (renamed_choices names choices) choice) ++ renamed_cases names left ≡ renamed_cases names (with_each d cases ++ left) =
    ap (λ (cs : List Case). with_each (renamed_case names d) cs ++ renamed_cases names left) (cases_renamed names choices choice)
    ∙ ap (λ (cs : List Case). cs ++ renamed_cases names left) (with_renamed names d cases)
    ∙ sym (map-append (renamed_case names) (with_each d cases) left) in (
      omega (arith, r.0, length-map choices (renamed_cases names)),
      refutes_back count test names choices (with_each d cases ++ left) steps are is
          (of_with count test d cases left each.0 (of_at count test choices choice is) each.1)
          (subst (λ (cs : List Case). Refutes (renamed_choices names choices) cs steps) same r.1),
    )
refutes_back count test names choices (d ∷ left) (Cycle around ∷ steps) are is each r = (
  cycle_from count test names d r.0.start around.items are each.0 r.0.closed r.0.negative,
  refutes_back count test names choices left steps are is each.1 r.1,
)

-- steps that refute the choices with new numbers refute the choices
pub renamed_refutes : (count : ℕ) (test : ℕ → Bool) (names : List ℕ) (choices : List (List Case)) (steps : List Step) → AreNames count test names → AllOf count test choices → Refutes (renamed_choices names choices) ([] ∷ []) steps → Refutes choices ([] ∷ []) steps
renamed_refutes count test names choices steps are is r =
    refutes_back count test names choices ([] ∷ []) steps are is (tt, tt) r

-- the integers so far and those that are left, once that of one unknown more is found
spread_more : (test : ℕ → Bool) (names : List ℕ) (v : List ℤ) (u limit : ℕ) → u < limit
    → spread test names v u (limit - u) ≡ spread_at test names v u ∷ spread test names v (u + 1) (limit - (u + 1))
spread_more test names v u limit lt =
    let left : limit - u ≡ suc (limit - (u + 1)) = omega arith in
    let next : suc u ≡ u + 1 = omega arith in
    ap (spread test names v u) left
    ∙ ap (λ (n : ℕ). spread_at test names v u ∷ spread test names v n (limit - (u + 1))) next

pub next_integer : (test : ℕ → Bool) (names : List ℕ) (v : List ℤ) (u limit : ℕ) (old new : List ℤ) → u < limit → new ≡ old ++ spread_at test names v u ∷ []
    → old ++ spread test names v u (limit - u) ≡ spread test names v 0 limit → new ++ spread test names v (u + 1) (limit - (u + 1)) ≡ spread test names v 0 limit
next_integer test names v u limit old new lt is h =
    let rest = spread test names v (u + 1) (limit - (u + 1)) in
    ap (λ (xs : List ℤ). xs ++ rest) is ∙ append_assoc old (spread_at test names v u ∷ []) rest
    ∙ ap (λ (ys : List ℤ). old ++ ys) (sym (spread_more test names v u limit lt)) ∙ h

pub all_integers : (test : ℕ → Bool) (names : List ℕ) (v : List ℤ) (count u : ℕ) (found : List ℤ) → count + 1 ≤ u
    → found ++ spread test names v u (count + 1 - u) ≡ spread test names v 0 (count + 1) → found ≡ spread test names v 0 (suc count)
all_integers test names v count u found past h =
    let none : count + 1 - u ≡ zero = omega arith in
    let one : count + 1 ≡ suc count = omega arith in
    sym (append-nil found) ∙ sym (ap (λ (n : ℕ). found ++ spread test names v u n) none) ∙ h ∙ ap (spread test names v 0) one
