-- What is found part by part.
use Rattle.std.proofs.Common.{◌≡◌, ℕ, zero, suc, ◌+◌, ◌<◌, ◌≤◌, ℤ, pos, Bool, true, false, cond, eqb, ne_eqb, List, inl, inr, length, get_or, arith, ap, sym, subst, ◌∙◌}
use Rattle.std.specs.Prelude.{All, slice_index, ◌≤ℤ◌}
use Rattle.std.proofs.lemmas.Bool.{cases_lt}
use Rattle.std.proofs.lemmas.List.{get_or_past}
use Rattle.difference_solver.specs.Bound.{number}
use Rattle.difference_solver.specs.Choices.{Case, IsLeast}
use Rattle.difference_solver.specs.Outcomes.{IfLeast}
use Rattle.difference_solver.specs.Parts.{has_label, EachHasLabel, IsPartLeast}
use Rattle.difference_solver.specs.declared.choice.Outcome.{Outcome}
use Rattle.difference_solver.specs.declared.choice.Outcome.TheVariants.{Least, Refuted}
use Rattle.difference_solver.proofs.Passing.{Agrees, same_part, each_whole, label_is, has_own}
use Rattle.difference_solver.proofs.WordLemmas.{up_to_from}

-- integers that are the same in a part
pub same_least : (count : ℕ) (test : ℕ → Bool) (choices : List (List Case)) (v w : List ℤ) → Agrees test v w → length w ≡ count + 1 → number w 0 ≡ pos 0 → IsPartLeast count test choices v → IsPartLeast count test choices w
same_least count test choices v w agrees one_each first is =
    record {
      one_each = one_each;
      first = first;
      met = same_part test v w choices agrees is.met;
      least = λ x met u within passes same.
          subst (λ (n : ℤ). n ≤ℤ number x u) (agrees u passes)
          (is.least x met u within passes (λ t before passes_t. agrees t passes_t ∙ same t before passes_t));
    }

-- the least of each part are the least of all
pub all_least : (count last : ℕ) (labels : List ℕ) (choices : List (List Case)) (v : List ℤ) → length v ≡ count + 1 → number v 0 ≡ pos 0 → ((u : ℕ) → slice_index labels u ≤ last) → EachHasLabel last labels choices → ((label : ℕ) → label ≤ last → IsPartLeast count (has_label labels label) choices v) → IsLeast count choices v
all_least count last labels choices v one_each first up_to apart h =
    record {
      met = record { one_each = one_each; first = first; met = each_whole last labels v choices apart (λ label within. (h label within).met) };
      least = λ w met. up_to_from v w (one_each ∙ sym met.one_each)
          (λ u lt same. (h (slice_index labels u) (up_to u)).least w met u (omega (arith, one_each)) (has_own labels u) (λ t before passes. same t before));
    }

-- no integers are found where there are none
pub none_least : (found : Outcome) (P Q : List ℤ → Type 0) → ((v : List ℤ) → P v → ⊥) → IfLeast found P → IfLeast found Q
none_least (Least values) P Q none h = absurd (none values.items h)
none_least (Refuted steps) P Q none h = tt

both_false : (b c : Bool) → b ≡ false → c ≡ false → cond b true c ≡ false
both_false true c h g = h
both_false false c h g = g

-- an unknown has one label
other_label : (labels : List ℕ) (j label u : ℕ) → 0 < u → j < label → has_label labels j u ≡ true → has_label labels label u ≡ false
other_label labels j label u above less h =
    let is : slice_index labels u ≡ j = label_is labels j u above h in
    both_false (eqb u 0) (eqb (slice_index labels u) label) (ne_eqb u 0 (λ e. absurd (omega arith))) (ne_eqb (slice_index labels u) label (λ e. absurd (omega arith)))

-- the integers of the unknowns with the label are put in place of the old ones
abbrev pub IsPut : List ℕ → ℕ → List ℤ → List ℤ → List ℤ → Type 0
IsPut labels label part old new = (u : ℕ) → number new u ≡ cond (has_label labels label u) (number part u) (number old u)

agrees_old : (labels : List ℕ) (j label : ℕ) (part old new : List ℤ) → j < label → number old 0 ≡ pos 0 → number new 0 ≡ pos 0 → IsPut labels label part old new → Agrees (has_label labels j) old new
agrees_old labels j label part old new less first first' put zero passes = first ∙ sym first'
agrees_old labels j label part old new less first first' put (suc u) passes =
    sym (put (suc u) ∙ ap (λ (b : Bool). cond b (number part (suc u)) (number old (suc u))) (other_label labels j label (suc u) (omega arith) less passes))

agrees_part : (labels : List ℕ) (label : ℕ) (part old new : List ℤ) → IsPut labels label part old new → Agrees (has_label labels label) part new
agrees_part labels label part old new put = λ u passes.
    sym (put u ∙ ap (λ (b : Bool). cond b (number part u) (number old u)) passes)

-- the integers are the least of each part with a label below this one
abbrev pub AreLeastBelow : ℕ → List ℕ → ℕ → List (List Case) → List ℤ → Type 0
AreLeastBelow count labels label choices v =
    (length v ≡ count + 1) × (number v 0 ≡ pos 0) × ((j : ℕ) → j < label → IsPartLeast count (has_label labels j) choices v)

pub put_next : (count : ℕ) (labels : List ℕ) (label : ℕ) (choices : List (List Case)) (part old new : List ℤ) → length new ≡ length old → IsPut labels label part old new → IsPartLeast count (has_label labels label) choices part → AreLeastBelow count labels label choices old → AreLeastBelow count labels (label + 1) choices new
put_next count labels label choices part old new same put is h =
    let one_each : length new ≡ count + 1 = same ∙ h.0 in
    let first : number new 0 ≡ pos 0 = put 0 ∙ is.first in (
      one_each,
      first,
      λ j before. elim (cases_lt j label) [
        | inl less ↦ same_least count (has_label labels j) choices old new (agrees_old labels j label part old new less h.1 first put) one_each first (h.2 j less)
        | inr here ↦
            let at : label ≡ j = omega arith in
            subst (λ (n : ℕ). IsPartLeast count (has_label labels n) choices new) at
            (same_least count (has_label labels label) choices part new (agrees_part labels label part old new put) one_each first is)
      ],
    )

pub label_up_to : (last : ℕ) (labels : List ℕ) → All (λ (label : ℕ). label ≤ last) labels → (u : ℕ) → slice_index labels u ≤ last
label_up_to last labels h u =
    elim (cases_lt u (length labels)) [
      | inl lt ↦ h u 0 lt
      | inr past ↦ let none : get_or labels u 0 ≡ 0 = get_or_past labels u 0 past in omega (arith, none)
    ]
