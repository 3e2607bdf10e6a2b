-- What a decision says of a condition.
use Rattle.std.proofs.Common.{◌≡◌, ℕ, zero, suc, ◌+◌, ◌^◌, ◌<◌, Bool, true, false, cond, not, ◌&&◌, ◌||◌, List, [], ◌∷◌, Option, Some, None, refl, sym, ap, ◌∙◌, arith, inl, inr, ◌↔◌}
use Rattle.std.specs.Prelude.{slice_get, slice_index, nat_lt}
use Rattle.std.specs.List.{position_from}
use Rattle.std.proofs.lemmas.Bool.Decides.{nat_tests}
use Rattle.sn_ranges.specs.Ranges.{fits_width}
use Rattle.path_formula.specs.Formulas.{FormulaTree}
use Rattle.path_formula.specs.Kinds.{kind_of}
use Rattle.path_formula.specs.Solutions.{agrees}
use Rattle.path_formula.specs.View.{view}
use Rattle.path_formula.specs.declared.kinds.Kind.{Kind}
use Rattle.path_formula.specs.declared.kinds.Kind.TheVariants.{Constant, Simple, Inside, Outside}
use Rattle.path_cond.specs.Conditions.{Condition}
use Rattle.path_cond.specs.Seen.{ConditionOf, entry_holds, holds_at, in_domain, is_broken, is_broken_kind}
use Rattle.refutation_check.specs.Seen.{IsMetBy, IsUndecidedBy, IsLicensed, IsRefuted, IsSimplyRefuted, IsSimplyOpen, AreFitting, AreCandidates, is_outside, holds_unless_outside, is_broken_outside}
use Rattle.refutation_check.specs.declared.outcome.Cause.{Cause}
use Rattle.refutation_check.specs.declared.outcome.Cause.TheVariants.{Outside as OutsideCause, Cases, Coupled}
use Rattle.path_solver.specs.Decisions.{IsDecisionOn, IsUnsat}
use Rattle.path_solver.specs.Laws.{Facts}
use Rattle.path_solver.specs.declared.decision.Decided.{Decided}
use Rattle.path_solver.specs.declared.decision.Decided.TheVariants.{Sat, Unsat, Undecided}
use Rattle.path_solver.proofs.Candidates.{candidate_in_domain, not_outside}
use Rattle.path_solver.proofs.Entries.{at_all, all_at, get_at}
use Rattle.path_solver.proofs.Numbering.{and_both, and_left, and_right}

first_none : (b : Bool) (rest : Option ℕ) (n : ℕ) → cond b (Some n) rest ≡ None → (b ≡ false) × (rest ≡ None)
first_none true rest n h = absurd (cc)
first_none false rest n h = (refl, h)

none_at : {E : Type 0} (p : E → Bool) (first : ℕ) (entries : List E) (i : ℕ) (e : E)
    → position_from p first entries ≡ None → slice_get entries i ≡ Some e → p e ≡ false
none_at p first [] i e h is = absurd (cc)
none_at p first (d ∷ entries) zero e h is =
    let same : d ≡ e = cc in ap p (sym same) ∙ (first_none (p d) (position_from p (first + 1) entries) first h).0
none_at p first (d ∷ entries) (suc i) e h is =
    none_at p (first + 1) entries i e (first_none (p d) (position_from p (first + 1) entries) first h).1 is

holds_by : (outside holds : Bool) → (outside || holds) ≡ true → (outside && not holds) ≡ false → holds ≡ true
holds_by true true h g = refl
holds_by true false h g = absurd (cc)
holds_by false true h g = refl
holds_by false false h g = absurd (cc)

-- an entry that passes the test
record IsFoundAt {E : Type 0} (p : E → Bool) (entries : List E) (first pick : ℕ) : Type 0 where
  pub place : ℕ
  pub entry : E
  pub at : slice_get entries place ≡ Some entry
  pub passes : p entry ≡ true
  pub is : pick ≡ first + place

found_by : {E : Type 0} (p : E → Bool) (entries : List E) (d : E) (first pick : ℕ) (b : Bool) → p d ≡ b
    → cond b (Some first) (position_from p (first + 1) entries) ≡ Some pick
    → (position_from p (first + 1) entries ≡ Some pick → IsFoundAt p entries (first + 1) pick)
    → IsFoundAt p (d ∷ entries) first pick
found_by p entries d first pick true is e later =
    let same : first ≡ pick = cc in record { place = 0; entry = d; at = refl; passes = is; is = omega arith }
found_by p entries d first pick false is e later =
    let r = later e in record {
      place = suc r.place;
      entry = r.entry;
      at = r.at;
      passes = r.passes;
      is = omega (arith, r.is);
    }

found_at : {E : Type 0} (p : E → Bool) (entries : List E) (first pick : ℕ) → position_from p first entries ≡ Some pick
    → IsFoundAt p entries first pick
found_at p [] first pick e = absurd (cc)
found_at p (d ∷ entries) first pick e = found_by p entries d first pick (p d) refl e (λ g. found_at p entries (first + 1) pick g)

not_true : (b : Bool) → not b ≡ true → b ≡ false
not_true true h = absurd (cc)
not_true false h = refl

below_is : (v limit : ℕ) → v < limit → nat_lt v limit ≡ true
below_is v limit h = grind (arith, nat_tests)

module _ {X : Type 0} (tree : X → FormulaTree) where
  pub met_true : (c : ConditionOf X) (values : List ℕ) → IsMetBy tree c values → AreFitting c.widths values × (holds_at tree c values ≡ true)
  met_true c values h =
      let candidates = h.least.candidates in (
        candidates.fitting,
        all_at (entry_holds tree values) c.entries (λ i e is.
            holds_by (is_outside tree e) (entry_holds tree values e)
            (at_all (holds_unless_outside tree values) c.entries i e candidates.satisfied is)
            (none_at (is_broken_outside tree values) 0 c.entries i e h.broken_is is)),
      )

  pub licensed : (c : ConditionOf X) (cause : Cause) → IsUndecidedBy tree c cause → IsLicensed tree c cause
  licensed c (Coupled count) h = h
  licensed c (Cases count) h = h.1
  licensed c (OutsideCause pick values) h =
      let r = found_at (is_broken_outside tree values) c.entries 0 pick h.broken_is in
      let same : pick ≡ r.place = omega (arith, r.is) in
      record {
        entry = r.entry;
        at = ap (slice_get c.entries) same ∙ r.at;
        outside = and_left (is_outside tree r.entry) (not (entry_holds tree values r.entry)) r.passes;
        candidates = h.least.candidates;
        broken = not_true (entry_holds tree values r.entry) (and_right (is_outside tree r.entry) (not (entry_holds tree values r.entry)) r.passes);
      }

  broken_constant : Facts → (values : List ℕ) (e : X × Bool) (k : Kind) → kind_of (tree e.0) ≡ k
      → is_broken_kind e.1 k ≡ true → holds_unless_outside tree values e ≡ true → ⊥
  broken_constant facts values e (Constant truth) kind h g =
      let no' = not_true (agrees e.1 truth) h in
      let holds = not_outside tree e values (Constant truth) kind refl g in
      let same = ap (agrees e.1) (facts.constant_truth (tree e.0) truth values kind) in cc
  broken_constant facts values e (Simple s) kind h g = cc
  broken_constant facts values e Inside kind h g = cc
  broken_constant facts values e Outside kind h g = cc

  -- a refuted condition has no candidates
  pub refuted_none : Facts → (c : ConditionOf X) (values : List ℕ) → IsRefuted tree c → AreCandidates tree c values → ⊥
  refuted_none facts c values h candidates =
      elim h [
        | inl simply ↦ elim simply [
          | inl broken ↦
              let r = found_at (is_broken tree) c.entries 0 broken.pick broken.first in
              broken_constant facts values r.entry (kind_of (tree r.entry.0)) refl r.passes
              (at_all (holds_unless_outside tree values) c.entries r.place r.entry candidates.satisfied r.at)
          | inr empty ↦
              let s = empty.symbol in
              let yes =
              and_both (fits_width (slice_index c.widths s.0) (slice_index values s.0))
              (in_domain tree s c (slice_index values s.0))
              (below_is (slice_index values s.0) (2 ^ slice_index c.widths s.0)
              (candidates.fitting.fit s.0 (slice_index c.widths s.0) (get_at c.widths s.0 empty.known)))
              (candidate_in_domain tree facts c values s candidates) in
              let none = empty.no_value (slice_index values s.0) in cc
        ]
        | inr by_cases ↦ by_cases.no_candidates values candidates
      ]

  simply_apart : (c : ConditionOf X) → IsSimplyRefuted tree c → IsSimplyOpen tree c → ⊥
  simply_apart c h open' =
      elim h [
        | inl broken ↦ let a = broken.first in let b = open'.unbroken in cc
        | inr empty ↦ let v = open'.possible empty.symbol empty.known in let none = empty.no_value v.0 in let some = v.1 in cc
      ]

  pub undecided_apart : Facts → (c : ConditionOf X) (cause : Cause) → IsUndecidedBy tree c cause → IsRefuted tree c → ⊥
  undecided_apart facts c (Coupled count) h r =
      elim r [
        | inl simply ↦ simply_apart c simply h.simply_open
        | inr by_cases ↦ absurd
            (omega (arith, by_cases.within.coupled, h.is, h.many))
      ]
  undecided_apart facts c (Cases count) h r =
      elim r [
        | inl simply ↦ simply_apart c simply h.1.simply_open
        | inr by_cases ↦ absurd
            (omega (arith, by_cases.within.choices, h.1.is, h.1.many))
      ]
  undecided_apart facts c (OutsideCause pick values) h r = refuted_none facts c values r h.least.candidates

pub unsat_exactly : Facts → (c : Condition) (d : Decided) → IsDecisionOn c d → IsUnsat d ↔ IsRefuted view c
unsat_exactly facts c (Sat values) h = ((λ u. absurd u), (λ r. refuted_none view facts c values r h.least.candidates))
unsat_exactly facts c (Unsat refutation) h = ((λ u. h.0), (λ r. tt))
unsat_exactly facts c (Undecided cause) h = ((λ u. absurd u), (λ r. undecided_apart view facts c cause h r))
