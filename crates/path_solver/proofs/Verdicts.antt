-- Each condition is refuted, undecided or met, and no two of these.
use Rattle.std.proofs.Common.{◌≡◌, ◌⊎◌, ℕ, zero, suc, ◌^◌, ◌<◌, ◌≤◌, Bool, true, false, ◌&&◌, nat_lt, List, length, Option, Some, None, refl, sym, ap, ap₂, subst, ◌∙◌, arith, inl, inr, ◌↔◌}
use Rattle.std.specs.Prelude.{slice_index}
use Rattle.std.specs.List.{list_all}
use Rattle.std.proofs.lemmas.Bool.{cases_lt}
use Rattle.std.proofs.lemmas.Bool.Decides.{nat_tests}
use Rattle.sn_width.specs.declared.ids.SymId.{SymId}
use Rattle.path_formula.specs.Formulas.{FormulaTree}
use Rattle.path_formula.specs.View.{view}
use Rattle.path_cond.specs.Conditions.{AllTyped, Condition, holds_at}
use Rattle.path_cond.specs.Seen.{ConditionOf, first_broken, in_domain, tried}
use Rattle.path_cond.specs.Occurring.{symbol_at}
use Rattle.path_cond.specs.Choices.{coupled_count, choice_count}
use Rattle.refutation_check.specs.Accepted.{IsAccepted}
use Rattle.refutation_check.specs.Seen.{most_coupled, is_possible, HasEmptyDomain, IsSimplyOpen, IsWithinLimits, IsRefuted, IsUndecidedBy, IsMetBy, AreCandidates, AreLeast, holds_unless_outside, first_broken_outside}
use Rattle.refutation_check.specs.declared.outcome.Cause.{Cause}
use Rattle.refutation_check.specs.declared.outcome.Cause.TheVariants.{Outside as OutsideCause, Cases, Coupled}
use Rattle.refutation_check.specs.declared.steps.Refute.{Refute}
use Rattle.path_solver.specs.Decisions.{IsDecisionOn, IsSat, IsUndecided, IsUnsat}
use Rattle.path_solver.specs.Judged.{AreExact}
use Rattle.path_solver.specs.Laws.{Facts}
use Rattle.path_solver.specs.declared.decision.Decided.{Decided}
use Rattle.path_solver.specs.declared.decision.Decided.TheVariants.{Sat, Unsat, Undecided}
use Rattle.path_solver.proofs.Exact.{licensed, met_true, refuted_none, undecided_apart}
use Rattle.path_solver.proofs.Words.{FirstOrNone, first_or_none, number_or_none, same_least}

-- Each condition is one of the three

past_width : (v limit : ℕ) (b : Bool) → limit ≤ v → (nat_lt v limit && b) ≡ false
past_width v limit b h = over (nat_lt v limit) b (grind (arith, nat_tests))
  where
    over : (a b : Bool) → a ≡ false → (a && b) ≡ false
    over true b e = absurd (cc)
    over false b e = refl

module _ {X : Type 0} (tree : X → FormulaTree) where
  -- a symbol has a possible value, or none
  abbrev PossibleOrNot : ConditionOf X → SymId → Type 0
  PossibleOrNot c s = ((v : ℕ) × (is_possible tree c s v ≡ true)) ⊎ ((v : ℕ) → is_possible tree c s v ≡ false)

  possible_or_not : (c : ConditionOf X) (s : SymId) → PossibleOrNot c s
  possible_or_not c s =
      elim (number_or_none (is_possible tree c s) (2 ^ slice_index c.widths s.0)) [
        | inl found ↦ inl found
        | inr none ↦
            inr (λ v.
            elim (cases_lt v (2 ^ slice_index c.widths s.0)) [
              | inl lt ↦ none v lt
              | inr ge ↦ past_width v (2 ^ slice_index c.widths s.0) (in_domain tree s c v) ge
            ])
      ]

  -- each of the first `n` symbols has a possible value
  abbrev FirstArePossible : ConditionOf X → ℕ → Type 0
  FirstArePossible c n = (s : SymId) → s.0 < n → (v : ℕ) × (is_possible tree c s v ≡ true)

  one_more : (c : ConditionOf X) (n : ℕ) → FirstArePossible c n → (v : ℕ) × (is_possible tree c (symbol_at n) v ≡ true)
      → FirstArePossible c (suc n)
  one_more c n rest here = λ s lt.
      elim (cases_lt s.0 n) [
        | inl less ↦ rest s less
        | inr ge ↦ let same : n ≡ s.0 = omega arith in
            subst (λ (m : ℕ). (v : ℕ) × (is_possible tree c (record { 0 = m }) v ≡ true)) same here
      ]

  possible_or_empty : (c : ConditionOf X) (n : ℕ) → n ≤ length c.widths → FirstArePossible c n ⊎ HasEmptyDomain tree c
  possible_or_empty c zero h = inl (λ s lt. absurd (omega arith))
  possible_or_empty c (suc n) h =
      elim (possible_or_not c (symbol_at n)) [
        | inl here ↦
            elim (possible_or_empty c n (omega arith)) [ inl rest ↦ inl (one_more c n rest here) | inr empty ↦ inr empty ]
        | inr none ↦ inr record { symbol = symbol_at n; known = omega arith; no_value = none }
      ]

  -- the condition is refuted, undecided or met
  abbrev pub IsOneOfThree : ConditionOf X → Type 0
  IsOneOfThree c = IsRefuted tree c ⊎ (((cause : Cause) × IsUndecidedBy tree c cause) ⊎ ((values : List ℕ) × IsMetBy tree c values))

  by_outside : (c : ConditionOf X) (values : List ℕ) (broken : Option ℕ) → IsWithinLimits tree c → AreLeast tree c values
      → first_broken_outside tree c values ≡ broken
      → IsOneOfThree c
  by_outside c values None within least e = inr (inr (values, record { within = within; least = least; broken_is = e }))
  by_outside c values (Some pick) within least e =
      inr (inl (OutsideCause pick values, record { within = within; least = least; broken_is = e }))

  by_least : (c : ConditionOf X) → IsWithinLimits tree c
      → FirstOrNone c.widths (λ values. list_all (holds_unless_outside tree values) c.entries) → IsOneOfThree c
  by_least c within (inl found) =
      by_outside c found.0 (first_broken_outside tree c found.0) within
      (record {
        candidates = record { fitting = found.1.fitting; satisfied = found.1.passes };
        first = λ others h. found.1.first others h.fitting h.satisfied;
      })
      refl
  by_least c within (inr none) = inl (inr record { within = within; no_candidates = λ values h. none values h.fitting h.satisfied })

  by_choices : (c : ConditionOf X) → IsSimplyOpen tree c → coupled_count tree c ≤ most_coupled → IsOneOfThree c
  by_choices c simply few =
      elim (cases_lt (tried c.most_choices) (choice_count tree c)) [
        | inl many ↦ inr (inl (Cases (choice_count tree c), (few, record { simply_open = simply; is = refl; many = many })))
        | inr le ↦
            by_least c (record { coupled = few; choices = le })
            (first_or_none c.widths (λ values. list_all (holds_unless_outside tree values) c.entries))
      ]

  by_coupled : (c : ConditionOf X) → IsSimplyOpen tree c → IsOneOfThree c
  by_coupled c simply =
      elim (cases_lt most_coupled (coupled_count tree c)) [
        | inl many ↦ inr (inl (Coupled (coupled_count tree c), record { simply_open = simply; is = refl; many = many }))
        | inr few ↦ by_choices c simply few
      ]

  by_broken : (c : ConditionOf X) (broken : Option ℕ) → first_broken tree c ≡ broken → IsOneOfThree c
  by_broken c (Some pick) e = inl (inl (inl record { pick = pick; first = e }))
  by_broken c None e =
      elim (possible_or_empty c (length c.widths) (omega arith)) [
        | inl possible ↦ by_coupled c (record { unbroken = e; possible = possible })
        | inr empty ↦ inl (inl (inr empty))
      ]

  pub one_of_three : (c : ConditionOf X) → IsOneOfThree c
  one_of_three c = by_broken c (first_broken tree c) refl

  open_by : (c : ConditionOf X) (broken : Option ℕ) → first_broken tree c ≡ broken → (IsRefuted tree c → ⊥) → IsSimplyOpen tree c
  open_by c (Some pick) e never = absurd (never (inl (inl record { pick = pick; first = e })))
  open_by c None e never =
      elim (possible_or_empty c (length c.widths) (omega arith)) [
        | inl possible ↦ record { unbroken = e; possible = possible }
        | inr empty ↦ absurd (never (inl (inr empty)))
      ]

  -- constants and domains do not refute a condition that has candidates
  pub candidates_open : Facts → (c : ConditionOf X) (values : List ℕ) → AreCandidates tree c values → IsSimplyOpen tree c
  candidates_open facts c values h = open_by c (first_broken tree c) refl (λ r. refuted_none tree facts c values r h)

  -- No condition is two of the three

  pub refuted_met : Facts → (c : ConditionOf X) (values : List ℕ) → IsRefuted tree c → IsMetBy tree c values → ⊥
  refuted_met facts c values r m = refuted_none tree facts c values r m.least.candidates

  pub undecided_met : (c : ConditionOf X) (cause : Cause) (values : List ℕ) → IsUndecidedBy tree c cause → IsMetBy tree c values → ⊥
  undecided_met c (Coupled count) values h m = absurd (omega (arith, m.within.coupled, h.is, h.many))
  undecided_met c (Cases count) values h m = absurd (omega (arith, m.within.choices, h.1.is, h.1.many))
  undecided_met c (OutsideCause pick found) values h m =
      let same : found ≡ values = same_least tree c found values h.least m.least in
      let never : Some pick ≡ None = sym h.broken_is ∙ ap (first_broken_outside tree c) same ∙ m.broken_is in cc

module _ {X : Type 0} (tree : X → FormulaTree) (facts : Facts) where
  pub exact : AreExact tree
  exact = record {
    one_of_three = one_of_three tree;
    not_undecided = λ c cause r h. undecided_apart tree facts c cause h r;
    not_met = refuted_met tree facts;
    not_both = undecided_met tree;
    met_is_true = met_true tree;
    licensed = licensed tree;
  }

same_outside : (c : Condition) (pick other : ℕ) (xs ys : List ℕ) → IsUndecidedBy view c (OutsideCause pick xs)
    → IsUndecidedBy view c (OutsideCause other ys)
    → OutsideCause pick xs ≡ OutsideCause other ys
same_outside c pick other xs ys h g =
    let same : xs ≡ ys = same_least view c xs ys h.least g.least in
    let picks : Some pick ≡ Some other = sym h.broken_is ∙ ap (first_broken_outside view c) same ∙ g.broken_is in
    let one : pick ≡ other = cc in ap₂ (λ (p : ℕ) (vs : List ℕ). OutsideCause p vs) one same

-- a condition is undecided by one cause
pub same_cause : (c : Condition) (a b : Cause) → IsUndecidedBy view c a → IsUndecidedBy view c b → a ≡ b
same_cause c (Coupled m) (Coupled n) h g = ap Coupled (h.is ∙ sym g.is)
same_cause c (Coupled m) (Cases n) h g = absurd (omega (arith, g.0, h.is, h.many))
same_cause c (Coupled m) (OutsideCause pick values) h g = absurd (omega (arith, g.within.coupled, h.is, h.many))
same_cause c (Cases m) (Coupled n) h g = absurd (omega (arith, h.0, g.is, g.many))
same_cause c (Cases m) (Cases n) h g = ap Cases (h.1.is ∙ sym g.1.is)
same_cause c (Cases m) (OutsideCause pick values) h g = absurd (omega (arith, g.within.choices, h.1.is, h.1.many))
same_cause c (OutsideCause pick values) (Coupled n) h g = absurd (omega (arith, h.within.coupled, g.is, g.many))
same_cause c (OutsideCause pick values) (Cases n) h g = absurd (omega (arith, h.within.choices, g.1.is, g.1.many))
same_cause c (OutsideCause pick xs) (OutsideCause other ys) h g = same_outside c pick other xs ys h g

-- Decisions

pub sat_exactly : Facts → (c : Condition) (d : Decided) (values : List ℕ) → IsDecisionOn c d → IsSat values d ↔ IsMetBy view c values
sat_exactly facts c (Sat found) values h =
    ((λ e. subst (λ (vs : List ℕ). IsMetBy view c vs) e h), (λ m. same_least view c found values h.least m.least))
sat_exactly facts c (Unsat refutation) values h = ((λ s. absurd s), (λ m. absurd (refuted_met view facts c values h.0 m)))
sat_exactly facts c (Undecided cause) values h = ((λ s. absurd s), (λ m. absurd (undecided_met view c cause values h m)))

pub undecided_exactly : Facts → (c : Condition) (d : Decided) (cause : Cause) → IsDecisionOn c d
    → IsUndecided cause d ↔ IsUndecidedBy view c cause
undecided_exactly facts c (Sat values) cause h = ((λ u. absurd u), (λ u. absurd (undecided_met view c cause values u h)))
undecided_exactly facts c (Unsat refutation) cause h = ((λ u. absurd u), (λ u. absurd (undecided_apart view facts c cause u h.0)))
undecided_exactly facts c (Undecided found) cause h =
    ((λ e. subst (λ (x : Cause). IsUndecidedBy view c x) e h), (λ u. same_cause c found cause h u))

-- where the decision is Unsat, no values make the condition true
pub unsat_never : ((c : Condition) (steps : List Refute) (values : List ℕ) → AllTyped c.widths c.entries → IsAccepted c steps → holds_at c values ≡ false)
    → (c : Condition) (d : Decided) → AllTyped c.widths c.entries → IsDecisionOn c d → IsUnsat d → (values : List ℕ) → holds_at c values ≡ false
unsat_never law c (Sat found) typed h u values = absurd u
unsat_never law c (Unsat refutation) typed h u values = law c refutation values typed h.1
unsat_never law c (Undecided cause) typed h u values = absurd u
