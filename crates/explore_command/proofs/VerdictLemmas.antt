-- A condition has one verdict.
use Rattle.std.proofs.Common.{◌≡◌, ◌∙◌, refl, sym, ap, subst, ℕ, List, Option, None, Some, arith}
use Rattle.std.proofs.lemmas.Option.{none-some, same_Some}
use Rattle.path_cond.specs.Seen.{itself}
use Rattle.refutation_check.specs.Seen.{HasLeast, IsMetBy, IsUndecidedBy, first_broken_outside}
use Rattle.refutation_check.specs.declared.outcome.Cause.{Cause}
use Rattle.refutation_check.specs.declared.outcome.Cause.TheVariants.{Outside, Cases, Coupled}
use Rattle.refutation_check.specs.declared.outcome.Verdict.{Verdict}
use Rattle.refutation_check.specs.declared.outcome.Verdict.TheVariants.{Sat, Undecided}
use Rattle.path_solver.proofs.Words.{same_least}
use Rattle.exact_records.specs.Records.{IsVerdictOn, SymCondition}
use Rattle.explore_command.specs.Headline.{IsOnlyVerdictOn}

module _ (c : SymCondition) where
  -- the least values are one list, and so is the first formula outside that they break
  one_least : (values others : List ℕ) (broken more : Option ℕ) → HasLeast itself c values broken → HasLeast itself c others more → values ≡ others
  one_least values others broken more h k = same_least itself c values others h.least k.least

  one_broken : (values others : List ℕ) (broken more : Option ℕ) → HasLeast itself c values broken → HasLeast itself c others more → broken ≡ more
  one_broken values others broken more h k =
      sym h.broken_is ∙ (ap (λ (vs : List ℕ). first_broken_outside itself c vs) (one_least values others broken more h k) ∙ k.broken_is)

  -- values that are least leave few enough symbols coupled, and few enough choices
  no_coupled : {A : Type 0} (values : List ℕ) (broken : Option ℕ) (count : ℕ) → HasLeast itself c values broken → IsUndecidedBy itself c (Coupled count) → A
  no_coupled values broken count h k =
      let bad : ⊥ = (let few = h.within.coupled in let is = k.is in let many = k.many in omega (arith, few, is, many)) in absurd bad

  no_cases : {A : Type 0} (values : List ℕ) (broken : Option ℕ) (count : ℕ) → HasLeast itself c values broken → IsUndecidedBy itself c (Cases count) → A
  no_cases values broken count h k =
      let bad : ⊥ = (let few = h.within.choices in let is = k.1.is in let many = k.1.many in omega (arith, few, is, many)) in absurd bad

  few_or_many : {A : Type 0} (count number : ℕ) → IsUndecidedBy itself c (Cases count) → IsUndecidedBy itself c (Coupled number) → A
  few_or_many count number h k =
      let bad : ⊥ = (let few = h.0 in let is = k.is in let many = k.many in omega (arith, few, is, many)) in absurd bad

  -- what is met is not undecided
  met_or_not : {A : Type 0} (values : List ℕ) (cause : Cause) → IsMetBy itself c values → IsUndecidedBy itself c cause → A
  met_or_not values (Outside pick others) h k = absurd (none-some pick (one_broken values others None (Some pick) h k))
  met_or_not values (Cases count) h k = no_cases values None count h k
  met_or_not values (Coupled count) h k = no_coupled values None count h k

  -- and has one cause
  one_cause : (a b : Cause) → IsUndecidedBy itself c a → IsUndecidedBy itself c b → a ≡ b
  one_cause (Outside pick values) (Outside other others) h k =
      let same_pick = same_Some pick other (one_broken values others (Some pick) (Some other) h k) in
      let same_values = one_least values others (Some pick) (Some other) h k in
      λ i. Outside (same_pick i) (same_values i)
  one_cause (Outside pick values) (Cases count) h k = no_cases values (Some pick) count h k
  one_cause (Outside pick values) (Coupled count) h k = no_coupled values (Some pick) count h k
  one_cause (Cases count) (Outside pick values) h k = no_cases values (Some pick) count k h
  one_cause (Cases count) (Cases number) h k = ap Cases (h.1.is ∙ sym k.1.is)
  one_cause (Cases count) (Coupled number) h k = few_or_many count number h k
  one_cause (Coupled count) (Outside pick values) h k = no_coupled values (Some pick) count k h
  one_cause (Coupled count) (Cases number) h k = few_or_many number count k h
  one_cause (Coupled count) (Coupled number) h k = ap Coupled (h.is ∙ sym k.is)

  one_verdict : (a b : Verdict) → IsVerdictOn c a → IsVerdictOn c b → a ≡ b
  one_verdict (Sat values) (Sat others) h k = ap Sat (one_least values others None None h k)
  one_verdict (Sat values) (Undecided cause) h k = met_or_not values cause h k
  one_verdict (Undecided cause) (Sat values) h k = met_or_not values cause k h
  one_verdict (Undecided cause) (Undecided other) h k = ap Undecided (one_cause cause other h k)

  pub only_verdict : (verdict : Verdict) → IsVerdictOn c verdict → IsOnlyVerdictOn c verdict
  only_verdict verdict h = λ other. (λ k. one_verdict other verdict k h, λ same. subst (IsVerdictOn c) (sym same) h)
