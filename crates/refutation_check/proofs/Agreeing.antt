-- Conditions that agree in what verdicts rest on have the same verdicts.
use Rattle.std.proofs.Common.{◌≡◌, inl, inr, ℕ, ◌<◌, ◌≤◌, ◌&&◌, List, length, Option, Some, None, refl, sym, ap, subst, ◌∙◌}
use Rattle.std.specs.Prelude.{slice_index}
use Rattle.std.specs.List.{list_all}
use Rattle.std.specs.Option.{option_map}
use Rattle.sn_width.specs.declared.ids.SymId.{SymId}
use Rattle.sn_ranges.specs.Ranges.{fits_width}
use Rattle.path_formula.specs.Formulas.{FormulaTree}
use Rattle.path_cond.specs.Seen.{ConditionOf, first_broken, in_domain, tried}
use Rattle.path_cond.specs.Choices.{coupled_count, choice_count}
use Rattle.refutation_check.specs.Longer.{moved}
use Rattle.refutation_check.specs.Seen.{most_coupled, AreFitting, is_possible, holds_unless_outside, first_broken_outside, AreCandidates, AreLeast, HasNoCandidates, HasEmptyDomain, IsSimplyRefuted, IsSimplyOpen, IsWithinLimits, IsRefuted, HasLeast, AreManyCoupled, AreManyChoices, IsUndecidedBy, IsMetBy}
use Rattle.refutation_check.specs.declared.outcome.Cause.{Cause}
use Rattle.refutation_check.specs.declared.outcome.Cause.TheVariants.{Outside, Cases, Coupled}

module _ {X Y : Type 0} (f : X → FormulaTree) (g : Y → FormulaTree) where
  -- the conditions agree; picks of the first are led to those of the second, and back
  pub record Agrees (to from : ℕ → ℕ) (c : ConditionOf X) (d : ConditionOf Y) : Type 0 where
    pub widths_are : c.widths ≡ d.widths
    pub broken_to : first_broken g d ≡ option_map to (first_broken f c)
    pub broken_from : first_broken f c ≡ option_map from (first_broken g d)
    pub domains_are : (s : SymId) (value : ℕ) → in_domain f s c value ≡ in_domain g s d value
    pub coupled_are : coupled_count f c ≡ coupled_count g d
    pub choices_are : choice_count f c ≡ choice_count g d
    pub most_are : c.most_choices ≡ d.most_choices
    pub satisfied_are : (values : List ℕ) → list_all (holds_unless_outside f values) c.entries ≡ list_all (holds_unless_outside g values) d.entries
    pub outside_to : (values : List ℕ) → first_broken_outside g d values ≡ option_map to (first_broken_outside f c values)
    pub outside_from : (values : List ℕ) → first_broken_outside f c values ≡ option_map from (first_broken_outside g d values)

module _ {X Y : Type 0} (f : X → FormulaTree) (g : Y → FormulaTree) (to from : ℕ → ℕ) (c : ConditionOf X) (d : ConditionOf Y) (a : Agrees f g to from c d) where
  pub turned : Agrees g f from to d c
  turned = record {
    widths_are = sym a.widths_are;
    broken_to = a.broken_from;
    broken_from = a.broken_to;
    domains_are = λ s value. sym (a.domains_are s value);
    coupled_are = sym a.coupled_are;
    choices_are = sym a.choices_are;
    most_are = sym a.most_are;
    satisfied_are = λ values. sym (a.satisfied_are values);
    outside_to = a.outside_from;
    outside_from = a.outside_to;
  }

  possible : (s : SymId) (value : ℕ) → is_possible f c s value ≡ is_possible g d s value
  possible s value = λ i. fits_width (slice_index (a.widths_are i) s.0) value && a.domains_are s value i

  known : (s : SymId) → s.0 < length c.widths → s.0 < length d.widths
  known s h = subst (λ (ws : List ℕ). s.0 < length ws) a.widths_are h

  known_back : (s : SymId) → s.0 < length d.widths → s.0 < length c.widths
  known_back s h = subst (λ (ws : List ℕ). s.0 < length ws) (sym a.widths_are) h

  pub candidates : (values : List ℕ) → AreCandidates f c values → AreCandidates g d values
  candidates values h = record {
    fitting = subst (λ (ws : List ℕ). AreFitting ws values) a.widths_are h.fitting;
    satisfied = sym (a.satisfied_are values) ∙ h.satisfied;
  }

  pub candidates_back : (values : List ℕ) → AreCandidates g d values → AreCandidates f c values
  candidates_back values h = record {
    fitting = subst (λ (ws : List ℕ). AreFitting ws values) (sym a.widths_are) h.fitting;
    satisfied = a.satisfied_are values ∙ h.satisfied;
  }

  pub least : (values : List ℕ) → AreLeast f c values → AreLeast g d values
  least values h = record {
    candidates = candidates values h.candidates;
    first = λ others k. h.first others (candidates_back others k);
  }

  pub none : HasNoCandidates f c → HasNoCandidates g d
  none h = λ values k. h values (candidates_back values k)

  within : IsWithinLimits f c → IsWithinLimits g d
  within h = record {
    coupled = subst (λ n. n ≤ most_coupled) a.coupled_are h.coupled;
    choices = subst (λ n. choice_count g d ≤ tried n) a.most_are (subst (λ n. n ≤ tried c.most_choices) a.choices_are h.choices);
  }

  pub empty : HasEmptyDomain f c → HasEmptyDomain g d
  empty h = record {
    symbol = h.symbol;
    known = known h.symbol h.known;
    no_value = λ value. sym (possible h.symbol value) ∙ h.no_value value;
  }

  simply_refuted : IsSimplyRefuted f c → IsSimplyRefuted g d
  simply_refuted (inl h) = inl (record { pick = to h.pick; first = a.broken_to ∙ ap (option_map to) h.first })
  simply_refuted (inr h) = inr (empty h)

  pub refuted : IsRefuted f c → IsRefuted g d
  refuted (inl h) = inl (simply_refuted h)
  refuted (inr h) = inr (record { within = within h.within; no_candidates = none h.no_candidates })

  simply_open : IsSimplyOpen f c → IsSimplyOpen g d
  simply_open h = record {
    unbroken = a.broken_to ∙ ap (option_map to) h.unbroken;
    possible = λ s k. let found = h.possible s (known_back s k) in (found.0, sym (possible s found.0) ∙ found.1);
  }

  has_least : (values : List ℕ) (broken : Option ℕ) → HasLeast f c values broken → HasLeast g d values (option_map to broken)
  has_least values broken h = record {
    within = within h.within;
    least = least values h.least;
    broken_is = a.outside_to values ∙ ap (option_map to) h.broken_is;
  }

  pub met : (values : List ℕ) → IsMetBy f c values → IsMetBy g d values
  met values h = has_least values None h

  pub many_coupled : (count : ℕ) → AreManyCoupled f c count → AreManyCoupled g d count
  many_coupled count h = record { simply_open = simply_open h.simply_open; is = h.is ∙ a.coupled_are; many = h.many }

  pub many_choices : (count : ℕ) → AreManyChoices f c count → AreManyChoices g d count
  many_choices count h = record {
    simply_open = simply_open h.simply_open;
    is = h.is ∙ a.choices_are;
    many = subst (λ n. tried n < count) a.most_are h.many;
  }

  pub undecided : (cause : Cause) → IsUndecidedBy f c cause → IsUndecidedBy g d (moved to cause)
  undecided (Coupled count) h = many_coupled count h
  undecided (Cases count) h = (subst (λ n. n ≤ most_coupled) a.coupled_are h.0, many_choices count h.1)
  undecided (Outside pick values) h = has_least values (Some pick) h

same_map : (o : Option ℕ) → o ≡ option_map (λ n. n) o
same_map None = refl
same_map (Some n) = refl

-- conditions that agree, picks and all
module _ {X Y : Type 0} (f : X → FormulaTree) (g : Y → FormulaTree) (c : ConditionOf X) (d : ConditionOf Y) where
  pub agree_throughout : c.widths ≡ d.widths → first_broken f c ≡ first_broken g d
      → ((s : SymId) (value : ℕ) → in_domain f s c value ≡ in_domain g s d value)
      → coupled_count f c ≡ coupled_count g d → choice_count f c ≡ choice_count g d → c.most_choices ≡ d.most_choices
      → ((values : List ℕ) → list_all (holds_unless_outside f values) c.entries ≡ list_all (holds_unless_outside g values) d.entries)
      → ((values : List ℕ) → first_broken_outside f c values ≡ first_broken_outside g d values)
      → Agrees f g (λ n. n) (λ n. n) c d
  agree_throughout widths broken domains coupled choices most satisfied outside = record {
    widths_are = widths;
    broken_to = sym broken ∙ same_map (first_broken f c);
    broken_from = broken ∙ same_map (first_broken g d);
    domains_are = domains;
    coupled_are = coupled;
    choices_are = choices;
    most_are = most;
    satisfied_are = satisfied;
    outside_to = λ values. sym (outside values) ∙ same_map (first_broken_outside f c values);
    outside_from = λ values. outside values ∙ same_map (first_broken_outside g d values);
  }

module _ {X Y : Type 0} (f : X → FormulaTree) (g : Y → FormulaTree) (c : ConditionOf X) (d : ConditionOf Y) (a : Agrees f g (λ n. n) (λ n. n) c d) where
  pub undecided_same : (cause : Cause) → IsUndecidedBy f c cause → IsUndecidedBy g d cause
  undecided_same (Outside pick values) h = undecided f g (λ n. n) (λ n. n) c d a (Outside pick values) h
  undecided_same (Cases count) h = undecided f g (λ n. n) (λ n. n) c d a (Cases count) h
  undecided_same (Coupled count) h = undecided f g (λ n. n) (λ n. n) c d a (Coupled count) h
