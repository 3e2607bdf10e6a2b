-- Conditions with more formulas or more symbols.
use Rattle.std.specs.Prelude.{◌≡◌, ◌↔◌, ℕ, ◌-◌, suc, nat_lt, Bool, true, List, [], ◌∷◌, ◌++◌, Option, Some, None, length, if◌then◌else◌}
use Rattle.std.specs.List.{list_all, position_from}
use Rattle.path_formula.specs.Formulas.{FormulaTree}
use Rattle.path_formula.specs.Kinds.{kind_of}
use Rattle.path_formula.specs.declared.kinds.Kind.TheVariants.{Constant}
use Rattle.path_cond.specs.Seen.{ConditionOf, AllTyped}
use Rattle.refutation_check.specs.Seen.{AreLeast, HasNoCandidates, holds_unless_outside, is_broken_outside, first_broken_outside, IsRefuted, IsMetBy, IsUndecidedBy}
use Rattle.refutation_check.specs.declared.outcome.Cause.{Cause}
use Rattle.refutation_check.specs.declared.outcome.Cause.TheVariants.{Outside, Cases, Coupled}

-- the condition with these formulas more
abbrev pub with_entries : {X : Type 0} → ConditionOf X → List (X × Bool) → ConditionOf X
with_entries cond more = record cond { entries = cond.entries ++ more }

-- the condition with symbols of these widths more
abbrev pub with_widths : {X : Type 0} → ConditionOf X → List ℕ → ConditionOf X
with_widths cond more = record cond { widths = cond.widths ++ more }

-- the condition of these formulas, with this bound
abbrev pub condition_of : {X : Type 0} → ℕ → List ℕ → List (X × Bool) → ConditionOf X
condition_of most widths entries = record { widths = widths; entries = entries; most_choices = most }

-- the first of the two that is there
abbrev pub or_later : Option ℕ → Option ℕ → Option ℕ
or_later (Some pick) later = Some pick
or_later None later = later

-- a zero for each width
abbrev pub zeros : List ℕ → List ℕ
zeros [] = []
zeros (width ∷ widths) = 0 ∷ zeros widths

-- the cause, with zeros behind its values
abbrev pub with_zeros : List ℕ → Cause → Cause
with_zeros widths (Outside pick values) = Outside pick (values ++ zeros widths)
with_zeros widths (Cases count) = Cases count
with_zeros widths (Coupled count) = Coupled count

-- the cause with another pick
abbrev pub moved : (ℕ → ℕ) → Cause → Cause
moved to (Outside pick values) = Outside (to pick) values
moved to (Cases count) = Cases count
moved to (Coupled count) = Coupled count

-- the pick of a formula once one more stands before the formula of this place; and the other way
abbrev pub pick_behind : ℕ → ℕ → ℕ
pick_behind place pick = if nat_lt pick place then pick else suc pick

abbrev pub pick_before : ℕ → ℕ → ℕ
pick_before place pick = if nat_lt pick place then pick else pick - 1

module _ {X : Type 0} (tree : X → FormulaTree) where
  -- what stays where a condition has more formulas, or more symbols and then more formulas
  pub record LeastStay : Type 0 where
    -- least values that satisfy each further formula that is not outside are the least of the longer condition
    pub least : (cond : ConditionOf X) (more : List (X × Bool)) (values : List ℕ) → AreLeast tree cond values
        → list_all (holds_unless_outside tree values) more ≡ true → AreLeast tree (with_entries cond more) values
    -- with symbols more, these are 0 in the least values
    pub wider : (cond : ConditionOf X) (widths : List ℕ) (more : List (X × Bool)) (values : List ℕ) → AllTyped tree cond.widths cond.entries
        → AreLeast tree cond values → list_all (holds_unless_outside tree (values ++ zeros widths)) more ≡ true
        → AreLeast tree (with_entries (with_widths cond widths) more) (values ++ zeros widths)
    -- the first outside formula that values break is the one of the shorter condition, or the first of the further ones
    pub broken : (cond : ConditionOf X) (more : List (X × Bool)) (values : List ℕ) → first_broken_outside tree (with_entries cond more) values
        ≡ or_later (first_broken_outside tree cond values) (position_from (is_broken_outside tree values) (length cond.entries) more)
    -- no candidates stay none
    pub none : (cond : ConditionOf X) (more : List (X × Bool)) → HasNoCandidates tree cond → HasNoCandidates tree (with_entries cond more)

  -- symbols that no formula has change no verdict, and are 0 in the least values
  pub record WidenFreely : Type 0 where
    pub refuted : (cond : ConditionOf X) (more : List ℕ) → AllTyped tree cond.widths cond.entries → IsRefuted tree (with_widths cond more) ↔ IsRefuted tree cond
    pub met : (cond : ConditionOf X) (more values : List ℕ) → AllTyped tree cond.widths cond.entries → IsMetBy tree cond values → IsMetBy tree (with_widths cond more) (values ++ zeros more)
    pub undecided : (cond : ConditionOf X) (more : List ℕ) (cause : Cause) → AllTyped tree cond.widths cond.entries → IsUndecidedBy tree cond cause → IsUndecidedBy tree (with_widths cond more) (with_zeros more cause)

  -- a constant formula that has the truth that it must have changes no verdict, wherever it stands
  pub record ConstantsAreFree : Type 0 where
    pub refuted : (most : ℕ) (widths : List ℕ) (before after : List (X × Bool)) (entry : X × Bool) → kind_of (tree entry.0) ≡ Constant entry.1
        → IsRefuted tree (condition_of most widths (before ++ entry ∷ after)) ↔ IsRefuted tree (condition_of most widths (before ++ after))
    pub met : (most : ℕ) (widths : List ℕ) (before after : List (X × Bool)) (entry : X × Bool) (values : List ℕ) → kind_of (tree entry.0) ≡ Constant entry.1
        → IsMetBy tree (condition_of most widths (before ++ entry ∷ after)) values ↔ IsMetBy tree (condition_of most widths (before ++ after)) values
    -- the pick of an outside formula behind it is one more
    pub undecided : (most : ℕ) (widths : List ℕ) (before after : List (X × Bool)) (entry : X × Bool) (cause : Cause) → kind_of (tree entry.0) ≡ Constant entry.1
        → IsUndecidedBy tree (condition_of most widths (before ++ after)) cause
        → IsUndecidedBy tree (condition_of most widths (before ++ entry ∷ after)) (moved (pick_behind (length before)) cause)
    pub undecided_without : (most : ℕ) (widths : List ℕ) (before after : List (X × Bool)) (entry : X × Bool) (cause : Cause) → kind_of (tree entry.0) ≡ Constant entry.1
        → IsUndecidedBy tree (condition_of most widths (before ++ entry ∷ after)) cause
        → IsUndecidedBy tree (condition_of most widths (before ++ after)) (moved (pick_before (length before)) cause)
    -- at the end, no pick changes
    pub undecided_last : (cond : ConditionOf X) (entry : X × Bool) (cause : Cause) → kind_of (tree entry.0) ≡ Constant entry.1
        → IsUndecidedBy tree (with_entries cond (entry ∷ [])) cause ↔ IsUndecidedBy tree cond cause
