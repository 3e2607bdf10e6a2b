-- Domains of the symbols of a condition.
use Rattle.std.specs.Prelude.{◌≡◌, ℕ, Bool, true, false, ◌==◌, List, [], ◌∷◌, ◌++◌, min, Option, Some, None, length, slice_get, slice_index}
use Rattle.std.specs.List.{position_from}
use Rattle.sn_ranges.specs.Ranges.{RangeSet, IsSetOf}
use Rattle.sn_width.specs.declared.ids.SymId.{SymId}
use Rattle.path_cond.specs.Conditions.{Condition, Entry, is_possible}

-- the ranges of the symbol's domain: exactly the possible values
abbrev pub IsDomainOf : Condition → SymId → RangeSet → Type 0
IsDomainOf cond s set = IsSetOf (slice_index cond.widths s.0) (is_possible cond s) set

-- one set for each of the first N symbols; each is the domain of its symbol
pub record AreDomainsOfFirst (cond : Condition) (number : ℕ) (sets : List RangeSet) : Type 0 where
  pub count : length sets ≡ number
  pub domains : (s : SymId) (set : RangeSet) → slice_get sets s.0 ≡ Some set → IsDomainOf cond s set

-- one set for each symbol of the condition, each the domain of its symbol
abbrev pub AreDomainsOf : Condition → List RangeSet → Type 0
AreDomainsOf cond sets = AreDomainsOfFirst cond (length cond.widths) sets

-- the condition with one symbol more, which comes after the others
abbrev pub with_width : Condition → ℕ → Condition
with_width cond width = record cond { widths = cond.widths ++ width ∷ [] }

-- the sets are the domains of the condition without this formula, which is its last
pub record AreDomainsBefore (cond : Condition) (sets : List RangeSet) (last : Entry) : Type 0 where
  pub entries : List Entry
  pub split : cond.entries ≡ entries ++ last ∷ []
  pub domains : AreDomainsOf (record cond { entries = entries }) sets

-- the sets are the domains of the condition without its last formula
abbrev pub AreDomainsBeforeLast : Condition → List RangeSet → Type 0
AreDomainsBeforeLast cond sets = (last : Entry) × AreDomainsBefore cond sets last

-- the set has no range
abbrev pub is_empty : RangeSet → Bool
is_empty set = length set.pairs == 0

-- at the place is a set that has a range
abbrev pub IsFilledAt : List RangeSet → ℕ → Type 0
IsFilledAt sets place = (set : RangeSet) × (slice_get sets place ≡ Some set) × (is_empty set ≡ false)

-- the place of the first set without a range
abbrev pub first_empty : List RangeSet → Option ℕ
first_empty sets = position_from is_empty 0 sets

-- the first place, with one more that counts or does not and comes after all others
abbrev pub first_or_last : Option ℕ → Bool → ℕ → Option ℕ
first_or_last (Some first) counts place = Some first
first_or_last None true place = Some place
first_or_last None false place = None

-- the first place, where one that did not count now counts or does not
abbrev pub first_with : Option ℕ → Bool → ℕ → Option ℕ
first_with (Some first) true place = Some (min first place)
first_with (Some first) false place = Some first
first_with None true place = Some place
first_with None false place = None
