-- Path conditions over any formulas; each formula is seen as a tree.
use Rattle.std.specs.Prelude.{ℕ, zero, Bool, true, false, not, ◌&&◌, ◌==◌, List, [], ◌∷◌, map, Option, if◌then◌else◌, slice_index, suc}
use Rattle.std.specs.List.{list_all, position_from}
use Rattle.sn_width.specs.declared.ids.SymId.{SymId}
use Rattle.sn_ranges.specs.Ranges.{fits_width}
use Rattle.path_formula.specs.Formulas.{FormulaTree, truth_at}
use Rattle.path_formula.specs.Kinds.{kind_of}
pub use Rattle.path_formula.specs.Kinds.{is_simple_on}
use Rattle.path_formula.specs.Solutions.{agrees, alone}
use Rattle.path_formula.specs.Typed.{IsTyped}
use Rattle.path_formula.specs.declared.kinds.Kind.{Kind}
use Rattle.path_formula.specs.declared.kinds.Kind.TheVariants.{Constant, Simple, Inside, Outside}

-- the widths of symbols; formulas, each with the truth that it must have; and a bound on the choices of cases that decisions try
pub record ConditionOf (X : Type 0) : Type 0 where
  pub widths : List ℕ
  pub entries : List (X × Bool)
  pub most_choices : ℕ

-- a formula of this kind is constant, and has not the truth that it must have
abbrev pub is_broken_kind : Bool → Kind → Bool
is_broken_kind holds (Constant truth) = not (agrees holds truth)
is_broken_kind holds (Simple s) = false
is_broken_kind holds Inside = false
is_broken_kind holds Outside = false

-- how many choices of cases are tried under a bound: as many as it says, and one at least
abbrev pub tried : ℕ → ℕ
tried zero = 1
tried (suc more) = suc more

-- a formula that is a tree is seen as itself
abbrev pub itself : FormulaTree → FormulaTree
itself tree = tree

module _ {X : Type 0} (tree : X → FormulaTree) where
  -- the formula has the truth that it must have at these values
  abbrev pub entry_holds : List ℕ → X × Bool → Bool
  entry_holds values entry = agrees entry.1 (truth_at (tree entry.0) values)

  -- each formula has the truth that it must have at these values
  abbrev pub holds_at : ConditionOf X → List ℕ → Bool
  holds_at cond values = list_all (entry_holds values) cond.entries

  abbrev pub is_entry_on : SymId → X × Bool → Bool
  is_entry_on s entry = is_simple_on s (kind_of (tree entry.0))

  -- a formula that is simple on the symbol has the truth that it must have at these values
  abbrev pub meets : SymId → List ℕ → X × Bool → Bool
  meets s values entry = if is_entry_on s entry then entry_holds values entry else true

  -- the value of the symbol meets each formula that is simple on the symbol
  abbrev pub in_domain : SymId → ConditionOf X → ℕ → Bool
  in_domain s cond value = list_all (meets s (alone s value)) cond.entries

  -- the number is a value of the symbol's width, and meets each formula that is simple on the symbol
  abbrev pub is_possible : ConditionOf X → SymId → ℕ → Bool
  is_possible cond s value = fits_width (slice_index cond.widths s.0) value && in_domain s cond value

  abbrev pub is_broken : X × Bool → Bool
  is_broken entry = is_broken_kind entry.1 (kind_of (tree entry.0))

  -- the least pick of a constant formula that has not the truth that it must have
  abbrev pub first_broken : ConditionOf X → Option ℕ
  first_broken cond = position_from is_broken 0 cond.entries

  -- the picks of the formulas that are simple on the symbol, where the first formula has this pick
  abbrev pub picks_from : SymId → ℕ → List (X × Bool) → List ℕ
  picks_from s pick [] = []
  picks_from s pick (entry ∷ entries) =
      if is_entry_on s entry then pick ∷ picks_from s (suc pick) entries else picks_from s (suc pick) entries

  -- the picks of the formulas that are simple on the symbol
  abbrev pub simple_picks : SymId → ConditionOf X → List ℕ
  simple_picks s cond = picks_from s 0 cond.entries

  -- each formula is typed
  abbrev pub AllTyped : List ℕ → List (X × Bool) → Type 0
  AllTyped widths [] = Unit {0}
  AllTyped widths (entry ∷ entries) = IsTyped widths (tree entry.0) × AllTyped widths entries

  -- the formula as a tree
  abbrev pub entry_seen : X × Bool → FormulaTree × Bool
  entry_seen entry = (tree entry.0, entry.1)

  -- the condition with the trees of its formulas
  abbrev pub seen : ConditionOf X → ConditionOf FormulaTree
  seen cond = record { widths = cond.widths; entries = map entry_seen cond.entries; most_choices = cond.most_choices }
