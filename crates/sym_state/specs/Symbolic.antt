-- Symbolic states.
use Rattle.std.specs.Prelude.{ℕ, ◌≤◌, List, [], ◌∷◌, ◌++◌, drop, length, take}
use Rattle.lin_term.specs.Terms.{LinearTerm, value_at}
use Rattle.path_formula.specs.declared.formula.Formula.{Formula}
use Rattle.path_cond.specs.Conditions.{Condition, Entry}
use Rattle.interval_solver.specs.Domains.{with_width}
use Rattle.sefl_meaning.specs.declared.walk.Decision.{Decision}
use Rattle.sefl_meaning.specs.declared.walk.Place.{Place}
use Rattle.sefl_meaning.specs.declared.walk.Iteration.{Iteration}
use Rattle.sefl_meaning.specs.Network.{Network}
use Rattle.sefl_meaning.specs.Carried.{Carried, Scene, carried_valued}
use Rattle.sefl_meaning.specs.Valued.{CarriedFits}
use Rattle.term_values.specs.Fits.{typed_fits}
pub use Rattle.path_trace.specs.Traces.{node_of, polarity}

-- what is carried, the condition that was met so far, the decisions and the ports arrived at, the newest first, and how many
-- of the symbols, the first ones, are unknown fields
pub record Symbolic : Type 0 where
  pub carried : Carried LinearTerm
  pub condition : Condition
  pub decisions : List Decision
  pub places : List Place
  pub unknowns : ℕ

-- the carried terms are over the symbols of the condition, at their widths, and each unknown field is a symbol
pub record IsSound (carried : Carried LinearTerm) (condition : Condition) (unknowns : ℕ) : Type 0 where
  pub fits : CarriedFits (typed_fits condition.widths) carried
  pub known : unknowns ≤ length condition.widths

-- where the code runs that the state has come to, in these iterations, the innermost first
abbrev pub scene_in : Network → List Iteration → Symbolic → Scene
scene_in net iterations s = record { net = net; node = node_of s.places; iterations = iterations }

-- the carried numbers, at these values of the symbols
abbrev pub numbers_in : List ℕ → Symbolic → Carried ℕ
numbers_in v s = carried_valued (λ t. value_at t v) s.carried

-- the widths of the choices so far
abbrev pub choices_of : Symbolic → List ℕ
choices_of s = drop s.unknowns s.condition.widths

-- with these terms
abbrev pub with_carried : Symbolic → Carried LinearTerm → Symbolic
with_carried s carried = record s { carried = carried }

-- with these terms, and one symbol more, of this width
abbrev pub with_symbol : Symbolic → ℕ → Carried LinearTerm → Symbolic
with_symbol s width carried = record s { carried = carried; condition = with_width s.condition width }

-- with more formulas, each with the truth that it must have
abbrev pub with_entries : Symbolic → List Entry → Symbolic
with_entries s more = record s { condition = record s.condition { entries = s.condition.entries ++ more } }

-- with one decision more
abbrev pub with_decision : Symbolic → Decision → Symbolic
with_decision s decision = record s { decisions = decision ∷ s.decisions }

-- with one port more that was arrived at
abbrev pub with_place : Symbolic → Place → Symbolic
with_place s place = record s { places = place ∷ s.places }

-- a decision on a formula
abbrev pub decided : Symbolic → Formula → Decision → Symbolic
decided s formula decision = with_decision (with_entries s ((formula, polarity decision) ∷ [])) decision

-- what no instruction changes: the unknown fields with their widths, the formulas, the bound on choices of cases, the decisions and
-- the places
pub record Rest : Type 0 where
  pub unknowns : ℕ
  pub fields : List ℕ
  pub entries : List Entry
  pub most_choices : ℕ
  pub decisions : List Decision
  pub places : List Place

abbrev pub rest_of : Symbolic → Rest
rest_of s = record {
  unknowns = s.unknowns;
  fields = take s.unknowns s.condition.widths;
  entries = s.condition.entries;
  most_choices = s.condition.most_choices;
  decisions = s.decisions;
  places = s.places;
}

-- what is carried, and the widths of the choices
abbrev pub held_of : Symbolic → Carried LinearTerm × List ℕ
held_of s = (s.carried, choices_of s)
