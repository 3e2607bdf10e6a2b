-- Where a run stands, whatever number of instructions has begun.
use Rattle.std.specs.Prelude.{ℕ, ◌≡◌, Bool, List, [], ◌∷◌, ◌++◌}
use Rattle.path_formula.specs.Formulas.{FormulaTree}
use Rattle.sefl_meaning.specs.declared.walk.Decision.{Decision}
use Rattle.sefl_meaning.specs.declared.walk.Place.{Place}
use Rattle.exact_records.specs.Records.{SymStart, SymTree}
use Rattle.exact_records.specs.Points.{Point}
use Rattle.exact_records.specs.Work.{at_last, begun_at}

-- a point, but what comes is said for each number of instructions that may have begun
pub record Location : Type 0 where
  pub decisions : List Decision
  pub places : List Place
  pub tests : List (FormulaTree × Bool)
  pub widths : List ℕ
  pub tree : ℕ → SymTree

-- the point where this many have begun
abbrev pub point_at : ℕ → Location → Point
point_at begun h = record {
  decisions = h.decisions;
  places = h.places;
  tests = h.tests;
  widths = h.widths;
  tree = h.tree begun;
}

-- the last port is this one
abbrev pub EndsWith : List Place → Place → Type 0
EndsWith places port = (front : List Place) × (places ≡ front ++ port ∷ [])

-- behind the last decision: none has begun since the instruction that took it
abbrev pub behind_last : SymStart → Location → Point
behind_last s h = point_at (at_last (begun_at s.tree) h.decisions) h

-- where the next decision is taken, or the run is over
abbrev pub waiting_at : SymStart → Location → Point
waiting_at s h = point_at (begun_at s.tree h.decisions) h
