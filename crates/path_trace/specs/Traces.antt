-- What a path has met.
use Rattle.std.specs.Prelude.{ℕ, Bool, true, false, List, [], ◌∷◌, ◌++◌}
use Rattle.sn_width.specs.declared.ids.NodeId.{NodeId}
use Rattle.path_formula.specs.declared.formula.Formula.{Formula}
use Rattle.path_cond.specs.Conditions.{Condition, Entry}
use Rattle.interval_solver.specs.Domains.{with_width}
use Rattle.sefl_meaning.specs.declared.walk.Decision.{Decision}
use Rattle.sefl_meaning.specs.declared.walk.Decision.TheVariants.{Then, Else, Pass, Broken, Copy}
use Rattle.sefl_meaning.specs.declared.walk.Place.{Place}

-- the condition that was met so far, and the decisions and the ports arrived at, the newest first
pub record Met : Type 0 where
  pub condition : Condition
  pub decisions : List Decision
  pub places : List Place

-- the node of the port that was arrived at last
abbrev pub node_of : List Place → NodeId
node_of [] = record { 0 = 0 }
node_of (place ∷ places) = place.node

-- with one symbol more, of this width
abbrev pub with_symbol : Met → ℕ → Met
with_symbol met width = record met { condition = with_width met.condition width }

-- with one formula more, and the truth that it must have
abbrev pub with_entry : Met → Entry → Met
with_entry met entry = record met { condition = record met.condition { entries = met.condition.entries ++ entry ∷ [] } }

-- with one decision more
abbrev pub with_decision : Met → Decision → Met
with_decision met decision = record met { decisions = decision ∷ met.decisions }

-- with one port more that was arrived at
abbrev pub with_place : Met → Place → Met
with_place met place = record met { places = place ∷ met.places }

-- the truth that a decision gives to its formula
abbrev pub polarity : Decision → Bool
polarity Then = true
polarity Else = false
polarity Pass = true
polarity Broken = false
polarity (Copy number) = true

-- a decision on a formula
abbrev pub decided : Met → Formula → Decision → Met
decided met formula decision = with_decision (with_entry met (formula, polarity decision)) decision
