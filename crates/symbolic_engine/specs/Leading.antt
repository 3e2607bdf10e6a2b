-- Where decisions lead.
use Rattle.std.specs.Prelude.{ℕ, ◌≡◌, List, length, reverse, Some}
use Rattle.sefl_meaning.specs.declared.walk.Decision.{Decision}
use Rattle.sefl_meaning.specs.Routes.{places_on, route}
use Rattle.sefl_meaning.specs.Start.{progress_of}
use Rattle.sefl_meaning.specs.Trees.{over}
use Rattle.exact_records.specs.Records.{SymRoute, SymStart, SymTree, condition_on}
use Rattle.sym_state.specs.Symbolic.{Symbolic}
use Rattle.path_exec.specs.Handing.{Handed, IsListed}
use Rattle.path_exec.specs.Offers.{IsNode}
use Rattle.symbolic_engine.specs.declared.found.Found.{Found}
use Rattle.symbolic_engine.specs.declared.found.Found.TheVariants.{Path, Pruned, Unexplored}
use Rattle.symbolic_engine.specs.declared.guiding.Led.{Led}
use Rattle.symbolic_engine.specs.declared.guiding.Waits.{Waits}
use Rattle.symbolic_engine.specs.declared.guiding.Waits.TheVariants.{Nothing, Decides}
use Rattle.symbolic_engine.specs.Origins.{condition_seen, progress_in}

-- the run is over so, or waits so
abbrev pub WaitsAs : Waits → SymTree → Symbolic → Type 0
WaitsAs (Nothing how) t x = (begun : ℕ) × (t ≡ over (progress_in x begun) how)
WaitsAs (Decides offer) t x = IsNode offer t

-- these decisions lead to this state, by its ports and its formulas, and this waits there; its first symbols are the unknown fields
pub record LeadsThere (start : SymStart) (ds : List Decision) (led : Led) : Type 0 where
  pub way : SymRoute
  pub leads : route start.tree ds ≡ Some way
  pub waits : WaitsAs led.waits way.left led.state
  pub carries : (progress_of way.left).state ≡ led.state.carried
  pub decisions : reverse led.state.decisions ≡ ds
  pub places : reverse led.state.places ≡ places_on way
  pub condition : condition_seen led.state ≡ condition_on start way
  pub unknowns : led.state.unknowns ≡ length start.unknowns

-- the state of a path is where these decisions lead, and there the run is over
abbrev pub LeadsToFound : SymStart → List Decision → Found → Type 0
LeadsToFound start ds (Path state how verdict) = LeadsThere start ds (record { state = state; waits = Nothing how })
LeadsToFound start ds (Pruned before refutation) = Unit {0}
LeadsToFound start ds Unexplored = Unit {0}

-- what an exploration from this start hands over: the program has its decisions, and they lead to the state of a path
pub record IsHanded (start : SymStart) (item : Handed Found) : Type 0 where
  pub listed : IsListed item.decisions
  pub leads : LeadsToFound start item.decisions item.found
