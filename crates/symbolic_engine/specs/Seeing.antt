-- What the engine's values are seen as.
use Rattle.std.specs.Prelude.{ℕ}
use Rattle.net_check.specs.Network.{Network}
use Rattle.refutation_check.specs.declared.outcome.Verdict.{Verdict}
use Rattle.sefl_meaning.specs.declared.walk.End.{End}
use Rattle.sefl_meaning.specs.Trees.{over}
use Rattle.exact_records.specs.Records.{SymStart, SymTree}
use Rattle.sym_state.specs.Symbolic.{Symbolic}
use Rattle.path_exec.specs.declared.engine.Moved.{Moved}
use Rattle.path_exec.specs.Handing.{Handed}
use Rattle.path_exec.specs.Location.{Location, point_at}
use Rattle.path_exec.specs.Moves.{IsMove}
use Rattle.path_exec.specs.Views.{Views}
use Rattle.symbolic_engine.specs.declared.found.Found.{Found}
use Rattle.symbolic_engine.specs.declared.origin.Origin.{Ghosts}
use Rattle.symbolic_engine.specs.declared.points.Finished.{Finished}
use Rattle.symbolic_engine.specs.declared.points.Standing.{Standing}
use Rattle.symbolic_engine.specs.declared.points.Waiting.{Waiting}
use Rattle.symbolic_engine.specs.declared.stage.Stage.{Stage}
use Rattle.symbolic_engine.specs.declared.stage.Wait.{Wait}
use Rattle.symbolic_engine.specs.Finds.{handed_tree}
use Rattle.symbolic_engine.specs.Leading.{IsHanded}
use Rattle.symbolic_engine.specs.Origins.{location_of, progress_in}
use Rattle.symbolic_engine.specs.Stages.{stage_tree, wait_tree}

module _ (s : SymStart) (net : Network) where
  -- where a state is at a stage, where it waits, and where its run is over
  abbrev pub standing_at : Symbolic → Stage → Location
  standing_at x stage = location_of s x (stage_tree net stage x)

  abbrev pub waiting_at : Symbolic → Wait → Location
  waiting_at x wait = location_of s x (wait_tree net wait x)

abbrev pub finished_at : SymStart → Symbolic → End → Location
finished_at s x how = location_of s x (λ begun. over (progress_in x begun) how)

-- what the engine's values are seen as
abbrev pub views_of : {B : Type 0} {origin : Ghosts B} → SymStart → Network → Views (Standing B) (Finished B) (Waiting B origin) Verdict (Handed Found)
views_of s net = record {
  start = s;
  place_at = λ place. standing_at s net place.run place.stage;
  carried_at = λ place. place.run.carried;
  over_at = λ ended. finished_at s ended.run ended.how;
  node_at = λ node. waiting_at s net node.run node.wait;
  verdict_of = λ verdict. verdict;
  record_of = handed_tree;
  IsOwn = IsHanded s;
}

-- the run moves on from where the state is, with this to come, whatever number of instructions has begun
abbrev pub MovedFrom : {B : Type 0} {origin : Ghosts B} → SymStart → Network → Symbolic → (ℕ → SymTree) → Moved (Standing B) (Finished B) (Waiting B origin) → Type 0
MovedFrom s net x tree moved = (begun : ℕ) → IsMove (views_of s net) (point_at begun (location_of s x tree)) begun moved
