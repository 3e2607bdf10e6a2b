-- Walks that were found, and work that is left.
use Rattle.std.proofs.Common.{◌≡◌, ℕ, zero, suc, ◌<◌, List, [], ◌∷◌, ◌++◌, length, map, Result, Ok, Err, arith, subst}
use Rattle.std.specs.declared.alloc.Global.{Global}
use Rattle.std.specs.declared.vec.Vec.{Vec}
use Rattle.sn_width.specs.declared.ids.NodeId.{NodeId}
use Rattle.sefl_meaning.specs.declared.walk.Walk.{Walk}
use Rattle.sefl_meaning.specs.Carried.{Carried}
use Rattle.sefl_meaning.specs.Injected.{Starts, walks_from}
use Rattle.sefl_meaning.specs.Network.{Network, Entry}
use Rattle.sefl_meaning.specs.View.{trail_of}
use Rattle.sefl_meaning.specs.Runs.{Progress}
use Rattle.sefl_meaning.specs.Walks.{Trail}
use Rattle.concrete_run.specs.declared.pending.Pending.{Pending}
use Rattle.concrete_run.specs.declared.pending.Stage.{Stage}
use Rattle.concrete_run.specs.declared.pending.Stage.TheVariants.{Arriving, Leaving, Copying, Ended}
use Rattle.concrete_run.specs.declared.walks.WalkFault.{WalkFault}
use Rattle.concrete_run.specs.declared.walks.WalkFault.TheVariants.{Start, TooMany, NoMemory}
use Rattle.concrete_run.specs.Answers.{AllAnswer, AreAll, GatherAnswer}
use Rattle.packet_run.specs.Packets.{Given, given_of, progress_of}
use Rattle.concrete_run.specs.Pending.{walks_of_all, steps_at, steps_copied, steps_entered, steps_of}

module _ (net : Network) where
  -- the walks found, and those of the work that is left
  abbrev pub Found : List Walk → List Pending → List Trail → Type 0
  Found walks work all = map trail_of walks ++ walks_of_all net work ≡ all

  some_copied : (g : Given) (hops : ℕ) (node : NodeId) (ports : List ℕ) (p : Progress ℕ)
      → 0 < steps_copied net g.0 g.1 (steps_entered net g.0 g.1 hops) node ports p
  some_copied g hops node [] p = omega arith
  some_copied g hops node (port ∷ ports) p = omega arith

  some_at : (g : Given) (stage : Stage) (hops : ℕ) (p : Progress ℕ) → 0 < steps_at net g stage hops p
  some_at g (Arriving node port) zero p = omega arith
  some_at g (Arriving node port) (suc hops) p = omega arith
  some_at g (Leaving node port) hops p = omega arith
  some_at g (Copying node number ports) hops p = some_copied g hops node ports.now p
  some_at g (Ended end') hops p = omega arith

  -- a packet takes a step
  pub some_steps : (p : Pending) → 0 < steps_of net p
  some_steps p = some_at (given_of p.packet) p.stage p.hops (progress_of p.packet)

-- what is answered of the walks that are still to come, for those of a packet that starts
pub all_answer : (net : Network) (i : Entry) (v : List ℕ) (hops limit : ℕ) (s : Carried ℕ) (all : List Trail) (result : Result (Vec Walk Global) WalkFault)
    → Starts net i v s → all ≡ walks_from net i v hops s → GatherAnswer limit all result → AllAnswer net i v hops limit result
all_answer net i v hops limit s all (Ok walks) starts e h = record { carried = s; starts = starts; walks = subst (AreAll limit walks) e h }
all_answer net i v hops limit s all (Err (Start fault)) starts e h = absurd h
all_answer net i v hops limit s all (Err (TooMany count)) starts e h =
    (h.0, record { carried = s; starts = starts; walks = subst (λ l. limit < length l) e h.1 })
all_answer net i v hops limit s all (Err NoMemory) starts e h = tt
