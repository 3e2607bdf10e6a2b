-- The walks that are still to come.
use Rattle.std.specs.Prelude.{◌≡◌, ℕ, zero, suc, ◌+◌, List, [], ◌∷◌, ◌++◌, map, Option, None, Some}
use Rattle.sn_width.specs.declared.ids.NodeId.{NodeId}
use Rattle.sefl_meaning.specs.declared.walk.Decision.{Decision}
use Rattle.sefl_meaning.specs.declared.walk.Place.{Place}
use Rattle.sefl_meaning.specs.declared.walk.End.TheVariants as ends
use Rattle.sefl_meaning.specs.declared.walk.Walk.{Walk}
use Rattle.sefl_syntax.specs.declared.net.Side.{Side}
use Rattle.sefl_syntax.specs.declared.net.Side.TheVariants.{Inward, Outward}
use Rattle.sefl_meaning.specs.View.{trail_of}
pub use Rattle.sefl_meaning.specs.Order.{BeginsWith}
use Rattle.sefl_meaning.specs.Network.{Network, link_of}
use Rattle.sefl_meaning.specs.Routes.{Has}
use Rattle.sefl_meaning.specs.Runs as runs
use Rattle.sefl_meaning.specs.Runs.{Progress, off, go, forked, failed}
use Rattle.sefl_meaning.specs.Walks.{Passage, Trail, shown, run_port, enter, leave, copies, ended}
use Rattle.packet_run.specs.Packets.{Given, given_of, progress_of}
use Rattle.packet_run.specs.declared.packet.Packet.{Packet}
use Rattle.code_frames.specs.declared.frame.Exit.{Exit}
use Rattle.code_frames.specs.declared.frame.Exit.TheVariants.{Off, Go, Forked, Failed}
use Rattle.concrete_run.specs.declared.pending.Pending.{Pending}
use Rattle.concrete_run.specs.declared.pending.Stage.{Stage}
use Rattle.concrete_run.specs.declared.pending.Stage.TheVariants.{Arriving, Leaving, Copying, Ended}
use Rattle.concrete_run.specs.declared.pending.Next.{Next}
use Rattle.concrete_run.specs.declared.pending.Next.TheVariants as next

-- what the walk behind these decisions and places shows
abbrev pub led : List Decision → List Place → Passage → Trail
led decisions places t =
    record (shown t) { decisions = decisions ++ t.decisions; places = places ++ (shown t).places }

-- before a port
abbrev pub stage_before : NodeId → Side → ℕ → Stage
stage_before node Inward port = Arriving node port
stage_before node Outward port = Leaving node port

-- behind the code of an input port
abbrev pub stage_passed : NodeId → Exit → Stage
stage_passed node Off = Ended ends.Stopped
stage_passed node (Go port) = Leaving node port
stage_passed node (Forked ports) = Copying node 0 ports
stage_passed node (Failed failure site) = Ended (ends.Failed failure (record { 0 = site }))

-- behind an output port
abbrev pub stage_behind : Option (NodeId × ℕ) → Stage
stage_behind None = Ended ends.Delivered
stage_behind (Some to) = Arriving to.0 to.1

-- behind the code of an output port
abbrev pub stage_crossed : Option (NodeId × ℕ) → Exit → Stage
stage_crossed link Off = stage_behind link
stage_crossed link (Failed failure site) = Ended (ends.Failed failure (record { 0 = site }))
stage_crossed link (Go port) = Ended ends.Stopped
stage_crossed link (Forked ports) = Ended ends.Stopped

-- behind the code of a port
abbrev pub stage_over : Network → NodeId → Side → ℕ → Exit → Stage
stage_over net node Inward port exit = stage_passed node exit
stage_over net node Outward port exit = stage_crossed (link_of net node port) exit

-- how many steps are taken from an input port on: one to each port and over its code, one to each copy, and one at each end
abbrev pub Steps : Type 0
Steps = NodeId → ℕ → Progress ℕ → ℕ

module _ (net : Network) (v : List ℕ) (unknowns : ℕ) where
  -- behind the code of an output port
  abbrev pub steps_crossed : Steps → Option (NodeId × ℕ) → runs.Exit → Progress ℕ → ℕ
  steps_crossed onward None off p = 1
  steps_crossed onward (Some to) off p = onward to.0 to.1 p
  steps_crossed onward link (go port) p = 1
  steps_crossed onward link (forked ports) p = 1
  steps_crossed onward link (failed failure site) p = 1

  -- over an output port
  abbrev pub steps_left : Steps → NodeId → ℕ → Progress ℕ → ℕ
  steps_left onward node port p =
      let r = run_port net v unknowns node Outward port p in
      suc (steps_crossed onward (link_of net node port) r.exit r.progress)

  -- of the copies for these ports
  abbrev pub steps_copied : Steps → NodeId → List ℕ → Progress ℕ → ℕ
  steps_copied onward node [] p = 1
  steps_copied onward node (port ∷ ports) p =
      suc (steps_left onward node port p + steps_copied onward node ports p)

  -- behind the code of an input port
  abbrev pub steps_passed : Steps → NodeId → runs.Exit → Progress ℕ → ℕ
  steps_passed onward node off p = 1
  steps_passed onward node (go port) p = steps_left onward node port p
  steps_passed onward node (forked ports) p = steps_copied onward node ports p
  steps_passed onward node (failed failure site) p = 1

  -- with this many hops left
  abbrev pub steps_entered : ℕ → Steps
  steps_entered zero node port p = 2
  steps_entered (suc hops) node port p =
      let r = run_port net v unknowns node Inward port p in
      suc (steps_passed (steps_entered hops) node r.exit r.progress)

module _ (net : Network) where
  -- with this many hops left
  abbrev pub walks_at : Given → Stage → ℕ → Progress ℕ → List Passage
  walks_at g (Arriving node port) hops p = enter net g.0 g.1 hops node port p
  walks_at g (Leaving node port) hops p = leave net g.0 g.1 (enter net g.0 g.1 hops) node port p
  walks_at g (Copying node number ports) hops p = copies net g.0 g.1 (enter net g.0 g.1 hops) node number ports.now p
  walks_at g (Ended end') hops p = ended end' p

  abbrev pub walks_by : Stage → ℕ → List Place → Packet → List Trail
  walks_by stage hops places packet =
      map (led packet.decisions.items places) (walks_at (given_of packet) stage hops (progress_of packet))

  abbrev pub walks_of : Pending → List Trail
  walks_of p = walks_by p.stage p.hops p.places.items p.packet

  abbrev pub walks_next : Next → List Trail
  walks_next (next.Ended walk) = trail_of walk ∷ []
  walks_next (next.Moved p) = walks_of p
  walks_next (next.Copied first others) = walks_of first ++ walks_of others
  walks_next next.Gone = []

  -- one after another
  abbrev pub walks_of_all : List Pending → List Trail
  walks_of_all [] = []
  walks_of_all (p ∷ ps) = walks_of p ++ walks_of_all ps

  abbrev pub steps_at : Given → Stage → ℕ → Progress ℕ → ℕ
  steps_at g (Arriving node port) hops p = steps_entered net g.0 g.1 hops node port p
  steps_at g (Leaving node port) hops p = steps_left net g.0 g.1 (steps_entered net g.0 g.1 hops) node port p
  steps_at g (Copying node number ports) hops p = steps_copied net g.0 g.1 (steps_entered net g.0 g.1 hops) node ports.now p
  steps_at g (Ended end') hops p = 1

  abbrev pub steps_by : Stage → ℕ → Packet → ℕ
  steps_by stage hops packet = steps_at (given_of packet) stage hops (progress_of packet)

  abbrev pub steps_of : Pending → ℕ
  steps_of p = steps_by p.stage p.hops p.packet

  abbrev pub steps_next : Next → ℕ
  steps_next (next.Ended walk) = 0
  steps_next (next.Moved p) = steps_of p
  steps_next (next.Copied first others) = steps_of first + steps_of others
  steps_next next.Gone = 0

  abbrev pub steps_of_all : List Pending → ℕ
  steps_of_all [] = 0
  steps_of_all (p ∷ ps) = steps_of p + steps_of_all ps

abbrev pub walk_found : Option Walk → List Trail
walk_found None = []
walk_found (Some walk) = trail_of walk ∷ []

-- the work that is left has walks of the whole alone, and all with the decisions
pub record Sought (net : Network) (ds : List Decision) (work : List Pending) (all : List Trail) : Type 0 where
  pub within : (t : Trail) → Has (walks_of_all net work) t → Has all t
  pub kept : (t : Trail) → Has all t → t.decisions ≡ ds → Has (walks_of_all net work) t
