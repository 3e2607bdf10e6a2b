-- The walks of one packet through a net, in numbers.
use Rattle.std.specs.Prelude.{ℕ, zero, suc, List, [], ◌∷◌, ◌++◌, map, Option, None, Some}
use Rattle.sn_width.specs.declared.ids.NodeId.{NodeId}
use Rattle.sefl_syntax.specs.declared.net.Side.{Side}
use Rattle.sefl_syntax.specs.declared.net.Side.TheVariants.{Inward, Outward}
use Rattle.sefl_meaning.specs.declared.walk.Decision.{Decision}
use Rattle.sefl_meaning.specs.declared.walk.Decision.TheVariants.{Copy}
use Rattle.sefl_meaning.specs.declared.walk.Place.{Place}
use Rattle.sefl_meaning.specs.declared.walk.End.{End}
use Rattle.sefl_meaning.specs.declared.walk.End.TheVariants.{Stopped, Delivered, Failed, Cut}
use Rattle.sefl_meaning.specs.Network.{Network, code_of, link_of}
use Rattle.sefl_meaning.specs.Carried.{Carried, scene_at}
use Rattle.sefl_meaning.specs.Runs.{Progress, Exit, off, go, forked, failed, Ran, run_code}

-- what a walk shows: its decisions, the ports that it arrives at, its end, and what the packet carries then
pub record Trail : Type 0 where
  pub decisions : List Decision
  pub places : List Place
  pub end' : End
  pub state : Carried ℕ

-- a walk, with what is carried and was counted at each port that it arrives at, before the port's code, and at its end
pub record Passage : Type 0 where
  pub decisions : List Decision
  pub arrivals : List (Place × Progress ℕ)
  pub end' : End
  pub progress : Progress ℕ

abbrev pub shown : Passage → Trail
shown t =
    record { decisions = t.decisions; places = map (λ a. a.0) t.arrivals; end' = t.end'; state = t.progress.state }

abbrev pub place_at : NodeId → Side → ℕ → Place
place_at node side port = record { node = node; side = side; port = port }

-- the walk that arrives at this place first, with this progress
abbrev pub by_way_of : Place → Progress ℕ → Passage → Passage
by_way_of place p t = record t { arrivals = (place, p) ∷ t.arrivals }

-- the walk with these decisions before its own
abbrev pub decided : List Decision → Passage → Passage
decided decisions t = record t { decisions = decisions ++ t.decisions }

abbrev pub ended : End → Progress ℕ → List Passage
ended end' p = record { decisions = []; arrivals = []; end' = end'; progress = p } ∷ []

-- the walks from an input port, with what is carried and was counted so far
abbrev pub Onward : Type 0
Onward = NodeId → ℕ → Progress ℕ → List Passage

module _ (net : Network) (v : List ℕ) (unknowns : ℕ) where
  -- the run of a port's code
  abbrev pub run_port : NodeId → Side → ℕ → Progress ℕ → Ran
  run_port node side port p =
      run_code v unknowns (scene_at net node) (suc (code_of net node side port).0)
      (code_of net node side port).1 p

  -- after the code of an output port: over its link, or delivered. Forward and Fork do not stand there
  abbrev pub crossed : Onward → Option (NodeId × ℕ) → Exit → Progress ℕ → List Passage
  crossed onward None off p = ended Delivered p
  crossed onward (Some to) off p = onward to.0 to.1 p
  crossed onward link (failed failure site) p = ended (Failed failure (record { 0 = site })) p
  crossed onward link (go port) p = ended Stopped p
  crossed onward link (forked ports) p = ended Stopped p

  -- a copy that leaves the node by an output port
  abbrev pub leave : Onward → NodeId → ℕ → Progress ℕ → List Passage
  leave onward node port p =
      let r = run_port node Outward port p in
      map (by_way_of (place_at node Outward port) p)
      (map (decided r.decisions) (crossed onward (link_of net node port) r.exit r.progress))

  -- a copy for each of the ports, numbered from a number on
  abbrev pub copies : Onward → NodeId → ℕ → List ℕ → Progress ℕ → List Passage
  copies onward node number [] p = []
  copies onward node number (port ∷ ports) p =
      map (decided (Copy number ∷ [])) (leave onward node port p) ++ copies onward node (suc number) ports p

  -- after the code of an input port
  abbrev pub passed : Onward → NodeId → Exit → Progress ℕ → List Passage
  passed onward node off p = ended Stopped p
  passed onward node (go port) p = leave onward node port p
  passed onward node (forked ports) p = copies onward node 0 ports p
  passed onward node (failed failure site) p = ended (Failed failure (record { 0 = site })) p

  -- all walks from an input port, with this many hops left
  abbrev pub enter : ℕ → Onward
  enter zero node port p = map (by_way_of (place_at node Inward port) p) (ended Cut p)
  enter (suc hops) node port p =
      let r = run_port node Inward port p in
      map (by_way_of (place_at node Inward port) p)
      (map (decided r.decisions) (passed (enter hops) node r.exit r.progress))
