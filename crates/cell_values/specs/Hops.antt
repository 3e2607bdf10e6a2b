-- The hops that are left behind a port, and the walks of one packet from it.
use Rattle.std.specs.Prelude.{◌≡◌, ℕ, suc, List, map, Option, None, Some}
use Rattle.sn_width.specs.declared.ids.NodeId.{NodeId}
use Rattle.sefl_syntax.specs.declared.net.Side.{Side}
use Rattle.sefl_syntax.specs.declared.net.Side.TheVariants.{Inward, Outward}
use Rattle.sefl_meaning.specs.declared.walk.End.TheVariants.{Cut}
use Rattle.sefl_meaning.specs.Network.{Network, link_of}
use Rattle.sefl_meaning.specs.Runs.{Exit, Progress}
use Rattle.sefl_meaning.specs.Walks.{Onward, Passage, crossed, decided, ended, enter, leave, passed, run_port}

-- of this many hops these are left behind the code of a port: one less at an input port, whose code does not run where there is none,
-- and all at an output port
abbrev pub AreLeft : Side → ℕ → Option ℕ → Type 0
AreLeft Inward hops (Some left) = hops ≡ suc left
AreLeft Inward hops None = hops ≡ 0
AreLeft Outward hops (Some left) = left ≡ hops
AreLeft Outward hops None = ⊥

module _ (net : Network) (v : List ℕ) (unknowns : ℕ) where
  -- the walks from a port, with this many hops left; at an output port those behind its link
  abbrev pub from_port : Side → ℕ → Onward
  from_port Inward hops = enter net v unknowns hops
  from_port Outward hops = leave net v unknowns (enter net v unknowns hops)

  -- behind the code of a port, with this many hops left
  abbrev pub behind_code : Side → NodeId → ℕ → ℕ → Exit → Progress ℕ → List Passage
  behind_code Inward node port hops = passed net v unknowns (enter net v unknowns hops) node
  behind_code Outward node port hops = crossed net v unknowns (enter net v unknowns hops) (link_of net node port)

  -- behind the arrival at a port: its code, and what is behind it with this many hops left; or the walk is cut
  abbrev pub behind_arrival : Side → NodeId → ℕ → Option ℕ → Progress ℕ → List Passage
  behind_arrival side node port None p = ended Cut p
  behind_arrival side node port (Some hops) p =
      let r = run_port net v unknowns node side port p in
      map (decided r.decisions) (behind_code side node port hops r.exit r.progress)
