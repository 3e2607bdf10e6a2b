-- By which ports a packet leaves a node, by the meaning of its code.
use Rattle.std.specs.Prelude.{ℕ, Bool, List, [], ◌∷◌, filter, Option, None, Some, is_none, unwrap_or}
use Rattle.sn_width.specs.declared.ids.NodeId.{NodeId}
use Rattle.sefl_syntax.specs.declared.net.Side.TheVariants.{Inward, Outward}
use Rattle.sefl_meaning.specs.Network.{Network}
use Rattle.sefl_meaning.specs.Runs.{Exit, off, go, forked, failed, Progress, Ran}
use Rattle.sefl_meaning.specs.Walks.{run_port}

-- the ports to which copies go; None where code runs off its end
abbrev pub ports_of : Exit → Option (List ℕ)
ports_of off = None
ports_of (go port) = Some (port ∷ [])
ports_of (forked ports) = Some ports
ports_of (failed failure site) = Some []

module _ (net : Network) (v : List ℕ) (unknowns : ℕ) (node : NodeId) where
  -- the code of the output port that a copy runs after this run lets it go
  abbrev pub goes_out : Ran → ℕ → Bool
  goes_out r port = is_none (ports_of (run_port net v unknowns node Outward port r.progress).exit)

  abbrev pub left_by : Ran → List ℕ
  left_by r = filter (goes_out r) (unwrap_or (ports_of r.exit) [])

  -- the ports by which copies of a packet that enters by input 0 leave the node
  abbrev pub leaves_by : Progress ℕ → List ℕ
  leaves_by p = left_by (run_port net v unknowns node Inward 0 p)
