use Rattle.net_check.specs.Network.{entry, network}
use Rattle.sym_state.specs.Beginning.{start_in}
use Rattle.symbolic_engine.proofs.guiding.follow.Given as goal

-- what this call explores
abbrev pub ghosts-follow_from-B-Origin : goal.ghosts-follow_from-B-Origin
ghosts-follow_from-B-Origin a = record { net = network a.net.now; start = start_in (network a.net.now) (entry a.injection.now) a.hops a.first }

-- the counter of this call
abbrev pub ghosts-follow_from-L-Ledger : goal.ghosts-follow_from-L-Ledger
ghosts-follow_from-L-Ledger a = record { name = a.blank.name; parts = a.blank.parts }
