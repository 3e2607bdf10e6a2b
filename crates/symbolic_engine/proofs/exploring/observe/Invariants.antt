use Rattle.net_check.specs.Network.{entry, network}
use Rattle.sym_state.specs.Beginning.{start_in}
use Rattle.symbolic_engine.proofs.exploring.observe.Given as goal

-- what this call explores
abbrev pub ghosts-observe_from : goal.ghosts-observe_from
ghosts-observe_from g a = record { net = network a.net.now; start = start_in (network a.net.now) (entry a.injection.now) a.hops a.first }
