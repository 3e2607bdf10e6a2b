use Rattle.net_check.specs.Network.{entry, network}
use Rattle.sym_state.specs.Beginning.{start_in}
use Rattle.path_replay.proofs.replaying.confirm_whole_job.Given as goal

-- what this call explores
abbrev pub ghosts-confirm_whole_from : goal.ghosts-confirm_whole_from
ghosts-confirm_whole_from a = record { net = network a.net.now; start = start_in (network a.net.now) (entry a.injection.now) a.hops a.first }
