use Rattle.std.proofs.Common.{◌≡◌}
use Rattle.net_check.specs.Network.{network}
use Rattle.explore_command.proofs.report.put_rest.Given as goal

-- the net of the job
abbrev pub ghosts-put_records-N-OfNet : goal.ghosts-put_records-N-OfNet
ghosts-put_records-N-OfNet g a = record { net = network a.job.now.net }

-- what is written, and the state of the sink, which has the head
abbrev pub ghosts-put_records-M-Mark : goal.ghosts-put_records-M-Mark
ghosts-put_records-M-Mark g a = record { sides = a.sides; is_first = λ u. u ≡ a.out.now }

-- the counter of this call
abbrev pub ghosts-put_records-L-Ledger : goal.ghosts-put_records-L-Ledger
ghosts-put_records-L-Ledger g a = record { name = a.blank.name; parts = a.blank.parts }
