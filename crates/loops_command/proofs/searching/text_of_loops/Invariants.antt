use Rattle.net_check.specs.Network.{entry, network}
use Rattle.loops_command.proofs.searching.text_of_loops.Given as goal

-- what this call explores
abbrev pub ghosts-search_with-M-Mark : goal.ghosts-search_with-M-Mark
ghosts-search_with-M-Mark a = record {
  net = network a.subject.now.net.now;
  entry = entry a.subject.now.injection.now;
  hops = a.subject.now.hops;
}

-- the counter of this call
abbrev pub ghosts-search_with-L-Ledger : goal.ghosts-search_with-L-Ledger
ghosts-search_with-L-Ledger a = record { name = a.blank.name; parts = a.blank.parts }
