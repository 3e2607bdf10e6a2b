use Rattle.net_check.specs.Network.{entry, network}
use Rattle.ask_command.proofs.answering.text_of_answers.Given as goal

-- what this call asks about
abbrev pub ghosts-answer_with-M-Mark : goal.ghosts-answer_with-M-Mark
ghosts-answer_with-M-Mark a = record {
  net = network a.subject.now.net.now;
  entry = entry a.subject.now.injection.now;
  hops = a.subject.now.hops;
  questions = a.questions.items;
}

-- the counter of this call
abbrev pub ghosts-answer_with-L-Ledger : goal.ghosts-answer_with-L-Ledger
ghosts-answer_with-L-Ledger a = record { name = a.blank.name; parts = a.blank.parts }
