use Rattle.symbolic_engine.proofs.exploring.explore_into.Given as goal

-- what the receiver puts the records into
abbrev pub ghosts-record_into : goal.ghosts-record_into
ghosts-record_into g a = record { target = (g.K.Receiver.seen a.out.now).target }
