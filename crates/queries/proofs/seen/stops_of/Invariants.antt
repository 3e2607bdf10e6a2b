use Rattle.path_questions.specs.Deciding.{entry_of, net_of}
use Rattle.queries.specs.Paths.{AreNoted}
use Rattle.queries.proofs.seen.stops_of.Given as goal

-- what is noted so far is so
abbrev pub invariant-loop-i : goal.invariant-loop-i
invariant-loop-i l = AreNoted (net_of l.subject) (entry_of l.subject) l.subject.hops l.run.decisions.now l.stops.items
