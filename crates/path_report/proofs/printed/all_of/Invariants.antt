use Rattle.std.specs.Prelude.{length}
use Rattle.path_report.proofs.PrintedLemmas.{AreRead}
use Rattle.path_report.proofs.printed.all_of.Given as goal

-- the items were read
abbrev pub invariant-loop-items : goal.invariant-loop-items
invariant-loop-items g l = AreRead g.N.OfNet.net l.fn.records.left l.items.items l.records

abbrev pub decreases-loop-items : goal.decreases-loop-items
decreases-loop-items g l = length l.records.left
