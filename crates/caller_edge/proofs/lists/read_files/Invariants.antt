use Rattle.std.proofs.Common.{length, map}
use Rattle.sn_edge.specs.MemFolder.{entry_of}
use Rattle.caller_edge.proofs.Gathering.{FilesSoFar}
use Rattle.caller_edge.proofs.lists.read_files.Given as goal

abbrev pub invariant-loop-name : goal.invariant-loop-name
invariant-loop-name l = FilesSoFar l.bytes l.left (map entry_of l.files.items)

abbrev pub decreases-loop-name : goal.decreases-loop-name
decreases-loop-name l = length l.left
