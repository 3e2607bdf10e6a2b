use Rattle.std.proofs.Common.{length, map, string_bytes}
use Rattle.caller_edge.proofs.Gathering.{TextsSoFar}
use Rattle.caller_edge.proofs.lists.read_texts.Given as goal

abbrev pub invariant-loop-text : goal.invariant-loop-text
invariant-loop-text l = TextsSoFar l.bytes l.left (map string_bytes l.texts.items)

abbrev pub decreases-loop-text : goal.decreases-loop-text
decreases-loop-text l = length l.left
