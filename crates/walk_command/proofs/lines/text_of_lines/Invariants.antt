use Rattle.std.proofs.Common.{List, ℕ, ◌++◌, length, string_bytes}
use Rattle.net_check.specs.Network.{entry, network}
use Rattle.walk_command.specs.Lines.{AreLinesOf, lines}
use Rattle.walk_command.proofs.lines.text_of_lines.Given as goal

-- with the lines of what is left, those that were written are the lines of all
abbrev pub invariant-loop-rest : goal.invariant-loop-rest
invariant-loop-rest l = (whole : List ℕ) → AreLinesOf l.hops l.limit (network l.job.net) (entry l.job.injection) (lines l.rest) whole
    → AreLinesOf l.hops l.limit (network l.job.net) (entry l.job.injection) (lines l.fn.bytes) (string_bytes l.out ++ whole)

abbrev pub decreases-loop-rest : goal.decreases-loop-rest
decreases-loop-rest l = length l.rest
