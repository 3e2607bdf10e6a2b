use Rattle.std.proofs.Common.{◌≡◌, ◌++◌, drop}
use Rattle.loops_command.specs.Texts.{loops_in}
use Rattle.loops_command.proofs.text.loops_in.Given as goal

-- what was taken, and what is left, is the whole
abbrev pub invariant-loop-number : goal.invariant-loop-number
invariant-loop-number l = l.loops.items ++ loops_in (drop l.number-index l.found) ≡ loops_in l.found
