use Rattle.std.proofs.Common.{◌≡◌, ◌++◌, map, drop}
use Rattle.loops_command.specs.Seen.{opened}
use Rattle.loops_command.specs.Texts.{open_in}
use Rattle.loops_command.proofs.text.open_in.Given as goal

-- what was taken, and what is left, is the whole
abbrev pub invariant-loop-number : goal.invariant-loop-number
invariant-loop-number l = map opened l.others.items ++ open_in (drop l.number-index l.found) ≡ open_in l.found
