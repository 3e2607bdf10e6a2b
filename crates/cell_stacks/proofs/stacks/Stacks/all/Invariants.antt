use Rattle.std.proofs.Common.{◌≡◌, ◌++◌, map}
use Rattle.cell_stacks.specs.Cells.{lent_stack, bottom_up}
use Rattle.cell_stacks.proofs.stacks.Stacks.all.Given as goal

abbrev pub invariant-loop-key : goal.invariant-loop-key
invariant-loop-key g l = map lent_stack l.listed.items ++ map bottom_up l.key-iterator ≡ map bottom_up l.self
