use Rattle.std.proofs.Common.{◌≡◌}
use Rattle.sefl_meaning.specs.Carried.{bound_key}
use Rattle.cell_values.proofs.scene.Scene.bound.Given as goal

-- the first of what is left is the first of the whole
abbrev pub invariant-loop-iteration : goal.invariant-loop-iteration
invariant-loop-iteration l = bound_key l.iteration-iterator l.var ≡ bound_key l.self.iterations.now l.var
