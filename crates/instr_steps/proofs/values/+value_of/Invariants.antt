use Rattle.std.proofs.Common.{◌≡◌, drop}
use Rattle.sefl_syntax.specs.Views.{summand_trees}
use Rattle.sefl_meaning.specs.Terms.{sum_in}
use Rattle.sefl_meaning.specs.View.{carried_of}
use Rattle.instr_steps.specs.Scenes.{scene_of}
use Rattle.instr_steps.proofs.values.+value_of.Given as goal

-- the sum so far, with what is left, is the whole
abbrev pub invariant-sum_of-loop-sign : goal.invariant-sum_of-loop-sign
invariant-sum_of-loop-sign g l =
    sum_in (g.A.Arithmetic.values l.o) (scene_of l.at) l.width l.sum (summand_trees (drop l.sign-index l.rest)) (carried_of l.state)
    ≡ sum_in (g.A.Arithmetic.values l.o) (scene_of l.at) l.width l.fn.first (summand_trees l.rest) (carried_of l.state)
