use Rattle.std.proofs.Common.{◌≡◌, ◌++◌, drop, map}
use Rattle.sefl_syntax.specs.Views.{cond_trees}
use Rattle.cell_stacks.specs.Outcome.{on_ok}
use Rattle.sefl_meaning.specs.Terms.{truths_in}
use Rattle.sefl_meaning.specs.View.{carried_of}
use Rattle.instr_steps.specs.Scenes.{scene_of}
use Rattle.instr_steps.proofs.conditions.+truth_of.Given as goal

-- the tests so far, with those of what is left, are all
abbrev pub invariant-truths_of-loop-member : goal.invariant-truths_of-loop-member
invariant-truths_of-loop-member g l =
    on_ok (λ tests. map g.A.Arithmetic.truth l.tests.items ++ tests)
    (truths_in (g.A.Arithmetic.values l.o) (scene_of l.at) (cond_trees (drop l.member-index l.members)) (carried_of l.state))
    ≡ truths_in (g.A.Arithmetic.values l.o) (scene_of l.at) (cond_trees l.members) (carried_of l.state)
