-- Instructions by what they do.
use Rattle.sefl_syntax.specs.Trees.{InstrTree, allocate, deallocate, assign, assign_any, create_tag, set_tag, destroy_tag, constrain, fail, branch, each, forward, fork, block, no_op}
use Rattle.sefl_syntax.specs.Views.{code_tree, cond_tree, expr_tree}
use Rattle.instr_steps.specs.declared.steps.Step.{Step}
use Rattle.instr_steps.specs.declared.steps.Step.TheVariants as steps
use Rattle.code_frames.specs.declared.act.Act.{Act}
use Rattle.code_frames.specs.declared.act.Act.TheVariants as acts
use Rattle.code_frames.specs.declared.act.Flow.{Flow}
use Rattle.code_frames.specs.declared.act.Flow.TheVariants as flows

abbrev pub step_tree : Step → InstrTree
step_tree (steps.Allocate target) = allocate target.now
step_tree (steps.Deallocate target) = deallocate target.now
step_tree (steps.Assign target value) = assign target.now (expr_tree value.now)
step_tree (steps.CreateTag name addr) = create_tag name.now addr.now
step_tree (steps.SetTag name addr) = set_tag name.now addr.now
step_tree (steps.DestroyTag name) = destroy_tag name.now

abbrev pub flow_tree : Flow → InstrTree
flow_tree (flows.Constrain test) = constrain (cond_tree test.now)
flow_tree (flows.Fail text) = fail text.now
flow_tree (flows.If test first other) = branch (cond_tree test.now) (code_tree first.now) (code_tree other.now)
flow_tree (flows.For var pattern body) = each var.now pattern.now (code_tree body.now)
flow_tree (flows.Forward port) = forward port
flow_tree (flows.Fork ports) = fork ports.now
flow_tree (flows.Block body) = block (code_tree body.now)
flow_tree flows.NoOp = no_op

abbrev pub act_tree : Act → InstrTree
act_tree (acts.Step step) = step_tree step
act_tree (acts.Choose target) = assign_any target.now
act_tree (acts.Flow flow) = flow_tree flow
