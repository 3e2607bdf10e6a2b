use Rattle.std.proofs.Common.{◌∙◌}
use Rattle.loop_check.proofs.Values.{values_listed}
use Rattle.loop_check.proofs.last.last_of.Goals as goal

pub returns-clause-last : goal.returns-clause-last
returns-clause-last c = record {
  base = c.in_ok-base.ensures;
  lists = c.in_ok-lists.ensures;
  values = c.in_ok-values.ensures ∙ values_listed c.args.state.now.carried c.in_ok-lists.lists c.in_ok-lists.ensures;
}
