use Rattle.std.proofs.Common.{refl}
use Rattle.path_formula.specs.View.{view}
use Rattle.symbolic_engine.specs.declared.stage.Wait.TheVariants.{Asked}
use Rattle.symbolic_engine.specs.Stages.{wait_tree}
use Rattle.symbolic_engine.proofs.Asking.{asking_node}
use Rattle.symbolic_engine.proofs.RunLemmas.{stops_here}
use Rattle.symbolic_engine.proofs.moving.asked.Goals as goal

pub invariant_of-node : goal.invariant_of-node
invariant_of-node g c = record { typed = (c.the_tests_of_types.ensures.formula c.args.run.condition.widths (view c.args.test)).1 c.requires }

pub returns : goal.returns
returns g c = λ own begun. (
  stops_here g.B.Origin.start c.args.run (wait_tree own (Asked c.args.running c.args.question c.args.test c.args.frames) c.args.run) begun c.is_own.ensures refl,
  asking_node c.args.question c.offer_of-offer.result (wait_tree own (Asked c.args.running c.args.question c.args.test c.args.frames) c.args.run begun) _ _ _ _ c.offer_of-offer.ensures refl,
)
