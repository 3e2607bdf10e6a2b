use Rattle.std.proofs.Common.{◌∙◌}
use Rattle.difference_solver.proofs.Rising.{least_on}
use Rattle.difference_solver.proofs.lifting.raise.Goals as goal

pub returns-in-Met-clause-least : goal.returns-in-Met-clause-least
returns-in-Met-clause-least c =
    least_on c.args.count c.args.bounds.now c.loop.values.items c.pass_over.new.values.items c.loop.invariant.least c.pass_over.ensures.raises

pub loop-preserved : goal.loop-preserved
loop-preserved c =
    let raises = c.pass_over.ensures.raises in
    record {
      one_each = raises.one_each ∙ c.loop.invariant.one_each;
      first = raises.first ∙ c.loop.invariant.first;
      least = least_on c.args.count c.args.bounds.now c.loop.values.items c.pass_over.new.values.items c.loop.invariant.least raises;
    }
