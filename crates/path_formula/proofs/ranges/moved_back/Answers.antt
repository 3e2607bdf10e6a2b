use Rattle.path_formula.proofs.Solving.{moved_back}
use Rattle.path_formula.proofs.ranges.moved_back.Goals as goal

pub returns : goal.returns
returns c =
    moved_back c.args.set.now c.args.by c.width-width.result c.sub.result c.shift.result c.width-width.ensures.value c.sub.ensures c.requires c.shift.ensures.set
