use Rattle.table_nodes.proofs.Growth.{sets_grow}
use Rattle.table_nodes.proofs.laws.sets_grow.Goals as goal

pub returns : goal.returns
returns c = sets_grow
