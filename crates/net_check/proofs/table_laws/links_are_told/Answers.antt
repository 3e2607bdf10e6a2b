use Rattle.net_check.proofs.Linked.{told_is_linked, untold_is_loose}
use Rattle.net_check.proofs.table_laws.links_are_told.Goals as goal

pub returns-clause-some : goal.returns-clause-some
returns-clause-some c = told_is_linked

pub returns-clause-none : goal.returns-clause-none
returns-clause-none c = untold_is_loose
