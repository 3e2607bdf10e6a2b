use Rattle.net_check.proofs.Linked.{position_is_named, no_position_no_name}
use Rattle.net_check.proofs.table_laws.positions_have_names.Goals as goal

pub returns-clause-some : goal.returns-clause-some
returns-clause-some c = position_is_named

pub returns-clause-none : goal.returns-clause-none
returns-clause-none c = no_position_no_name
