use Rattle.table_nodes.proofs.Tables.{table_exits}
use Rattle.table_nodes.proofs.laws.nodes_send_as_their_tables.Goals as goal

pub returns : goal.returns
returns c = λ kind ports f rows style node is sends within a fits. table_exits kind ports f rows style node is sends within a fits
