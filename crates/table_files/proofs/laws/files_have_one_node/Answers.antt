use Rattle.table_files.proofs.Faults.{no_bad_line}
use Rattle.table_files.proofs.Nodes.{files_once}
use Rattle.table_files.proofs.laws.files_have_one_node.Goals as goal

pub returns-clause-one : goal.returns-clause-one
returns-clause-one c = files_once c.one_list_for_each_set.ensures c.files_have_tables.ensures

pub returns-clause-good : goal.returns-clause-good
returns-clause-good c = no_bad_line
