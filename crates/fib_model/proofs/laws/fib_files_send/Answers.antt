use Rattle.fib_model.proofs.FileLemmas.{files_have, files_send}
use Rattle.fib_model.proofs.laws.fib_files_send.Goals as goal

pub returns-clause-tables : goal.returns-clause-tables
returns-clause-tables c = files_have c.files_have_tables.ensures

pub returns-clause-sends : goal.returns-clause-sends
returns-clause-sends c = files_send c.files_have_tables.ensures c.nodes_send_as_their_tables.ensures
