use Rattle.table_lines.proofs.TableLemmas.{files_have_tables}
use Rattle.table_lines.proofs.laws.files_have_tables.Goals as goal

pub returns : goal.returns
returns c = λ kind bytes table is. files_have_tables kind bytes table is
