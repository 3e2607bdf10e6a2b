use Rattle.net_check.proofs.Sites.{instr_sites, length-code_items}
use Rattle.net_check.proofs.table_laws.instrs_have_sites.Goals as goal

pub returns-clause-sites : goal.returns-clause-sites
returns-clause-sites c = instr_sites

pub returns-clause-count : goal.returns-clause-count
returns-clause-count c = length-code_items
