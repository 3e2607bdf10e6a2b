use Rattle.command_runs.proofs.OnceLemmas.{all_exclude, all_once, first_once}
use Rattle.command_runs.proofs.laws.worlds_decide.Goals as goal

pub returns-clause-first : goal.returns-clause-first
returns-clause-first c = first_once c.files_have_one_node.ensures.one c.files_have_one_node.ensures.good

pub returns-clause-excludes : goal.returns-clause-excludes
returns-clause-excludes c = all_exclude c.files_have_one_node.ensures.one c.files_have_one_node.ensures.good

pub returns-clause-all : goal.returns-clause-all
returns-clause-all c = all_once c.files_have_one_node.ensures.one c.files_have_one_node.ensures.good
