use Rattle.command_runs.proofs.OnceLemmas.{full_once, nodes_exclude, unfilled_once}
use Rattle.command_runs.proofs.laws.jobs_are_filled_once.Goals as goal

pub returns-clause-full : goal.returns-clause-full
returns-clause-full c = full_once c.files_have_one_node.ensures.one c.files_have_one_node.ensures.good

pub returns-clause-excludes : goal.returns-clause-excludes
returns-clause-excludes c w j full f settled filled fails =
    nodes_exclude c.files_have_one_node.ensures.one c.files_have_one_node.ensures.good w j.net.nodes full.net.nodes f settled filled.nodes fails

pub returns-clause-first : goal.returns-clause-first
returns-clause-first c w j = unfilled_once c.files_have_one_node.ensures.one c.files_have_one_node.ensures.good w j.net.nodes
