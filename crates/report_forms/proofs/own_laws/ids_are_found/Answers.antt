use Rattle.report_forms.proofs.Found.{meta_found, node_found, tag_found}
use Rattle.report_forms.proofs.own_laws.ids_are_found.Goals as goal

pub returns-clause-nodes : goal.returns-clause-nodes
returns-clause-nodes c = λ net accepted spelled node below.
    node_found net (c.accepted_parts_keep_the_rules.ensures.net net accepted) spelled node below

pub returns-clause-metas : goal.returns-clause-metas
returns-clause-metas c = λ net accepted spelled name below. meta_found c.sets_ascend.ensures.ascending net accepted spelled name below

pub returns-clause-tags : goal.returns-clause-tags
returns-clause-tags c = λ net accepted spelled tag below. tag_found c.sets_ascend.ensures.ascending net accepted spelled tag below
