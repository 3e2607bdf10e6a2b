use Rattle.std.proofs.lemmas.List.Elements.{recursion_from_All}
use Rattle.sefl_syntax.specs.declared.net.Side.TheVariants.{Inward}
use Rattle.net_check.specs.Network.{network}
use Rattle.acl_rules.specs.Covers.{IsRule}
use Rattle.acl_model.specs.Nodes.{acl_code}
use Rattle.sefl_meaning.specs.Carried.{scene_at}
use Rattle.sefl_meaning.specs.View.{carried_of}
use Rattle.model_laws.specs.Elements.{progress}
use Rattle.model_laws.specs.Filters.{filter_row}
use Rattle.model_laws.proofs.FilterRuns.{acl_goes}
use Rattle.model_laws.proofs.Going.{port_goes}
use Rattle.model_laws.proofs.filters.acl_run.Goals as goal

pub returns : goal.returns
returns c = λ unknowns begun choices.
    let net = network c.args.net.now in
    let s = carried_of c.args.state.now in
    port_goes net c.args.values.now unknowns c.args.node (acl_code c.args.style c.args.acl.now) (progress s choices begun) (filter_row c.args.acl.now c.args.packet s)
    (c.requires.codes Inward 0)
    (λ site next. acl_goes c.args.values.now unknowns (scene_at net c.args.node) c.args.packet c.args.style c.args.acl.now c.requires.style (recursion_from_All IsRule c.args.acl.now c.rules-rules.ensures.each) site (progress s choices begun) next c.requires.reads)
