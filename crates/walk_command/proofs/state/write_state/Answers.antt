use Rattle.std.proofs.Common.{map, ap, subst, ◌∙◌}
use Rattle.cell_stacks.specs.Cells.{lent_stack}
use Rattle.metadata_scopes.specs.Scopes.{lent_meta}
use Rattle.net_check.specs.Network.{network}
use Rattle.sefl_meaning.specs.View.{carried_of}
use Rattle.sefl_meaning.specs.Fields.{fields_of}
use Rattle.run_text.specs.Tokens.{Adds}
use Rattle.run_text.specs.Forms.{number_parts}
use Rattle.walk_command.proofs.Lending.{lent_fields}
use Rattle.walk_command.proofs.state.write_state.Goals as goal

pub returns : goal.returns
returns c =
    let same = lent_fields number_parts (network c.args.net.now) c.deref.result.now c.deref-2.result.now c.deref-3.result.now (fields_of (carried_of c.args.state.now))
    (c.deref.ensures.value ∙ c.in_ok-tags.ensures.all)
    (ap (map lent_stack) c.deref-2.ensures.value ∙ c.in_ok-heads.ensures.all)
    (ap (map lent_meta) c.deref-3.ensures.value ∙ c.in_ok-metas.ensures.all) in
    subst (λ d. Adds d c.args.out.now c.write_fields.new.out) same c.in_ok-write_fields.ensures
