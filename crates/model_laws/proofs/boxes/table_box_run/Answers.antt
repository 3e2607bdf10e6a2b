use Rattle.std.proofs.Common.{◌∙◌, sym, ap, subst}
use Rattle.std.specs.Prelude.{slice_get}
use Rattle.sefl_syntax.specs.Trees.{BodyTree}
use Rattle.net_check.specs.Network.{network}
use Rattle.table_nodes.specs.Exits.{exits}
use Rattle.command_runs.specs.Tables.{IsCodeOf}
use Rattle.model_laws.proofs.Files.{is_table, sends}
use Rattle.model_laws.proofs.Filled.{code_is, filled_at, net_nodes}
use Rattle.model_laws.proofs.boxes.table_box_run.Goals as goal

pub returns : goal.returns
returns c = λ files j full name d filled net at body.
    let kind = c.args.kind in
    let style = c.args.style in
    let n = network c.args.net.now in
    let found = filled_at files j.net.nodes full.net.nodes filled.nodes c.args.node.0 d at in
    let (bytes, has, made) = subst (λ (b : BodyTree). IsCodeOf files b found.0) body found.1 in
    let own = ap (λ ds. slice_get ds c.args.node.0) (sym (net_nodes full n net)) ∙ found.2 in (
      bytes,
      has,
      exits found.0 c.args.address,
      sends c.mac_files_send.ensures.sends c.fib_files_send.ensures.sends kind bytes style found.0 made c.args.address c.requires.fits,
      c.table_run.ensures found.0 (is_table c.mac_files_send.ensures.tables c.fib_files_send.ensures.tables kind bytes style found.0 made)
          (code_is n c.args.node d found.0 own),
    )
