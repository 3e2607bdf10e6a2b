use Rattle.std.proofs.Common.{◌∙◌, ap, map}
use Rattle.std.proofs.lemmas.Result.{err_from_is_err_and}
use Rattle.click_text.specs.Items.{seen_item}
use Rattle.click_model.specs.Declarations.{declared_from, nothing_declared, seen_declared}
use Rattle.click_model.specs.Connections.{seen_connected, connected_from, nothing_connected}
use Rattle.click_model.proofs.ConfigLemmas.{refused, told}
use Rattle.click_model.proofs.config.read_click.Goals as goal

pub returns-in_err-items : goal.returns-in_err-items
returns-in_err-items c =
    let p = err_from_is_err_and c.from_residual.result c.from_residual.ensures.1 in
    rw (p.1, p.2) (refused c.args.bytes.now c.in_err-items.field-0.0 c.in_err-items.ensures.refused)

pub returns : goal.returns
returns c =
    let items = map seen_item c.in_ok-items.items.items in
    told c.args.bytes.now items (seen_declared c.in_ok-declared.declared) (seen_connected c.in_ok-connected.connected) c.finished.result c.in_ok-items.ensures.items
    (c.in_ok-declared.ensures ∙ ap (λ items. declared_from nothing_declared (map seen_item items)) c.deref.ensures.value)
    (c.in_ok-connected.ensures ∙ ap (λ items. connected_from c.in_ok-declared.declared.names.entries (nothing_connected c.in_ok-declared.declared.flaw) (map seen_item items)) c.deref-2.ensures.value)
    c.finished.ensures
