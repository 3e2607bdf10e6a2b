use Rattle.std.proofs.Common.{◌≡◌, ◌∙◌, sym, ap, ap₂, cond, rules, Some}
use Rattle.std.specs.Prelude.{bytes_eq}
use Rattle.std.specs.Map.{lookup}
use Rattle.std.proofs.lemmas.Map.Text.{is_eq-slice_cmp}
use Rattle.click_model.specs.Nets.{with_port}
use Rattle.click_model.proofs.LeadLemmas.{noted}
use Rattle.click_model.proofs.OrderLemmas.{at_name}
use Rattle.click_model.proofs.net.note.Goals as goal

pub returns : goal.returns
returns c =
    let from = c.args.link.now.from in
    let port = c.args.link.now.from_port in
    let more = c.with_port-more.result in
    let old = c.args.leads.now.entries in
    let new = c.insert.new.self.entries in
    let same : c.in_ok-name.name ≡ c.args.link.now.from = search rules in
    noted from port more old new
    (λ name. sym (at_name name new) ∙ c.in_ok-insert.ensures.updates.0 name
    ∙ ap₂ (λ here rest. cond here (Some more) rest) (is_eq-slice_cmp c.in_ok-name.name name) (at_name name old)
    ∙ ap (λ k. cond (bytes_eq k name) (Some more) (lookup (bytes_eq name) old)) same)
    (c.with_port-more.ensures ∙ ap (λ l. with_port l port) c.leads_of.ensures)
