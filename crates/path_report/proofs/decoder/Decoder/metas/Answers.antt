use Rattle.std.proofs.Common.{◌≡◌, ◌≤◌, ◌+◌, map, take, length, rules, sym, ap, ◌∙◌, subst}
use Rattle.serde_json.specs.View.{view}
use Rattle.net_check.specs.Network.{network}
use Rattle.report_shape.specs.declared.part.Part.TheVariants as part
use Rattle.run_text.specs.Forms.{metas_data, meta_data, term_data}
use Rattle.run_text.specs.Held.{held_meta}
use Rattle.std.specs.List.{AllByRecursion}
use Rattle.report_forms.specs.Fits.{MetaFits}
use Rattle.path_report.proofs.Rows.{meta_row}
use Rattle.path_report.proofs.Lists.{list_shown, item_form, left_more, read_more, fits_more}
use Rattle.path_report.proofs.decoder.Decoder.metas.Goals as goal

pub meta-requires : goal.meta-requires
meta-requires c =
    let net = network c.args.self.now.net.now in
    meta_row net (view c.item-item.result) (item_form net part.Meta c.deref-item-items.result.now c.loop-item.item-index c.item-item.result c.loop-item-test.true c.item-item.is c.loop-item.invariant.left)

pub returns-clause-shown : goal.returns-clause-shown
unfolding metas_data
returns-clause-shown c =
    let same : c.deref-item-items.result.now ≡ c.in-Array.items.items = search rules in
    let past : length c.deref-item-items.result.now ≤ c.loop-item.item-index = search rules in
    list_shown (map (λ p. meta_data term_data (network c.args.self.now.net.now) p.0 p.1 p.2) (map held_meta c.loop-item.found.items)) c.args.value.now c.in-Array.items c.deref-item-items.result.now c.loop-item.item-index c.in-Array.is same c.loop-item.invariant.read past

pub loop-item-preserved : goal.loop-item-preserved
loop-item-preserved c =
    let net = network c.args.self.now.net.now in
    let vs = c.deref-item-items.result.now in
    let i = c.loop-item.item-index in
    record {
      read = subst (λ xs. map (λ p. meta_data term_data (network c.args.self.now.net.now) p.0 p.1 p.2) (map held_meta xs) ≡ map view (take (i + 1) vs)) (sym c.in_ok-push.ensures.items)
          (read_more (λ p. meta_data term_data (network c.args.self.now.net.now) p.0 p.1 p.2) held_meta c.loop-item.found.items c.in_ok-meta.field-0 vs i c.item-item.result c.loop-item.invariant.read c.loop-item-test.true (c.in_ok-meta.ensures.shown ∙ ap view c.item-item.is));
      left = left_more net part.Meta vs i c.item-item.result c.loop-item-test.true c.item-item.is c.loop-item.invariant.left;
      fits = subst (λ xs. AllByRecursion (MetaFits (network c.args.self.now.net.now)) (map held_meta xs)) (sym c.in_ok-push.ensures.items)
          (fits_more (MetaFits (network c.args.self.now.net.now)) held_meta c.loop-item.found.items c.in_ok-meta.field-0 c.loop-item.invariant.fits c.in_ok-meta.ensures.fits);
    }
