use Rattle.std.proofs.Common.{◌≡◌, ◌∙◌, ap, sym, List, false, map}
use Rattle.serde_json.specs.Data.{Data}
use Rattle.net_check.specs.Network.{network}
use Rattle.run_text.specs.Forms.{fields_data, head_data, heads_data, meta_data, metas_data, tag_data, tags_data, term_data}
use Rattle.run_text.specs.Held.{held_head, held_meta}
use Rattle.record_text.specs.Reports.{record_pieces}
use Rattle.kept_texts.specs.Kept.{Grows}
use Rattle.kept_texts.proofs.RecordLemmas.{both, fields_text, grown}
use Rattle.kept_texts.proofs.pieces.KeptTexts.put_fields.Goals as goal

pub returns : goal.returns
unfolding fields_data heads_data metas_data tags_data
returns g c =
    let net = g.N.OfNet.net in
    let fields = c.args.fields.now in
    let heads : List Data = map (λ p. head_data term_data p.0 p.1) (map held_head fields.heads.items) in
    let metas : List Data = map (λ p. meta_data term_data net p.0 p.1 p.2) (map held_meta fields.metas.items) in
    let tags : List Data = map (tag_data net) fields.tags.items in
    let own_heads : Grows (record_pieces false heads) c.put.new.out.bytes.items c.put_heads.new.out.bytes.items =
    grown _ _ _ _ (ap (λ hs. record_pieces false (map (λ p. head_data term_data p.0 p.1) (map held_head hs))) c.deref-2.ensures.value) c.in_ok-put_heads.ensures in
    let own_metas : Grows (record_pieces false metas) c.put-2.new.out.bytes.items c.put_metas.new.out.bytes.items =
    grown _ _ _ _
    (ap (λ ms. record_pieces false (map (λ p. meta_data term_data (network c.args.net.now) p.0 p.1 p.2) (map held_meta ms))) c.deref-3.ensures.value
    ∙ ap (λ n. record_pieces false (map (λ p. meta_data term_data n p.0 p.1 p.2) (map held_meta fields.metas.items))) c.requires)
    c.in_ok-put_metas.ensures in
    let own_tags : c.text.result.now ≡ record_pieces false tags =
    c.text.ensures ∙ ap (λ ts. record_pieces false (map (tag_data net) ts)) (c.in_ok-follow.ensures ∙ c.deref.ensures.value) in
    grown _ _ _ _ (sym (fields_text c.lists_are_joined.ensures heads metas tags))
    (both _ _ _ _ _ c.in_ok-put.ensures
    (both _ _ _ _ _ own_heads
    (both _ _ _ _ _ c.in_ok-put-2.ensures
    (both _ _ _ _ _ own_metas
    (both _ _ _ _ _ c.in_ok-put-3.ensures
    (both _ _ _ _ _ (grown _ _ _ _ own_tags c.in_ok-put-4.ensures) c.in_ok-put-5.ensures))))))
