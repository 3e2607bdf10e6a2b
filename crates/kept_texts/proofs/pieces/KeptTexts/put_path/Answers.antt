use Rattle.std.proofs.Common.{◌≡◌, ◌∙◌, ap, sym, List, false, map}
use Rattle.serde_json.specs.Data.{Data}
use Rattle.run_text.specs.Forms.{decision_data, decisions_data, end_data, fields_data, place_data, places_data, term_data}
use Rattle.path_records.specs.Shown.{fields_seen}
use Rattle.record_text.specs.Records.{path_data, verdict_data}
use Rattle.record_text.specs.Reports.{record_pieces}
use Rattle.kept_texts.proofs.RecordLemmas.{both, grown, path_text}
use Rattle.kept_texts.proofs.pieces.KeptTexts.put_path.Goals as goal

pub returns : goal.returns
unfolding path_data decisions_data places_data
returns g c =
    let net = g.N.OfNet.net in
    let decisions : List Data = map decision_data c.args.decisions.now in
    let places : List Data = map (place_data net) c.args.places.now in
    let fields : Data = fields_data term_data net (fields_seen c.args.fields.now) in
    let own_decisions : c.text.result.now ≡ record_pieces false decisions = c.text.ensures ∙ ap (λ ds. record_pieces false (map decision_data ds)) c.in_ok-follow.ensures in
    let own_places : c.text-2.result.now ≡ record_pieces false places = c.text-2.ensures ∙ ap (λ ps. record_pieces false (map (place_data net) ps)) c.in_ok-follow-2.ensures in
    grown _ _ _ _ (sym (path_text c.lists_are_joined.ensures decisions places (end_data c.args.end.now) fields (verdict_data c.args.verdict.now)))
    (both _ _ _ _ _ c.in_ok-put.ensures
    (both _ _ _ _ _ (grown _ _ _ _ own_decisions c.in_ok-put-2.ensures)
    (both _ _ _ _ _ c.in_ok-put-3.ensures
    (both _ _ _ _ _ (grown _ _ _ _ (c.deref.ensures ∙ c.in_ok-text.ensures) c.in_ok-put-4.ensures)
    (both _ _ _ _ _ c.in_ok-put-5.ensures
    (both _ _ _ _ _ c.in_ok-put_fields.ensures
    (both _ _ _ _ _ c.in_ok-put-6.ensures
    (both _ _ _ _ _ (grown _ _ _ _ own_places c.in_ok-put-7.ensures)
    (both _ _ _ _ _ c.in_ok-put-8.ensures
    (both _ _ _ _ _ (grown _ _ _ _ (c.deref-2.ensures ∙ c.in_ok-text-2.ensures) c.in_ok-put-9.ensures) c.in_ok-put-10.ensures))))))))))
