use Rattle.std.proofs.Common.{◌≡◌, ◌∙◌, ap, sym, List, false, map}
use Rattle.serde_json.specs.Data.{Data}
use Rattle.run_text.specs.Forms.{decision_data, decisions_data}
use Rattle.record_text.specs.Records.{unexplored_data}
use Rattle.record_text.specs.Reports.{record_pieces}
use Rattle.kept_texts.proofs.RecordLemmas.{both, grown, unexplored_text}
use Rattle.kept_texts.proofs.pieces.KeptTexts.put_unexplored.Goals as goal

pub returns : goal.returns
unfolding unexplored_data decisions_data
returns g c =
    let decisions : List Data = map decision_data c.args.decisions.now in
    let own : c.text.result.now ≡ record_pieces false decisions = c.text.ensures ∙ ap (λ ds. record_pieces false (map decision_data ds)) c.in_ok-follow.ensures in
    grown _ _ _ _ (sym (unexplored_text c.lists_are_joined.ensures decisions))
    (both _ _ _ _ _ c.in_ok-put.ensures (both _ _ _ _ _ (grown _ _ _ _ own c.in_ok-put-2.ensures) c.in_ok-put-3.ensures))
