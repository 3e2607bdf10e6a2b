use Rattle.std.proofs.Common.{◌≡◌, ◌∙◌, ap, sym, List, false, map}
use Rattle.serde_json.specs.Data.{Data}
use Rattle.run_text.specs.Forms.{decision_data, decisions_data}
use Rattle.record_text.specs.Records.{before_data, pruned_data, refutation_data}
use Rattle.record_text.specs.Reports.{record_pieces}
use Rattle.kept_texts.proofs.RecordLemmas.{both, grown, pruned_text}
use Rattle.kept_texts.proofs.pieces.KeptTexts.put_pruned.Goals as goal

pub returns : goal.returns
unfolding pruned_data decisions_data
returns g c =
    let decisions : List Data = map decision_data c.args.decisions.now in
    let own : c.text.result.now ≡ record_pieces false decisions = c.text.ensures ∙ ap (λ ds. record_pieces false (map decision_data ds)) c.in_ok-follow.ensures in
    grown _ _ _ _ (sym (pruned_text c.lists_are_joined.ensures (before_data c.args.before.now) decisions (refutation_data c.args.steps.now)))
    (both _ _ _ _ _ c.in_ok-put.ensures
    (both _ _ _ _ _ (grown _ _ _ _ (c.deref.ensures ∙ c.in_ok-text.ensures) c.in_ok-put-2.ensures)
    (both _ _ _ _ _ c.in_ok-put-3.ensures
    (both _ _ _ _ _ (grown _ _ _ _ own c.in_ok-put-4.ensures)
    (both _ _ _ _ _ c.in_ok-put-5.ensures
    (both _ _ _ _ _ (grown _ _ _ _ (c.deref-2.ensures ∙ c.in_ok-text-2.ensures) c.in_ok-put-6.ensures) c.in_ok-put-7.ensures))))))
