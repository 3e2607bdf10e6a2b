use Rattle.std.proofs.Common.{◌≡◌, ◌∷◌, [], ◌++◌, ◌+◌, take, drop, List, Err, refl, ap, ◌∙◌, subst}
use Rattle.sefl_syntax.specs.declared.job.RawField.{RawField}
use Rattle.job_items.specs.Items.{field_item, field_items}
use Rattle.job_items.specs.LentTags.{lent_tags}
use Rattle.job_items.specs.Progress.{progress_of, outcome_from, Follows}
use Rattle.job_items.specs.Rules.{went}
use Rattle.job_items.proofs.Outcomes.{follows_error, stops_among, passes_among, take_next}
use Rattle.job_items.proofs.fields.check_fields.Goals as goal

pub returns-in_err-check_field : goal.returns-in_err-check_field
returns-in_err-check_field c =
    let tags = lent_tags c.args.tags.now.entries in
    let fields = c.args.fields.now in
    let before = take c.loop-i.i fields in
    let P : List RawField → Type 0
    = λ b. Follows (outcome_from (progress_of c.loop-i.tally) (field_item tags b c.index-fields-i.result ∷ [])) (Err c.in_err-check_field.field-0.0) (progress_of c.check_field.new.tally) in
    follows_error _ c.from_residual.result c.in_err-check_field.field-0.0 (progress_of c.check_field.new.tally) c.from_residual.ensures.1
    (stops_among (field_items tags before) (field_item tags before) (λ f fs. field_items tags (before ++ f ∷ []) fs) (λ f fs. refl)
    (outcome_from (progress_of c.args.tally.now) (field_items tags [] fields))
    (progress_of c.loop-i.tally) fields c.loop-i.i c.index-fields-i.result c.in_err-check_field.field-0.0
    (progress_of c.check_field.new.tally) c.loop-i-test.true c.index-fields-i.is c.loop-i.invariant
    (subst P c.split_at.ensures.front c.in_err-check_field.ensures))

pub loop-i-preserved : goal.loop-i-preserved
loop-i-preserved c =
    let tags = lent_tags c.args.tags.now.entries in
    let fields = c.args.fields.now in
    let before = take c.loop-i.i fields in
    let P : List RawField → Type 0
    = λ b. outcome_from (progress_of c.loop-i.tally) (field_item tags b c.index-fields-i.result ∷ []) ≡ went (progress_of c.check_field.new.tally).site (progress_of c.check_field.new.tally).counts in
    ap (λ b. outcome_from (progress_of c.check_field.new.tally) (field_items tags b (drop (c.loop-i.i + 1) fields)))
    (take_next fields c.loop-i.i c.index-fields-i.result c.loop-i-test.true c.index-fields-i.is)
    ∙ passes_among (field_items tags before) (field_item tags before) (λ f fs. field_items tags (before ++ f ∷ []) fs) (λ f fs. refl)
    (outcome_from (progress_of c.args.tally.now) (field_items tags [] fields))
    (progress_of c.loop-i.tally) (progress_of c.check_field.new.tally) fields c.loop-i.i c.index-fields-i.result
    c.loop-i-test.true c.index-fields-i.is c.loop-i.invariant
    (subst P c.split_at.ensures.front c.in_ok-check_field.ensures)
