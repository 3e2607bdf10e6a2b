use Rattle.std.proofs.Common.{[], map, ap, ap₂}
use Rattle.sefl_syntax.specs.Views.{cond_tree}
use Rattle.job_items.specs.Items.{field_items, test_item}
use Rattle.job_items.specs.LentTags.{lent_tags}
use Rattle.job_items.specs.Progress.{progress_of}
use Rattle.job_items.proofs.Outcomes.{follows_error, first_stops, second_answers}
use Rattle.job_items.proofs.job.check_values.Goals as goal

pub returns-in_err-check_fields : goal.returns-in_err-check_fields
returns-in_err-check_fields c =
    let tags = lent_tags c.args.tags.now.entries in
    let i = c.args.injection.now in
    follows_error _ c.from_residual.result c.in_err-check_fields.field-0.0 (progress_of c.check_fields.new.tally) c.from_residual.ensures.1
    (first_stops (progress_of c.args.tally.now) (field_items tags [] i.fields.items) (field_items tags [] c.deref.result.now)
    (map (test_item tags i.fields.items) (map cond_tree i.tests.items)) c.in_err-check_fields.field-0.0 (progress_of c.check_fields.new.tally)
    (ap (field_items tags []) c.deref.ensures.value) c.in_err-check_fields.ensures)

pub returns : goal.returns
returns c =
    let tags = lent_tags c.args.tags.now.entries in
    let i = c.args.injection.now in
    second_answers (progress_of c.args.tally.now) (progress_of c.check_fields.new.tally) (field_items tags [] i.fields.items) (field_items tags [] c.deref.result.now)
    (map (test_item tags i.fields.items) (map cond_tree i.tests.items)) (map (test_item tags c.deref-2.result.now) (map cond_tree c.deref-3.result.now)) c.check_tests.result (progress_of c.check_tests.new.tally)
    (ap (field_items tags []) c.deref.ensures.value) (ap₂ (λ f t. map (test_item tags f) (map cond_tree t)) c.deref-2.ensures.value c.deref-3.ensures.value) c.in_ok-check_fields.ensures c.check_tests.ensures
