use Rattle.std.proofs.Common.{◌∙◌, ap, sym}
use Rattle.job_items.specs.AtomRules.{meta_name}
use Rattle.job_items.specs.Rules.{with_names}
use Rattle.job_items.specs.Progress.{lent_texts}
use Rattle.job_items.proofs.Texts.{lent_insert}
use Rattle.job_items.proofs.tally.note_target.Goals as goal

pub returns-in_ok-insert-in-Meta : goal.returns-in_ok-insert-in-Meta
returns-in_ok-insert-in-Meta c =
    ap lent_texts c.in_ok-insert-in-Meta.ensures.keys ∙ lent_insert c.args.names.now.keys _
    ∙ ap (λ target. with_names (lent_texts c.args.names.now.keys) (meta_name target)) (sym c.in-Meta.is)
