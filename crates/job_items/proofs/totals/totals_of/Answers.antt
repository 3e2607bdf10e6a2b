use Rattle.std.proofs.Common.{sym, ◌∙◌, ap}
use Rattle.sefl_syntax.specs.Views.{job_tree}
use Rattle.job_items.specs.Progress.{Progress}
use Rattle.job_items.specs.Rules.{no_counts}
use Rattle.job_items.specs.Totals.{with_job}
use Rattle.job_items.proofs.Counting.{job_counted}
use Rattle.job_items.proofs.totals.totals_of.Goals as goal

pub returns : goal.returns
returns c =
    let job = job_tree c.args.job.now in
    c.in_ok-count_job.ensures ∙ ap (λ (p : Progress). with_job p.counts job) c.new-tally.ensures
    ∙ sym (job_counted no_counts job)
