use Rattle.std.proofs.Common.{◌∙◌, ap}
use Rattle.sefl_syntax.specs.Views.{job_tree}
use Rattle.job_names.proofs.Surveys.{noted_job-metas, noted_job-tags, surveyed_nodes-patterns}
use Rattle.job_names.proofs.names.names_of.Goals as goal

pub returns : goal.returns
returns c =
    let j = job_tree c.args.job.now in
    λ i. record {
      metas = (c.in_ok-metas.ensures ∙ ap (λ n. n.metas) c.in_ok-survey.ensures.names ∙ noted_job-metas j) i;
      tags = (c.in_ok-tags.ensures ∙ ap (λ n. n.tags) c.in_ok-survey.ensures.names ∙ noted_job-tags j) i;
      patterns = (c.in_ok-patterns.ensures ∙ c.in_ok-survey.ensures.patterns ∙ surveyed_nodes-patterns j) i;
    }
