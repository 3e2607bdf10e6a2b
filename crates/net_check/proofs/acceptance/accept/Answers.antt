use Rattle.std.proofs.Common.{◌∙◌, sym, ap}
use Rattle.sefl_syntax.specs.Views.{job_tree}
use Rattle.job_items.specs.Refusals.{named_in}
use Rattle.net_check.proofs.RuleLemmas.{by_table}
use Rattle.net_check.proofs.acceptance.accept.Goals as goal

pub returns-in-Some-clause-raised : goal.returns-in-Some-clause-raised
returns-in-Some-clause-raised g c site same =
    absurd (by_table (job_tree c.args.job) c.in-Some.refusal.site site c.in-Some.refusal.rule (sym c.in_ok-refusal.ensures ∙ ap named_in c.in-Some.is) same)
