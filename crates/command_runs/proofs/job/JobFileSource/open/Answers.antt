use Rattle.std.proofs.lemmas.Result.{err_from_is_err_and}
use Rattle.sefl_syntax.specs.Views.{job_tree}
use Rattle.command_runs.proofs.OpenLemmas.{job_unread, opened_by, refused_by}
use Rattle.command_runs.proofs.job.JobFileSource.open.Goals as goal

pub returns-in_err-job-clause-fails : goal.returns-in_err-job-clause-fails
returns-in_err-job-clause-fails g c =
    let p = err_from_is_err_and c.from_residual.result c.from_residual.ensures.1 in
    rw (p.1, p.2) (job_unread g.F.Folder.told g.F.Folder.load_gives g.P.Patterns.told g.P.Patterns.find_gives
    c.args.folder.now c.load_job.new.folder c.args.patterns.now c.args.self.now.name.now c.in_err-job.field-0.0 c.in_err-job.ensures.fails)

pub returns-clause-opened : goal.returns-clause-opened
returns-clause-opened g c =
    opened_by g.F.Folder.told g.F.Folder.load_gives g.P.Patterns.told g.P.Patterns.find_gives
    c.args.folder.now c.load_job.new.folder c.args.patterns.now c.accept_filled.new.patterns (job_tree c.in_ok-job.job) c.accept_filled.result
    c.args.self.now.name.now c.in_ok-job.ensures.job c.accept_filled.ensures.taken c.accept_filled.ensures.asks

pub returns-clause-fails : goal.returns-clause-fails
returns-clause-fails g c =
    refused_by g.F.Folder.told g.F.Folder.load_gives g.P.Patterns.told g.P.Patterns.find_gives
    c.args.folder.now c.load_job.new.folder c.args.patterns.now c.accept_filled.new.patterns (job_tree c.in_ok-job.job) c.accept_filled.result
    c.args.self.now.name.now c.in_ok-job.ensures.job c.accept_filled.ensures.fails
