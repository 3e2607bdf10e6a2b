use Rattle.std.proofs.Common.{sym, subst}
use Rattle.std.proofs.lemmas.Result.{err_from_is_err_and}
use Rattle.command_edge.specs.Files.{IsLoaded}
use Rattle.command_edge.specs.declared.limits.TheConstants.{FILE_LIMIT}
use Rattle.sefl_syntax.specs.Views.{job_tree}
use Rattle.command_runs.specs.Loading.{no_job, no_table}
use Rattle.command_runs.proofs.job.load_job.Goals as goal

pub returns-in_err-job-clause-fails : goal.returns-in_err-job-clause-fails
returns-in_err-job-clause-fails g c =
    let p = err_from_is_err_and c.from_residual-in_err-job.result c.from_residual-in_err-job.ensures.1 in
    let loaded = subst (λ bytes. IsLoaded g.F.Folder.told g.F.Folder.load_gives FILE_LIMIT c.args.name.now c.args.folder.now bytes c.load_text.new.folder) (sym c.deref.ensures.value) c.in_ok-bytes.ensures.loaded in
    rw (p.1, p.2) (no_job c.deref.result.now loaded c.in_err-job.ensures.fails)

pub returns-clause-fails : goal.returns-clause-fails
returns-clause-fails g c =
    let loaded = subst (λ bytes. IsLoaded g.F.Folder.told g.F.Folder.load_gives FILE_LIMIT c.args.name.now c.args.folder.now bytes c.load_text.new.folder) (sym c.deref.ensures.value) c.in_ok-bytes.ensures.loaded in
    no_table c.deref.result.now c.load_text.new.folder (job_tree c.in_ok-job.job) loaded c.in_ok-job.ensures.job c.in-Err.ensures.fails
