use Rattle.std.proofs.Common.{[], ◌∷◌, IfErr, IfOk, subst}
use Rattle.sefl_syntax.specs.Views.{job_tree}
use Rattle.command_runs.specs.Inputs.{AllOpen, FirstFails, a_made_job, given_of}
use Rattle.command_runs.specs.Outside.{outside}
use Rattle.command_runs.proofs.OpenLemmas.{made_by, unmade_by}
use Rattle.grow_command.proofs.grown_job.GrownJobSource.open.Goals as goal

pub returns-clause-opened : goal.returns-clause-opened
returns-clause-opened g c =
    let o = outside g.F.Folder.told g.F.Folder.load_gives g.P.Patterns.told g.P.Patterns.find_gives in
    let f = c.args._folder.now in
    let p = c.args.patterns.now in
    let q = c.accept_filled.new.patterns in
    subst (λ job. IfOk c.accept_filled.result (λ a. AllOpen o (f, p) (a_made_job job ∷ []) (given_of a ∷ []) (f, q))) c.in_ok-job.ensures
    (made_by g.F.Folder.told g.F.Folder.load_gives g.P.Patterns.told g.P.Patterns.find_gives f p q (job_tree c.in_ok-job.job) c.accept_filled.result
    c.accept_filled.ensures.taken c.accept_filled.ensures.asks)

pub returns-clause-fails : goal.returns-clause-fails
returns-clause-fails g c =
    let o = outside g.F.Folder.told g.F.Folder.load_gives g.P.Patterns.told g.P.Patterns.find_gives in
    let f = c.args._folder.now in
    let p = c.args.patterns.now in
    let q = c.accept_filled.new.patterns in
    subst (λ job. IfErr c.accept_filled.result (λ fault. FirstFails o (f, p) (a_made_job job ∷ []) fault (f, q))) c.in_ok-job.ensures
    (unmade_by g.F.Folder.told g.F.Folder.load_gives g.P.Patterns.told g.P.Patterns.find_gives f p q (job_tree c.in_ok-job.job) c.accept_filled.result
    c.accept_filled.ensures.fails)
