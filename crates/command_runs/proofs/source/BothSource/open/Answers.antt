use Rattle.std.proofs.lemmas.Result.{err_from_is_err_and}
use Rattle.command_runs.specs.Outside.{outside}
use Rattle.command_runs.proofs.InputLemmas.{fails_first, fails_later, open_both}
use Rattle.command_runs.proofs.source.BothSource.open.Goals as goal

pub returns-in_err-first-clause-fails : goal.returns-in_err-first-clause-fails
returns-in_err-first-clause-fails g c =
    let p = err_from_is_err_and c.from_residual.result c.from_residual.ensures.1 in
    rw (p.1, p.2) (fails_first (outside g.F.Folder.told g.F.Folder.load_gives g.P.Patterns.told g.P.Patterns.find_gives)
    _ _ _ (g.B.Source.inputs c.args.self.now.second) _ c.in_err-first.ensures.fails)

pub returns-in_err-second-clause-fails : goal.returns-in_err-second-clause-fails
returns-in_err-second-clause-fails g c =
    let p = err_from_is_err_and c.from_residual-in_err-second.result c.from_residual-in_err-second.ensures.1 in
    rw (p.1, p.2) (fails_later (outside g.F.Folder.told g.F.Folder.load_gives g.P.Patterns.told g.P.Patterns.find_gives)
    _ _ _ _ _ (g.A.Source.givens c.in_ok-first.first) _ c.in_ok-first.ensures.opened c.in_err-second.ensures.fails)

pub returns-clause-opened : goal.returns-clause-opened
returns-clause-opened g c =
    open_both (outside g.F.Folder.told g.F.Folder.load_gives g.P.Patterns.told g.P.Patterns.find_gives)
    _ _ _ _ _ _ _ c.in_ok-first.ensures.opened c.in_ok-second.ensures.opened
