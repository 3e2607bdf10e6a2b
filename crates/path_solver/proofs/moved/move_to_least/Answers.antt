use Rattle.std.proofs.Common.{sym, subst, true≢false}
use Rattle.refutation_check.specs.Least.{AreLeast}
use Rattle.path_solver.proofs.MovedLemmas.{moved_least}
use Rattle.path_solver.proofs.moved.move_to_least.Goals as goal

pub returns-in-None : goal.returns-in-None
returns-in-None c = λ yes. absurd (true≢false (sym yes))

pub returns-in-Some : goal.returns-in-Some
returns-in-Some c = λ yes.
    subst (AreLeast c.args.cond.now) (sym c.put.ensures)
    (moved_least c.facts.ensures c.args.cond.now c.args.formulas c.args.symbol c.in-Some.value c.args.values.now.items c.formulas_are_typed.ensures
    c.requires.moved (c.in-Some.ensures c.args.cond.now c.requires.domains) c.requires.least)
