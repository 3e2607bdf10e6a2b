use Rattle.std.proofs.Common.{sym, true≢false}
use Rattle.path_solver.proofs.moved.is_unbroken.Goals as goal

pub returns-in-None : goal.returns-in-None
returns-in-None c = λ yes. sym c.in-None.ensures

pub returns-in-Some : goal.returns-in-Some
returns-in-Some c = λ yes. absurd (true≢false (sym yes))
