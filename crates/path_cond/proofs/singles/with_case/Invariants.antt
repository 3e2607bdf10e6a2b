use Rattle.std.proofs.Common.{◌≡◌, ◌++◌, take}
use Rattle.path_cond.specs.Kept.{singles_at}
use Rattle.path_cond.proofs.singles.with_case.Given as goal

abbrev pub invariant-loop-bound : goal.invariant-loop-bound
invariant-loop-bound l = l.list ≡ l.singles ++ singles_at l.pick (take l.bound-index l.case)
