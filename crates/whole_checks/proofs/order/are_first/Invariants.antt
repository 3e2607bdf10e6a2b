use Rattle.std.proofs.Common.{◌↔◌, drop}
use Rattle.std.specs.List.{AllByRecursion}
use Rattle.whole_checks.specs.Chains.{IsFirst}
use Rattle.whole_checks.proofs.order.are_first.Given as goal

-- those from here on are first where all are
abbrev pub invariant-loop-at : goal.invariant-loop-at
invariant-loop-at l = AllByRecursion IsFirst (drop l.at l.decisions) ↔ AllByRecursion IsFirst (drop l.from l.decisions)
