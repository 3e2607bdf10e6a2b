use Rattle.std.proofs.Common.{drop, map}
use Rattle.net_compare.specs.Clashing.{numbered_path}
use Rattle.net_compare.proofs.ClashLemmas.{ClashOn}
use Rattle.net_compare.proofs.clashes.first_clash.Given as goal

-- what is told of those that are left is so of all
abbrev pub invariant-loop-at : goal.invariant-loop-at
invariant-loop-at l = ClashOn (map numbered_path l.paths) (map numbered_path (drop l.at l.paths))
