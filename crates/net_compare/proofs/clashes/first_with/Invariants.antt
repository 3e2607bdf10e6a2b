use Rattle.std.proofs.Common.{drop, map}
use Rattle.net_compare.specs.Clashing.{numbered_path}
use Rattle.net_compare.specs.Saying.{seen_path}
use Rattle.net_compare.proofs.ClashLemmas.{FitsOn}
use Rattle.net_compare.proofs.clashes.first_with.Given as goal

-- what is told of those that are left is so of all
abbrev pub invariant-loop-number : goal.invariant-loop-number
invariant-loop-number l = FitsOn (seen_path l.path) (map numbered_path l.others) (map numbered_path (drop l.number-index l.others))
