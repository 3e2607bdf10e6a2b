use Rattle.std.specs.List.{AllByRecursion}
use Rattle.net_check.specs.Network.{network}
use Rattle.path_report.proofs.scanned.Direct.list.Given as goal

-- the items so far fit
abbrev pub invariant-loop : goal.invariant-loop
invariant-loop g l = AllByRecursion (g.T.Item.Fits (network l.self.net.now)) l.found.items
