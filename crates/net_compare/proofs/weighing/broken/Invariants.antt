use Rattle.net_compare.proofs.WeighLemmas.{BrokenSoFar}
use Rattle.net_compare.proofs.weighing.broken.Given as goal

-- of those before there is one for each that is broken
abbrev pub invariant-loop-formula : goal.invariant-loop-formula
invariant-loop-formula l = BrokenSoFar l.values l.row l.formula-index l.list.items
