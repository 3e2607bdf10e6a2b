use Rattle.std.proofs.Common.{drop, map}
use Rattle.net_compare.specs.Saying.{seen_path}
use Rattle.net_compare.proofs.FacedSoFar.{SoFar}
use Rattle.net_compare.proofs.facing.facing_formulas.Given as goal

-- those before face the path or are apart from it, and what is to come of the others
abbrev pub invariant-loop-other : goal.invariant-loop-other
invariant-loop-other l = SoFar (seen_path l.path) (map seen_path l.others) (map seen_path (drop l.other-index l.others)) l.start l.formulas.items
