use Rattle.std.proofs.Common.{drop, map}
use Rattle.path_records.specs.Shown.{held_head}
use Rattle.net_compare.specs.Layouts.{SameHeads}
use Rattle.net_compare.proofs.layout.same_heads.Given as goal

-- they lie alike where what is left does, and the other way
abbrev pub invariant-loop-at : goal.invariant-loop-at
invariant-loop-at l = record {
  all : SameHeads (map held_head (drop l.at l.heads)) (map held_head (drop l.at l.others)) → SameHeads (map held_head l.heads) (map held_head l.others);
  rest : SameHeads (map held_head l.heads) (map held_head l.others) → SameHeads (map held_head (drop l.at l.heads)) (map held_head (drop l.at l.others));
}
