use Rattle.std.proofs.Common.{◌≡◌, map, drop}
use Rattle.sn_edge.specs.MemPatterns.{row_of, finds_by}
use Rattle.sn_edge.proofs.mem_patterns.finds.Given as goal

abbrev pub invariant-loop-own_pattern : goal.invariant-loop-own_pattern
invariant-loop-own_pattern l =
    finds_by (map row_of (drop l.own_pattern-index l.rows)) l.pattern l.name ≡ finds_by (map row_of l.rows) l.pattern l.name
