use Rattle.std.proofs.Common.{◌≡◌, map, drop, string_bytes}
use Rattle.sn_edge.specs.MemPatterns.{is_listed}
use Rattle.sn_edge.proofs.mem_patterns.is_bad.Given as goal

abbrev pub invariant-loop-own_pattern : goal.invariant-loop-own_pattern
invariant-loop-own_pattern l =
    is_listed (map string_bytes (drop l.own_pattern-index l.bad)) l.pattern ≡ is_listed (map string_bytes l.bad) l.pattern
