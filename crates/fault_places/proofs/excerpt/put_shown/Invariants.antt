use Rattle.std.proofs.Common.{◌≡◌, ◌++◌, map, drop}
use Rattle.fault_places.specs.Excerpts.{shown_byte}
use Rattle.fault_places.proofs.excerpt.put_shown.Given as goal

abbrev pub invariant-loop-byte : goal.invariant-loop-byte
invariant-loop-byte l = l.out.items ++ map shown_byte (drop l.byte-index l.bytes) ≡ l.fn.out.items ++ map shown_byte l.bytes
