use Rattle.std.proofs.Common.{◌≡◌, drop}
use Rattle.fault_places.specs.Lines.{skipped}
use Rattle.fault_places.proofs.line.skipped.Given as goal

abbrev pub invariant-loop-byte : goal.invariant-loop-byte
invariant-loop-byte l = record {
  goes : skipped l.left l.count (drop l.byte-index l.bytes) ≡ skipped l.lines 0 l.bytes;
  place : l.count ≡ l.byte-index;
}
