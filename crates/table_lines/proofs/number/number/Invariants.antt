use Rattle.std.proofs.Common.{◌≡◌, ◌<◌, ◌^◌, drop}
use Rattle.table_lines.specs.Numbers.{digits_from}
use Rattle.table_lines.proofs.number.number.Given as goal

abbrev pub invariant-loop-byte : goal.invariant-loop-byte
invariant-loop-byte l = record {
  goes : digits_from l.base l.value (drop l.byte-index l.bytes) ≡ digits_from l.base 0 l.bytes;
  room : l.value < 16 ^ l.byte-index;
}
