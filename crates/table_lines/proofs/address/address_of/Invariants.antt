use Rattle.std.proofs.Common.{◌≡◌, ◌<◌, ◌-◌, ◌^◌}
use Rattle.table_lines.specs.Pieces.{pieces}
use Rattle.table_lines.specs.Addresses.{bytes_from, parts_of, separator_of}
use Rattle.table_lines.proofs.ByteLemmas.{pieces_left}
use Rattle.table_lines.proofs.address.address_of.Given as goal

abbrev pub invariant-loop : goal.invariant-loop
invariant-loop l = record {
  goes : bytes_from l.kind (parts_of l.kind - l.counter) l.value (pieces_left (separator_of l.kind) l.left)
      ≡ bytes_from l.kind (parts_of l.kind) 0 (pieces (separator_of l.kind) l.word);
  room : l.value < 256 ^ l.counter;
}
