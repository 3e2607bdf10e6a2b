use Rattle.std.proofs.Common.{◌≡◌, ◌≤◌, drop}
use Rattle.sefl_reader.specs.Outcome.{in_line}
use Rattle.sefl_reader.proofs.place.in_line.Given as goal

abbrev pub invariant-loop-byte : goal.invariant-loop-byte
invariant-loop-byte l =
    record {
      whole : in_line l.count (drop l.byte-index l.bytes) ≡ in_line 0 l.bytes;
      within : l.count ≤ l.byte-index;
    }
