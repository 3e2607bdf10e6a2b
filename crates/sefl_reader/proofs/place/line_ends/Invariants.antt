use Rattle.std.proofs.Common.{◌≡◌, ◌+◌, ◌≤◌, drop}
use Rattle.sefl_reader.specs.Outcome.{line_ends}
use Rattle.sefl_reader.proofs.place.line_ends.Given as goal

abbrev pub invariant-loop-byte : goal.invariant-loop-byte
invariant-loop-byte l =
    record {
      whole : l.count + line_ends (drop l.byte-index l.bytes) ≡ line_ends l.bytes;
      within : l.count ≤ l.byte-index;
    }
