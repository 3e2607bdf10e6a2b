use Rattle.std.proofs.Common.{◌≡◌, ◌+◌, ◌<◌, ◌^◌, length}
use Rattle.table_lines.specs.Lines.{lines}
use Rattle.table_lines.specs.Reading.{read_from}
use Rattle.table_lines.proofs.lines.read_lines.Given as goal

abbrev pub invariant-loop-rest : goal.invariant-loop-rest
invariant-loop-rest g l = record {
  room : l.number + length l.left < 2 ^ 63 + 1;
  goes : read_from g.R.LineReader.step l.number l.reader (lines l.left) ≡ read_from g.R.LineReader.step 1 l.fn.reader (lines l.fn.bytes);
}

abbrev pub decreases-loop-rest : goal.decreases-loop-rest
decreases-loop-rest g l = length l.left
