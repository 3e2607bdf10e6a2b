use Rattle.run_text.proofs.ReadBack.{line_read}
use Rattle.run_text.proofs.json_laws.lines_are_read.Goals as goal

pub returns : goal.returns
returns c = line_read
