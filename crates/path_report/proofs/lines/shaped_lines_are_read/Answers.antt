use Rattle.path_report.proofs.Plain.{line_of}
use Rattle.path_report.proofs.lines.shaped_lines_are_read.Goals as goal

pub returns : goal.returns
returns c = line_of c.lines_are_read.ensures
