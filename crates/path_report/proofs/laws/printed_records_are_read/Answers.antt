use Rattle.path_report.proofs.Round.{records_are_read}
use Rattle.path_report.proofs.laws.printed_records_are_read.Goals as goal

pub returns : goal.returns
returns c = λ net bytes frame start items opened all few.
    records_are_read c.shaped_lines_are_read.ensures c.reports_have_their_form.ensures.form c.pieces_join.ensures net bytes frame start items opened all few
