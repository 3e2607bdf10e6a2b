use Rattle.path_report.proofs.Round.{line_back}
use Rattle.path_report.proofs.laws.lines_are_read_back.Goals as goal

pub returns : goal.returns
returns c = λ net cases hops limit records refuted complete answer fits utf8 h.
    line_back net cases hops limit records refuted complete c.shaped_lines_are_read.ensures c.lines_have_their_form.ensures.form c.lines_have_their_form.ensures.one
    answer fits utf8 h
