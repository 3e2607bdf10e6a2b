use Rattle.record_checks.proofs.OneAnswer.{confirmed_back}
use Rattle.record_checks.proofs.Parts.{parts_make_it}
use Rattle.record_checks.proofs.laws.one_answer_for_records.Goals as goal

pub returns : goal.returns
returns c s records answer h = confirmed_back s (parts_make_it s) records answer h
