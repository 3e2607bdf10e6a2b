use Rattle.compare_command.proofs.Beyond.{uncut_beyond}
use Rattle.compare_command.proofs.laws.comparisons_without_cuts_go_beyond.Goals as goal

pub returns : goal.returns
returns c = uncut_beyond c.uncut_records_go_beyond.ensures
