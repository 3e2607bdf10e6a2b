use Rattle.one_list.proofs.Telling.{alike_tell}
use Rattle.one_list.proofs.laws.alike_records_tell_the_same.Goals as goal

pub returns : goal.returns
returns c = alike_tell
