use Rattle.caller_edge.proofs.Gathering.{files_once, texts_once}
use Rattle.caller_edge.proofs.laws.lists_are_read_in_one_way.Goals as goal

pub returns-clause-texts : goal.returns-clause-texts
returns-clause-texts c bytes one other has last = texts_once bytes one other has last

pub returns-clause-files : goal.returns-clause-files
returns-clause-files c bytes one other has last = files_once bytes one other has last
