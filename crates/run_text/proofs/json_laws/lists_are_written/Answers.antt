use Rattle.run_text.proofs.Steps.{list_closed, list_item, list_opened, none_added, more_added, last_added}
use Rattle.run_text.proofs.json_laws.lists_are_written.Goals as goal

pub returns-clause-closed : goal.returns-clause-closed
returns-clause-closed c = list_closed

pub returns-clause-item : goal.returns-clause-item
returns-clause-item c = list_item

pub returns-clause-opened : goal.returns-clause-opened
returns-clause-opened c = list_opened

pub returns-clause-none : goal.returns-clause-none
returns-clause-none c = none_added

pub returns-clause-more : goal.returns-clause-more
returns-clause-more c = more_added

pub returns-clause-last : goal.returns-clause-last
returns-clause-last c = last_added
