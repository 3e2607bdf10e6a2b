use Rattle.run_text.proofs.Steps.{object_closed, object_member, object_opened}
use Rattle.run_text.proofs.json_laws.objects_are_written.Goals as goal

pub returns-clause-closed : goal.returns-clause-closed
returns-clause-closed c = object_closed

pub returns-clause-member : goal.returns-clause-member
returns-clause-member c = object_member

pub returns-clause-opened : goal.returns-clause-opened
returns-clause-opened c = object_opened
