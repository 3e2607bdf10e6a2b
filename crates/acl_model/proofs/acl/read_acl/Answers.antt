use Rattle.std.proofs.Common.{subst, Err}
use Rattle.table_lines.specs.declared.fault.TableFault.{TableFault}
use Rattle.table_lines.specs.Lines.{lines}
use Rattle.table_lines.specs.Reading.{Leaves, read_from}
use Rattle.acl_model.specs.Rules.{step}
use Rattle.acl_model.proofs.Reading.{no_conflict}
use Rattle.acl_model.proofs.acl.read_acl.Goals as goal

pub acl_fault-requires : goal.acl_fault-requires
acl_fault-requires c = λ line earlier is.
    no_conflict line earlier c.new.result.items 1 (lines c.args.bytes.now)
    (subst (λ (fault : TableFault). Leaves (read_from step 1 c.new.result.items (lines c.args.bytes.now)) (Err fault) c.read_lines.new.reader) is c.in-Err.ensures)
