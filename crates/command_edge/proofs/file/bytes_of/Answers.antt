use Rattle.std.proofs.Common.{rules}
use Rattle.command_edge.proofs.file.bytes_of.Goals as goal

pub returns-in-Bytes : goal.returns-in-Bytes
returns-in-Bytes c = search rules
