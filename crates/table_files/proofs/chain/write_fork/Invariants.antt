use Rattle.std.proofs.Common.{◌≡◌, ◌++◌, codes, string_bytes}
use Rattle.sefl_syntax.specs.CodeText.{ports_text}
use Rattle.table_nodes.specs.TableNodes.{ports_from}
use Rattle.table_files.proofs.chain.write_fork.Given as goal

abbrev pub invariant-loop-port : goal.invariant-loop-port
invariant-loop-port l = string_bytes l.out ≡ (string_bytes l.fn.out ++ codes "fork") ++ ports_text (ports_from 0 l.port)
