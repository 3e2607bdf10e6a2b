-- The nodes of files send as their prefixes say.
use Rattle.std.proofs.Common.{◌≡◌, refl, ℕ, List, Result, Ok, Err}
use Rattle.std.specs.Prelude.{IfOk}
use Rattle.std.proofs.lemmas.Result.{IfOk-at_ok}
use Rattle.sefl_syntax.specs.declared.net.TableKind.TheVariants.{Fib}
use Rattle.table_lines.specs.Laws.{FilesHaveTables}
use Rattle.table_lines.specs.Tables.{TableSeen, table_of}
use Rattle.table_lines.specs.declared.fault.TableFault.{TableFault}
use Rattle.table_nodes.specs.Laws.{NodesSend}
use Rattle.fib_model.specs.Laws.{FilesHaveFibs, FilesSend}
use Rattle.fib_model.specs.Fibs.{IsFib, fib_seen}
use Rattle.fib_model.proofs.FibLemmas.{fib_is}
use Rattle.fib_model.proofs.NodeLemmas.{fib_exits}

module _ (tables : FilesHaveTables) where
  file_is : (bytes : List ℕ) (o : Result TableSeen TableFault) → table_of Fib bytes ≡ o → IfOk (fib_seen o) (λ fib. IsFib fib.ports fib.rows)
  file_is bytes (Ok table) has = fib_is table (tables Fib bytes table has)
  file_is bytes (Err fault) has = tt

  pub files_have : FilesHaveFibs
  files_have bytes fib is = IfOk-at_ok (λ fib. IsFib fib.ports fib.rows) is (file_is bytes (table_of Fib bytes) refl)

  pub files_send : NodesSend → FilesSend
  files_send law bytes fib style node is made = fib_exits law fib style node (files_have bytes fib is) made
