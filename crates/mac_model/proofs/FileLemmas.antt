-- The nodes of files send as their rows say.
use Rattle.std.proofs.Common.{◌≡◌, refl, ℕ, List, Result, Ok, Err}
use Rattle.std.specs.Prelude.{IfOk}
use Rattle.std.proofs.lemmas.Result.{IfOk-at_ok}
use Rattle.sefl_syntax.specs.declared.net.TableKind.TheVariants.{Mac}
use Rattle.table_lines.specs.Laws.{FilesHaveTables}
use Rattle.table_lines.specs.Tables.{TableSeen, table_of}
use Rattle.table_lines.specs.declared.fault.TableFault.{TableFault}
use Rattle.table_nodes.specs.Laws.{NodesSend}
use Rattle.mac_model.specs.Laws.{FilesHaveMacs, FilesSend}
use Rattle.mac_model.specs.MacTables.{IsMac, mac_seen}
use Rattle.mac_model.proofs.MacLemmas.{mac_is}
use Rattle.mac_model.proofs.NodeLemmas.{mac_exits}

module _ (tables : FilesHaveTables) where
  file_is : (bytes : List ℕ) (o : Result TableSeen TableFault) → table_of Mac bytes ≡ o → IfOk (mac_seen o) (λ mac. IsMac mac.ports mac.rows)
  file_is bytes (Ok table) has = mac_is table (tables Mac bytes table has)
  file_is bytes (Err fault) has = tt

  pub files_have : FilesHaveMacs
  files_have bytes mac is = IfOk-at_ok (λ mac. IsMac mac.ports mac.rows) is (file_is bytes (table_of Mac bytes) refl)

  pub files_send : NodesSend → FilesSend
  files_send law bytes mac style node is made = mac_exits law mac style node (files_have bytes mac is) made
