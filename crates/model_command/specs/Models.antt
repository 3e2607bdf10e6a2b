-- What `model` writes of the bytes of a table's file.
use Rattle.std.specs.Prelude.{ℕ, ◌≡◌, List, [], ◌∷◌, Some}
use Rattle.sefl_syntax.specs.declared.net.Style.{Style}
use Rattle.sefl_syntax.specs.declared.net.TableKind.{TableKind}
use Rattle.sefl_syntax.specs.NetText.{node_text}
use Rattle.sefl_syntax.specs.NetWords.{kind_text}
use Rattle.sefl_syntax.specs.Trees.{NodeTree}
use Rattle.table_files.specs.FileNodes.{IsNodeOf, bad_line}
use Rattle.command_runs.specs.Inputs.{Given, some_bytes}
use Rattle.command_edge.specs.Puts.{Outcome, text, refused}
use Rattle.command_edge.specs.declared.ending.Ending.TheVariants.{Done}
use Rattle.command_edge.specs.declared.fault.OwnFault.{OwnFault}
use Rattle.command_edge.specs.declared.fault.OwnFault.TheVariants.{BadTable, NoMemory}

module _ (kind : TableKind) (style : Style) (name : List ℕ) where
  -- the canonical text of the table's node, which is named by the kind, or the first line of the file that breaks a rule
  abbrev pub ModelOf : List ℕ → Outcome → Type 0
  ModelOf bytes (text ending whole) = (ending ≡ Done) × (node : NodeTree) × IsNodeOf kind bytes style node × (whole ≡ node_text (kind_text kind) node)
  ModelOf bytes (refused (BadTable own line rule)) = (own ≡ name) × (bad_line kind bytes ≡ Some (line, rule))
  ModelOf bytes _ = ⊥

  -- `model` of a table's file with this name
  abbrev pub ModelComes : List Given → Outcome → Type 0
  ModelComes (some_bytes bytes ∷ []) outcome = ModelOf bytes outcome
  ModelComes _ outcome = ⊥

  -- why the bytes have no text
  abbrev pub IsModelRefusal : List ℕ → OwnFault → Type 0
  IsModelRefusal bytes (BadTable own line rule) = (own ≡ name) × (bad_line kind bytes ≡ Some (line, rule))
  IsModelRefusal bytes NoMemory = Unit {0}
  IsModelRefusal bytes _ = ⊥
