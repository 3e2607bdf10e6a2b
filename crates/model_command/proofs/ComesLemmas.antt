-- What `model` comes to, by the bytes of its file.
use Rattle.std.proofs.Common.{◌≡◌, refl, ℕ, List, [], ◌∷◌}
use Rattle.sefl_syntax.specs.declared.net.Style.{Style}
use Rattle.sefl_syntax.specs.declared.net.TableKind.{TableKind}
use Rattle.sefl_syntax.specs.NetText.{node_text}
use Rattle.sefl_syntax.specs.NetWords.{kind_text}
use Rattle.sefl_syntax.specs.Trees.{NodeTree}
use Rattle.table_files.specs.FileNodes.{IsNodeOf}
use Rattle.command_runs.specs.Inputs.{some_bytes}
use Rattle.command_edge.specs.Puts.{text}
use Rattle.command_runs.specs.Runs.{IsRefusal}
use Rattle.command_edge.specs.declared.ending.Ending.TheVariants.{Done}
use Rattle.command_edge.specs.declared.fault.OwnFault.{OwnFault}
use Rattle.command_edge.specs.declared.fault.OwnFault.TheVariants.{BadTable, NoMemory}
use Rattle.model_command.specs.Models.{IsModelRefusal, ModelComes}

module _ (kind : TableKind) (style : Style) (name bytes : List ℕ) where
  pub no_model : (fault : OwnFault) → IsModelRefusal kind style name bytes fault → IsRefusal (ModelComes kind style name (some_bytes bytes ∷ [])) fault
  no_model (BadTable own line rule) h = h
  no_model NoMemory h = tt
  no_model fault h = absurd h

  pub model_comes : (whole : List ℕ) → (node : NodeTree) × IsNodeOf kind bytes style node × (whole ≡ node_text (kind_text kind) node)
      → ModelComes kind style name (some_bytes bytes ∷ []) (text Done whole)
  model_comes whole (node, is, same) = (refl, node, is, same)
