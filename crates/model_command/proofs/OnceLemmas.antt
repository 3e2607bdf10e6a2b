-- What `model` comes to is one thing.
use Rattle.std.proofs.Common.{◌≡◌, ◌∙◌, sym, ap, ℕ, List}
use Rattle.std.proofs.lemmas.Option.{none-some, same_Some}
use Rattle.sefl_syntax.specs.declared.net.Style.{Style}
use Rattle.sefl_syntax.specs.declared.net.TableKind.{TableKind}
use Rattle.sefl_syntax.specs.NetText.{node_text}
use Rattle.sefl_syntax.specs.NetWords.{kind_text}
use Rattle.table_files.specs.FileNodes.{FilesHaveOneNode, NodesHaveNoBadLine}
use Rattle.command_edge.specs.Puts.{Outcome, text, refused}
use Rattle.command_edge.specs.declared.fault.OwnFault.TheVariants.{BadTable}
use Rattle.model_command.specs.Models.{ModelOf}

module _ (kind : TableKind) (style : Style) (name bytes : List ℕ) (one : FilesHaveOneNode) (no_bad : NodesHaveNoBadLine) where
  pub models_once : (a b : Outcome) → ModelOf kind style name bytes a → ModelOf kind style name bytes b → a ≡ b
  models_once (text e w) (text e' w') (done, node, is, whole) (done', node', is', whole') =
      let ends = done ∙ sym done' in
      let texts = whole ∙ (ap (node_text (kind_text kind)) (one kind bytes style node node' is is') ∙ sym whole') in
      λ i. text (ends i) (texts i)
  models_once (text e w) (refused (BadTable own line rule)) (done, node, is, whole) k =
      absurd (none-some (line, rule) (sym (no_bad kind bytes style node is) ∙ k.1))
  models_once (text e w) (refused f) h k = absurd k
  models_once (refused (BadTable own line rule)) (text e w) h (done, node, is, whole) =
      absurd (none-some (line, rule) (sym (no_bad kind bytes style node is) ∙ h.1))
  models_once (refused (BadTable own line rule)) (refused (BadTable other at number)) h k =
      let names = h.0 ∙ sym k.0 in
      let lines : ◌≡◌ {A = ℕ × ℕ} (line, rule) (at, number) = same_Some (line, rule) (at, number) (sym h.1 ∙ k.1) in
      λ i. refused (BadTable (names i) (lines i).0 (lines i).1)
  models_once (refused (BadTable own line rule)) (refused f) h k = absurd k
  models_once (refused f) b h k = absurd h
