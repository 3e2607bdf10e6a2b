use Rattle.std.proofs.Common.{◌≡◌, subst, string_bytes}
use Rattle.std.proofs.lemmas.Result.{err_from_is_err_and}
use Rattle.sefl_syntax.specs.NetText.{node_text}
use Rattle.sefl_syntax.specs.NetWords.{kind_text}
use Rattle.sefl_syntax.specs.Trees.{NodeTree}
use Rattle.table_files.specs.FileNodes.{IsNodeOf}
use Rattle.model_command.specs.Models.{IsModelRefusal}
use Rattle.model_command.proofs.ComesLemmas.{model_comes, no_model}
use Rattle.model_command.proofs.model.TableModelOnePiece.text.Goals as goal

pub returns-in_err-text-clause-refused : goal.returns-in_err-text-clause-refused
returns-in_err-text-clause-refused c =
    let m = c.args.self.now in
    let p = err_from_is_err_and c.from_residual.result c.from_residual.ensures.1 in
    let why = subst (λ bs. IsModelRefusal m.kind m.style m.source.name.now bs c.in_err-text.field-0.0) c.deref.ensures.value c.in_err-text.ensures.refused in
    rw (p.1, p.2) (no_model m.kind m.style m.source.name.now c.args.given.items c.in_err-text.field-0.0 why)

pub returns-clause-text : goal.returns-clause-text
returns-clause-text c =
    let m = c.args.self.now in
    let whole = string_bytes c.in_ok-text.text in
    let is = subst (λ bs. (node : NodeTree) × IsNodeOf m.kind bs m.style node × (whole ≡ node_text (kind_text m.kind) node)) c.deref.ensures.value c.in_ok-text.ensures.text in
    model_comes m.kind m.style m.source.name.now c.args.given.items whole is
