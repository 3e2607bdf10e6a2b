use Rattle.std.proofs.Common.{◌∙◌, ap, eqb-true, sym}
use Rattle.std.proofs.lemmas.List.{nil_from_length}
use Rattle.sefl_syntax.specs.Views.{code_tree}
use Rattle.queries.proofs.states.is_bare.Goals as goal

pub returns : goal.returns
returns c = λ e. sym c.code_of.ensures ∙ ap code_tree (nil_from_length c.code_of.result.now (eqb-true _ _ (sym c.is_empty.ensures ∙ e)))
