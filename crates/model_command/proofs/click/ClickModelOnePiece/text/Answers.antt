use Rattle.std.proofs.Common.{◌≡◌, subst, string_bytes}
use Rattle.std.proofs.lemmas.Result.{err_from_is_err_and}
use Rattle.command_edge.specs.Puts.{text}
use Rattle.command_edge.specs.declared.ending.Ending.TheVariants.{Done}
use Rattle.click_model.specs.Configs.{click_of}
use Rattle.model_command.specs.ClickModels.{IsClickRefusal, model_of}
use Rattle.model_command.proofs.click.ClickModelOnePiece.text.Goals as goal

pub returns-in_err-text-clause-refused : goal.returns-in_err-text-clause-refused
returns-in_err-text-clause-refused c =
    let name = c.args.self.now.source.name.now in
    let p = err_from_is_err_and c.from_residual.result c.from_residual.ensures.1 in
    let why = subst (λ bs. IsClickRefusal name bs c.in_err-text.field-0.0) c.deref.ensures.value c.in_err-text.ensures.refused in
    rw (p.1, p.2) why

pub returns-clause-text : goal.returns-clause-text
returns-clause-text c =
    let name = c.args.self.now.source.name.now in
    subst (λ bs. text Done (string_bytes c.in_ok-text.text) ≡ model_of name (click_of bs)) c.deref.ensures.value c.in_ok-text.ensures.text
