use Rattle.std.proofs.Common.{◌≡◌, ◌∷◌, [], Ok, sym, ap, ◌∙◌}
use Rattle.sefl_lex.specs.declared.token.TokenKind.TheVariants.{Number}
use Rattle.sefl_lex.specs.Reads.{token_at}
use Rattle.sefl_lex.specs.Words.{is_number}
use Rattle.sefl_lex.proofs.PacketBytes.{not_text}
use Rattle.sefl_lex.proofs.PacketSpelling.{not_number, fault_says}
use Rattle.sefl_lex.proofs.packet_number.number_of.Goals as goal

pub returns-in_default-clause-not_number : goal.returns-in_default-clause-not_number
returns-in_default-clause-not_number c = λ _. not_text c.args.word.now c.in_default.ensures.cases.0

pub returns-in_err-found-clause-not_number : goal.returns-in_err-found-clause-not_number
returns-in_err-found-clause-not_number c =
    fault_says c.args.word.now c.in-Ok.text.now c.in_err-found.field-0.0 c.from_residual.result c.in-Ok.ensures.cases.0
    c.in_err-found.ensures.only_fault c.from_residual.ensures.1

pub returns-clause-not_number : goal.returns-clause-not_number
returns-clause-not_number c = λ _.
    ap is_number (sym c.in-Ok.ensures.cases.0)
    ∙ not_number c.in-Ok.text.now (Ok c.in_ok-found.found.items) c.in_ok-found.ensures.only_tokens
    (λ bad. let same : token_at Number 0 c.in-Ok.text.now ∷ [] ≡ c.in_ok-found.found.items = cc in c.in-None.ensures.none (c.deref.ensures.value ∙ sym same))
