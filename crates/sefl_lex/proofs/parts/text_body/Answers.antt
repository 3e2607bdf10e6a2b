use Rattle.std.proofs.Common.{ℕ, List, [], ◌∷◌, ◌++◌, ◌∙◌, sym, ap}
use Rattle.sefl_lex.proofs.Ends.{body_starts_character, body_ends_character, body_is}
use Rattle.sefl_lex.proofs.parts.text_body.Goals as goal

pub range-requires-clause-start_boundary : goal.range-requires-clause-start_boundary
range-requires-clause-start_boundary c = λ _. body_starts_character c.args.text.now c.args.token c.requires.token c.utf8.text

pub range-requires-clause-end_boundary : goal.range-requires-clause-end_boundary
range-requires-clause-end_boundary c = body_ends_character c.args.text.now c.args.token c.requires.token

pub returns : goal.returns
returns c =
    body_is c.args.text.now c.args.token c.requires.token c.requires.text
    ∙ ap (λ (l : List ℕ). 34 ∷ (l ++ 34 ∷ [])) (sym c.range.ensures.value)
