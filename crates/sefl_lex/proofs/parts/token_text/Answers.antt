use Rattle.sefl_lex.proofs.Ends.{starts_character, ends_character}
use Rattle.sefl_lex.proofs.parts.token_text.Goals as goal

pub range-requires-clause-start_boundary : goal.range-requires-clause-start_boundary
range-requires-clause-start_boundary c = λ _. starts_character c.args.text.now c.args.token c.requires

pub range-requires-clause-end_boundary : goal.range-requires-clause-end_boundary
range-requires-clause-end_boundary c = ends_character c.args.text.now c.args.token c.requires c.utf8.text
