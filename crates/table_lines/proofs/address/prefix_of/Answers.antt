use Rattle.std.proofs.Common.{rules, ◌≡◌, ◌∷◌, sym}
use Rattle.table_lines.specs.Pieces.{pieces}
use Rattle.table_lines.specs.declared.pieces.Separator.TheVariants.{Slash}
use Rattle.table_lines.proofs.ByteLemmas.{three_pieces}
use Rattle.table_lines.proofs.address.prefix_of.Goals as goal

pub returns-in-Some : goal.returns-in-Some
returns-in-Some c =
    let is : pieces Slash c.args.word.now ≡ c.next_piece.result.0.now ∷ pieces Slash c.in_ok-behind.field-0.now = search rules in
    let second : pieces Slash c.in_ok-behind.field-0.now ≡ c.next_piece-2.result.0.now ∷ pieces Slash c.in-Some.field-0.now = search rules in
    sym (three_pieces c.args.word.now c.next_piece.result.0.now c.in_ok-behind.field-0.now c.next_piece-2.result.0.now c.in-Some.field-0.now is second)
