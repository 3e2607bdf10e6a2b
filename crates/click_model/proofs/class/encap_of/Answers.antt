use Rattle.std.proofs.Common.{◌≡◌, sym, rules, ◌∷◌}
use Rattle.table_lines.specs.declared.pieces.Separator.TheVariants.{Comma}
use Rattle.table_lines.specs.Pieces.{pieces}
use Rattle.click_model.proofs.Pieces.{too_many}
use Rattle.click_model.proofs.class.encap_of.Goals as goal

pub returns-in-Some : goal.returns-in-Some
returns-in-Some c =
    let one : pieces Comma c.args.text.now ≡ c.next_piece.result.0.now ∷ pieces Comma c.in_ok-behind.field-0.now = search rules in
    let two : pieces Comma c.in_ok-behind.field-0.now ≡ c.next_piece-2.result.0.now ∷ pieces Comma c.in_ok-behind-2.field-0.now = search rules in
    let three : pieces Comma c.in_ok-behind-2.field-0.now ≡ c.next_piece-3.result.0.now ∷ pieces Comma c.in-Some.field-0.now = search rules in
    sym (too_many c.args.text.now c.next_piece.result.0.now c.in_ok-behind.field-0.now c.next_piece-2.result.0.now c.in_ok-behind-2.field-0.now
    c.next_piece-3.result.0.now c.in-Some.field-0.now one two three)
