use Rattle.std.proofs.Common.{rules, ◌≡◌, ◌∙◌, [], ◌∷◌, sym, ap}
use Rattle.table_lines.specs.declared.pieces.Separator.TheVariants.{LineFeed}
use Rattle.table_lines.specs.Pieces.{pieces}
use Rattle.table_lines.specs.Lines.{lines}
use Rattle.table_lines.proofs.FirstLine.{line_and_more, line_alone}
use Rattle.table_lines.proofs.lines.next_line.Goals as goal

pub returns-in-Some-clause-more : goal.returns-in-Some-clause-more
returns-in-Some-clause-more c =
    let is : pieces LineFeed c.args.bytes.now ≡ c.next_piece.result.0.now ∷ pieces LineFeed c.in-Some.rest.now = search rules in
    line_and_more c.args.bytes.now c.next_piece.result.0.now c.in-Some.rest.now is
    ∙ ap (λ xs. xs ∷ lines c.in-Some.rest.now) (sym c.without_return.ensures)

pub returns-in-None-clause-last : goal.returns-in-None-clause-last
returns-in-None-clause-last c =
    let is : pieces LineFeed c.args.bytes.now ≡ c.next_piece.result.0.now ∷ [] = search rules in
    line_alone c.args.bytes.now c.next_piece.result.0.now is
