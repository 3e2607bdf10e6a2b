use Rattle.std.proofs.Common.{rules, ◌≡◌, ◌∙◌, [], ◌∷◌, sym, ap, length}
use Rattle.std.proofs.lemmas.List.{nil_from_length}
use Rattle.table_lines.proofs.FirstPiece.{first_piece, front, behind, pieces_behind}
use Rattle.table_lines.proofs.pieces.next_piece.Goals as goal

pub returns-in-Some-clause-more : goal.returns-in-Some-clause-more
returns-in-Some-clause-more c =
    let by = c.args.separator in
    let first : c.split_at.result.0.now ≡ front by c.args.bytes.now = cc in
    let left : c.split_at.result.1.now ≡ behind by c.args.bytes.now = cc in
    let is : c.split_at.result.1.now ≡ c.in-Some.field-0-0.now ∷ c.in-Some.rest.now = search rules in
    first_piece by c.args.bytes.now ∙ (λ i. sym first i ∷ pieces_behind by (sym left i)) ∙ ap (λ xs. c.split_at.result.0.now ∷ pieces_behind by xs) is

pub returns-in-None-clause-last : goal.returns-in-None-clause-last
returns-in-None-clause-last c =
    let by = c.args.separator in
    let first : c.split_at.result.0.now ≡ front by c.args.bytes.now = cc in
    let left : c.split_at.result.1.now ≡ behind by c.args.bytes.now = cc in
    let none : length c.split_at.result.1.now ≡ 0 = search rules in
    let is : c.split_at.result.1.now ≡ [] = nil_from_length c.split_at.result.1.now none in
    first_piece by c.args.bytes.now ∙ (λ i. sym first i ∷ pieces_behind by (sym left i)) ∙ ap (λ xs. c.split_at.result.0.now ∷ pieces_behind by xs) is
