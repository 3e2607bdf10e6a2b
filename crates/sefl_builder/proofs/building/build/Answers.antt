use Rattle.std.proofs.Common.{◌≡◌, sym, subst, ap, ◌∙◌, map, All, IfOk, rules}
use Rattle.sefl_builder.specs.Nets.{job}
use Rattle.sefl_builder.specs.Spelled.{IsMade}
use Rattle.sefl_builder.specs.Pieces.{IsPieceOf, piece, piece_words}
use Rattle.sefl_builder.proofs.Jobs.{answer_spelled}
use Rattle.sefl_builder.proofs.PiecesRead.{are_pieces, same_words}
use Rattle.sefl_builder.proofs.building.build.Goals as goal

pub found-requires : goal.found-requires
found-requires c =
    let made : c.in_ok-pieces.pieces.items ≡ map piece c.args.tokens.items = search rules in
    let same : c.deref-2.result.now ≡ map piece c.args.tokens.items = c.deref-2.ensures.value ∙ made in
    subst (All (IsPieceOf c.args.text.now)) (sym same) (are_pieces c.args.text.now c.args.tokens.items c.requires)

pub returns : goal.returns
returns c j s =
    let made : c.in_ok-pieces.pieces.items ≡ map piece c.args.tokens.items = search rules in
    let same : c.deref-2.result.now ≡ map piece c.args.tokens.items = c.deref-2.ensures.value ∙ made in
    answer_spelled c.args.text.now c.args.tokens.items j c.found.result c.requires s
    (subst (λ ws. IfOk c.found.result (IsMade (job ws))) (ap (piece_words c.args.text.now) same ∙ same_words c.args.text.now c.args.tokens.items) c.found.ensures)
