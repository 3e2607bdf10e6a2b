use Rattle.std.proofs.Common.{◌≡◌, ◌∙◌, ◌++◌, ◌∷◌, [], ap, map, rules}
use Rattle.sefl_syntax.specs.Trees.{forward}
use Rattle.sefl_syntax.specs.Views.{instr_tree}
use Rattle.table_nodes.specs.declared.field.Field.TheVariants.{FrameDestination, FrameSource, FrameType}
use Rattle.click_elements.specs.Codes.{frame_tag, new_cell}
use Rattle.click_elements.proofs.Codes.{ended}
use Rattle.click_elements.proofs.code.ether_encap_code.Goals as goal

pub returns : goal.returns
returns c =
    let empty : c.new-code.result.items ≡ [] = search rules in
    let tag : map instr_tree c.add.new.code.items ≡ frame_tag ∷ []
    = c.in_ok-add.ensures ∙ (λ i. map instr_tree (empty i) ++ c.in_ok-frame_tag.ensures i ∷ []) in
    let one = c.in_ok-add_cell.ensures ∙ ap (λ is. is ++ new_cell FrameDestination c.args.destination) tag in
    let two = c.in_ok-add_cell-2.ensures ∙ ap (λ is. is ++ new_cell FrameSource c.args.source) one in
    let three = c.in_ok-add_cell-3.ensures ∙ ap (λ is. is ++ new_cell FrameType c.args.kind) two in
    ended _ _ (frame_tag ∷ new_cell FrameDestination c.args.destination ++ new_cell FrameSource c.args.source ++ new_cell FrameType c.args.kind)
    (forward 0) (forward 0) c.in_ok-add_forward.ensures three (λ i. forward 0)
