use Rattle.std.proofs.Common.{◌∙◌, ◌++◌, ◌∷◌, []}
use Rattle.sefl_syntax.specs.Trees.{forward}
use Rattle.click_elements.specs.Codes.{mirrored_ports, swap_list}
use Rattle.click_elements.specs.declared.mirror.Swap.TheVariants.{Addresses}
use Rattle.click_elements.proofs.Codes.{ended}
use Rattle.click_elements.proofs.mirror.ip_mirror_code.Goals as goal

pub returns : goal.returns
returns c =
    ended _ _ (swap_list Addresses ++ mirrored_ports ∷ []) (forward 0) (forward 0) c.in_ok-add_forward.ensures
    (c.in_ok-add.ensures ∙ (λ i. c.in_ok-code.ensures i ++ c.in_ok-mirrored_ports.ensures i ∷ [])) (λ i. forward 0)
