use Rattle.std.proofs.Common.{◌≡◌, ◌∙◌, ◌≤◌, ◌<◌, ◌^◌, ℕ, All, map, sym, subst}
use Rattle.mac_model.specs.Nodes.{point}
use Rattle.mac_model.proofs.SetLemmas.{all_fit}
use Rattle.mac_model.proofs.sets.known.Goals as goal

pub address_set-requires : goal.address_set-requires
address_set-requires c =
    let is : c.deref.result.now ≡ map point c.args.rows.now = c.deref.ensures.value ∙ c.in_ok-points.ensures in
    subst (All (λ (pair : ℕ × ℕ). (pair.0 ≤ pair.1) × (pair.1 < 2 ^ 48))) (sym is) (all_fit c.args.rows.now c.requires)
