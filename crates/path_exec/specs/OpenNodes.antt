-- The stack of nodes that are left, as obligations.
use Rattle.std.specs.Prelude.{◌≡◌, ◌<◌, ◌≤◌, ◌⊎◌, List, [], ◌∷◌, ◌++◌, reverse}
use Rattle.std.specs.List.{AllByRecursion, flat_map}
use Rattle.exact_records.specs.Points.{IsKnown, Obligation, condition_at}
use Rattle.path_exec.specs.declared.engine.Offer.{Offer}
use Rattle.path_exec.specs.declared.engine.Offer.TheVariants.{If, Constrain, Fork}
use Rattle.path_exec.specs.declared.opening.OpenNode.{OpenNode}
use Rattle.path_exec.specs.Location.{waiting_at}
use Rattle.path_exec.specs.Views.{Views}
use Rattle.path_exec.specs.Offers.{IsNode, offer_count, obligations_left}

abbrev pub IsFork : Offer → Type 0
IsFork If = ⊥
IsFork Constrain = ⊥
IsFork (Fork copies) = Unit {0}

-- the stack with the node on top, where it has a decision left
abbrev pub IsPut : {N D : Type 0} → OpenNode N D → List (OpenNode N D) → List (OpenNode N D) → Type 0
IsPut w before after =
    ((w.taken < offer_count w.offer) × (after ≡ before ++ w ∷ [])) ⊎ ((offer_count w.offer ≤ w.taken) × (after ≡ before))

module _ {P O N D T : Type 0} (x : Views P O N D T) where
  -- what is left of a node
  abbrev pub obligations_of : OpenNode N D → List Obligation
  obligations_of w = obligations_left (waiting_at x.start (x.node_at w.node)) (x.verdict_of w.finding.value) w.taken

  -- what is left of all, that on top first
  abbrev pub all_obligations : List (OpenNode N D) → List Obligation
  all_obligations open_nodes = flat_map obligations_of (reverse open_nodes)

  -- it is a node as its offer says, with the verdict that was found
  pub record IsFound (w : OpenNode N D) : Type 0 where
    pub node : IsNode w.offer (waiting_at x.start (x.node_at w.node)).tree
    pub known : IsKnown (condition_at x.start (waiting_at x.start (x.node_at w.node))) (x.verdict_of w.finding.value)

  -- and has a decision left
  pub record IsOpenNode (w : OpenNode N D) : Type 0 where
    pub found : IsFound w
    pub left : w.taken < offer_count w.offer

  abbrev pub AreOpenNodes : List (OpenNode N D) → Type 0
  AreOpenNodes open_nodes = AllByRecursion IsOpenNode (reverse open_nodes)
