-- The ids in what a net does: its own nodes, tags and metadata names.
use Rattle.std.specs.Prelude.{◌<◌, length, Option, None, Some}
use Rattle.std.specs.List.{AllByRecursion}
use Rattle.sn_width.specs.declared.ids.NodeId.{NodeId}
use Rattle.sefl_meaning.specs.Network.{Network}
use Rattle.sefl_meaning.specs.Carried.{Carried, Key}
use Rattle.sefl_meaning.specs.Walks.{Passage}
use Rattle.sefl_meaning.specs.Trees.{Tree, over, arrives, tests, splits, Copies, no_copies, copy_and}

module _ (net : Network) where
  abbrev pub IsNode : NodeId → Type 0
  IsNode node = node.0 < length net.own.nodes

  abbrev pub IsOwner : Option NodeId → Type 0
  IsOwner None = Unit {0}
  IsOwner (Some node) = IsNode node

  abbrev pub IsKey : Key → Type 0
  IsKey key = IsOwner key.0 × (key.1.0 < length net.names.metas)

-- the tags and the metadata that are carried are the net's
pub record CarriesOwn {V : Type 0} (net : Network) (s : Carried V) : Type 0 where
  pub tags : AllByRecursion (λ p. p.0 < length net.names.tags) s.layers.tags
  pub metas : AllByRecursion (λ p. IsKey net p.0) s.scopes

module _ {V F : Type 0} (net : Network) where
  abbrev mutual
    -- so are the ports that are arrived at, and what is carried anywhere in the tree
    pub HasOwnIds : Tree V F → Type 0
    HasOwnIds (over p end') = CarriesOwn net p.state
    HasOwnIds (arrives place p t) = IsNode net place.node × CarriesOwn net p.state × HasOwnIds t
    HasOwnIds (tests asking p test held broken) = CarriesOwn net p.state × HasOwnIds held × HasOwnIds broken
    HasOwnIds (splits p branches) = CarriesOwn net p.state × EachHasOwnIds branches

    pub EachHasOwnIds : Copies V F → Type 0
    EachHasOwnIds no_copies = Unit {0}
    EachHasOwnIds (copy_and t branches) = HasOwnIds t × EachHasOwnIds branches

-- and on a walk
pub record IsOwnWalk (net : Network) (w : Passage) : Type 0 where
  pub arrivals : AllByRecursion (λ a. IsNode net a.0.node × CarriesOwn net a.1.state) w.arrivals
  pub state : CarriesOwn net w.progress.state
