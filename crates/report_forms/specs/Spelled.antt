-- Nets whose names are spelled as names.
use Rattle.std.specs.Prelude.{◌≡◌, true, ℕ, List}
use Rattle.std.specs.List.{AllByRecursion}
use Rattle.sefl_syntax.specs.Name.{is_name}
use Rattle.net_check.specs.Network.{Network}

abbrev pub IsSpelled : List ℕ → Type 0
IsSpelled name = is_name name ≡ true

-- the names of the nodes, of the metadata and of the tags
pub record AreSpelled (net : Network) : Type 0 where
  pub nodes : AllByRecursion (λ d. IsSpelled d.name) net.own.nodes
  pub metas : AllByRecursion IsSpelled net.names.metas
  pub tags : AllByRecursion IsSpelled net.names.tags
