-- What the name of an id is.
use Rattle.std.proofs.Common.{◌≡◌, ℕ, List, [], Bool, true, false, Option, Some, None, get_or, refl, sym, ap, ◌∙◌}
use Rattle.std.specs.Prelude.{bytes_eq, option_map, position, slice_get, unwrap_or, if◌then◌else◌}
use Rattle.std.proofs.lemmas.List.Quantifiers.{position-Some}
use Rattle.std.proofs.lemmas.Option.{unwrap_or-slice_get}
use Rattle.std.proofs.lemmas.Slice.Eq.{bytes_eq-Decides}
use Rattle.sn_width.specs.declared.ids.NodeId.{NodeId}
use Rattle.sn_width.specs.declared.ids.NameId.{NameId}
use Rattle.sn_width.specs.declared.ids.TagId.{TagId}
use Rattle.sefl_syntax.specs.Name.{is_name}
use Rattle.sefl_syntax.specs.Trees.{DeclTree, NetTree}
use Rattle.net_check.specs.Places.{node_position}
use Rattle.net_check.specs.Laws.{IsNamed}
use Rattle.net_check.specs.Network.{Network}
use Rattle.run_text.specs.Names.{node_name, meta_name, tag_name}
use Rattle.report_names.specs.Names.{node_named, meta_named, tag_named}
use Rattle.report_names.specs.Own.{IsOwnNode, IsOwnName, IsOwnTag}

-- the position of a name is that of a node that has it
abbrev pub Positions : Type 0
Positions = (net : NetTree) (name : List ℕ) (node : ℕ) → node_position net name ≡ Some node → IsNamed net node name

pub test_passes : {A : Type 0} (b : Bool) (x : Option A) (a : A) → (if b then x else None) ≡ Some a → (b ≡ true) × (x ≡ Some a)
test_passes true x a h = (refl, h)
test_passes false x a h = cc

pub node_is : Positions → (net : Network) (s : List ℕ) (node : NodeId) → node_named net s ≡ Some node.0 → node_name net node ≡ s
unfolding node_name
node_is positions net s node h =
    let named = positions net.own s node.0 (test_passes (is_name s) (node_position net.own s) node.0 h).1 in
    ap (λ o. unwrap_or (option_map (λ (d : DeclTree). d.name) o) []) named.1 ∙ named.2

listed : (names : List (List ℕ)) (s : List ℕ) (n : ℕ) → position (bytes_eq s) names ≡ Some n → unwrap_or (slice_get names n) [] ≡ s
listed names s n h =
    let found = position-Some (bytes_eq s) names n [] h in
    unwrap_or-slice_get names n [] ∙ sym ((bytes_eq-Decides s (get_or names n [])).0 found.1)

pub meta_is : (net : Network) (s : List ℕ) (name : NameId) → meta_named net s ≡ Some name.0 → meta_name net name ≡ s
unfolding meta_name
meta_is net s name h = listed net.names.metas s name.0 (test_passes (is_name s) (position (bytes_eq s) net.names.metas) name.0 h).1

pub tag_is : (net : Network) (s : List ℕ) (tag : TagId) → tag_named net s ≡ Some tag.0 → tag_name net tag ≡ s
unfolding tag_name
tag_is net s tag h = listed net.names.tags s tag.0 (test_passes (is_name s) (position (bytes_eq s) net.names.tags) tag.0 h).1

pub own_node : Positions → (net : Network) (s : List ℕ) (node : NodeId) → node_named net s ≡ Some node.0 → IsOwnNode net node
own_node positions net s node h = ap (node_named net) (node_is positions net s node h) ∙ h

pub own_name : (net : Network) (s : List ℕ) (name : NameId) → meta_named net s ≡ Some name.0 → IsOwnName net name
own_name net s name h = ap (meta_named net) (meta_is net s name h) ∙ h

pub own_tag : (net : Network) (s : List ℕ) (tag : TagId) → tag_named net s ≡ Some tag.0 → IsOwnTag net tag
own_tag net s tag h = ap (tag_named net) (tag_is net s tag h) ∙ h
