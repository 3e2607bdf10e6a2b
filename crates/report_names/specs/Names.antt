-- The texts that a net knows: names of its nodes, metadata and tags, and its places.
use Rattle.std.specs.Prelude.{ℕ, ◌^◌, ◌==◌, ◌&&◌, List, [], ◌∷◌, Bool, false, codes, decimal, bytes_eq, nat_lt, if◌then◌else◌, Option, Some, None, option_map, is_some, position}
use Rattle.std.specs.Str.Parse.{digits_value}
use Rattle.sefl_syntax.specs.Name.{is_name}
use Rattle.sefl_syntax.specs.declared.net.Side.{Side}
use Rattle.sefl_syntax.specs.declared.net.Side.TheVariants.{Inward, Outward}
use Rattle.sefl_meaning.specs.declared.walk.Place.{Place}
use Rattle.net_check.specs.Places.{node_position}
use Rattle.net_check.specs.Network.{Network}
use Rattle.report_shape.specs.declared.part.Part.{Part}
use Rattle.report_shape.specs.declared.part.Part.TheVariants as part

-- the number of the node with this name
abbrev pub node_named : Network → List ℕ → Option ℕ
node_named net s = if is_name s then node_position net.own s else None

-- the number of this name of metadata
abbrev pub meta_named : Network → List ℕ → Option ℕ
meta_named net s = if is_name s then position (bytes_eq s) net.names.metas else None

-- the number of this name of a tag
abbrev pub tag_named : Network → List ℕ → Option ℕ
tag_named net s = if is_name s then position (bytes_eq s) net.names.tags else None

-- what stands before the first such byte, and behind it
abbrev pub halves : ℕ → List ℕ → Option (List ℕ × List ℕ)
halves c [] = None
halves c (b ∷ bs) = if b == c then Some ([], bs) else option_map (λ (p : List ℕ × List ℕ). (b ∷ p.0, p.1)) (halves c bs)

abbrev pub side_named : List ℕ → Option Side
side_named s = if bytes_eq s (codes "in") then Some Inward else (if bytes_eq s (codes "out") then Some Outward else None)

-- a number of 32 bits, in decimal and with no leading zero
abbrev pub port_of : List ℕ → Option ℕ
port_of s = if nat_lt (digits_value 10 s) (2 ^ 32) && bytes_eq (decimal (digits_value 10 s)) s then Some (digits_value 10 s) else None

abbrev pub placed : Option Side → Option ℕ → Option ℕ → Option Place
placed None id port = None
placed (Some side) None port = None
placed (Some side) (Some id) None = None
placed (Some side) (Some id) (Some port) = Some (record { node = record { 0 = id }; side = side; port = port })

-- a side and a port of a node, by the texts before and behind the blank and the point
abbrev pub placed_by : Network → List ℕ → Option (List ℕ × List ℕ) → Option Place
placed_by net side None = None
placed_by net side (Some names) = placed (side_named side) (node_named net names.0) (port_of names.1)

abbrev pub place_by : Network → Option (List ℕ × List ℕ) → Option Place
place_by net None = None
place_by net (Some parts) = placed_by net parts.0 (halves 46 parts.1)

-- the place of such a text: a side, a blank, the name of a node, a point and a port
unfoldable pub place_named : Network → List ℕ → Option Place
place_named net s = place_by net (halves 32 s)

-- the texts that are known for each part
abbrev pub knows : Network → Part → List ℕ → Bool
knows net part.Place s = is_some (place_named net s)
knows net part.Owner s = is_some (node_named net s)
knows net part.MetaName s = is_some (meta_named net s)
knows net part.TagName s = is_some (tag_named net s)
knows net p s = false
