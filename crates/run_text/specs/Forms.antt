-- The parts of runs as JSON.
use Rattle.std.specs.Prelude.{ℕ, ℤ, ◌^◌, nat_lt, if◌then◌else◌, List, [], ◌∷◌, ◌++◌, map, codes, decimal, Option, None, Some}
use Rattle.serde_json.specs.Data.{Data, null, number, unsigned, string, array, object, no_members, member}
use Rattle.serde_json.specs.Find.{of_integer}
use Rattle.serde_json.specs.View.{items_of}
use Rattle.sn_width.specs.Faults.{fault_number}
use Rattle.sn_width.specs.declared.ids.NodeId.{NodeId}
use Rattle.sn_width.specs.declared.ids.NameId.{NameId}
use Rattle.sn_width.specs.declared.ids.TagId.{TagId}
use Rattle.lin_term.specs.Terms.{LinearTerm, Part}
use Rattle.sefl_syntax.specs.declared.net.Side.{Side}
use Rattle.sefl_syntax.specs.declared.net.Side.TheVariants.{Inward, Outward}
use Rattle.cell_stacks.specs.declared.cell.Cell.{Cell}
use Rattle.sefl_meaning.specs.declared.walk.Decision.{Decision}
use Rattle.sefl_meaning.specs.declared.walk.Decision.TheVariants.{Then, Else, Pass, Broken, Copy}
use Rattle.sefl_meaning.specs.declared.walk.Place.{Place}
use Rattle.sefl_meaning.specs.declared.walk.Failure.{Failure}
use Rattle.sefl_meaning.specs.declared.walk.Failure.TheVariants.{Layout, Constraint, Message}
use Rattle.sefl_meaning.specs.declared.walk.End.{End}
use Rattle.sefl_meaning.specs.declared.walk.End.TheVariants.{Stopped, Delivered, Failed, Cut}
use Rattle.net_check.specs.Network.{Network}
use Rattle.run_text.specs.Names.{node_name, meta_name, tag_name}
use Rattle.sefl_meaning.specs.Fields.{Fields}

-- a list of these values
abbrev pub list : List Data → Data
list items = array (items_of items)

-- a number from 0 on
abbrev pub count : ℕ → Data
count n = number (unsigned n)

-- an address in bits, which may be negative
abbrev pub address_data : ℤ → Data
address_data address = number (of_integer address)

-- a number of 128 bits: a number up to 2 ^ 64 - 1, and a text of its digits above
abbrev pub value_data : ℕ → Data
value_data n = if nat_lt n (2 ^ 64) then count n else string (decimal n)

-- numbers of 128 bits in order
unfoldable pub values_data : List ℕ → Data
values_data numbers = list (map value_data numbers)

-- a word, and of a Copy the number of its port in the list
abbrev pub decision_data : Decision → Data
decision_data Then = string (codes "then")
decision_data Else = string (codes "else")
decision_data Pass = string (codes "pass")
decision_data Broken = string (codes "broken")
decision_data (Copy i) = count i

-- the decisions in order
unfoldable pub decisions_data : List Decision → Data
decisions_data decisions = list (map decision_data decisions)

-- the word for a side, with a blank
abbrev pub side_text : Side → List ℕ
side_text Inward = codes "in "
side_text Outward = codes "out "

-- the side, the node's name, a point and the port
abbrev pub place_data : Network → Place → Data
place_data net p = string (side_text p.side ++ (node_name net p.node ++ (codes "." ++ decimal p.port)))

-- the places in order
unfoldable pub places_data : Network → List Place → Data
places_data net places = list (map (place_data net) places)

-- a fault of this number at the site
abbrev pub fault_data : ℕ → ℕ → Data
fault_data fault site = object (member (codes "fault") (count fault) (member (codes "site") (count site) no_members))

-- the Fail at the site, with its text
abbrev pub message_data : ℕ → List ℕ → Data
message_data site text =
    object (member (codes "fault") (count 9) (member (codes "site") (count site) (member (codes "text") (string text) no_members)))

-- a fault of the layout has its number from 1 to 7, a Constrain has 8, and a Fail 9
abbrev pub failure_data : Failure → ℕ → Data
failure_data (Layout fault) site = fault_data (fault_number fault) site
failure_data Constraint site = fault_data 8 site
failure_data (Message text) site = message_data site text

-- how a walk ends
unfoldable pub end_data : End → Data
end_data Stopped = string (codes "stopped")
end_data Delivered = string (codes "delivered")
end_data Cut = string (codes "cut")
end_data (Failed failure site) = failure_data failure site.0

-- the name of the owner, null for a global
unfoldable pub owner_data : Network → Option NodeId → Data
owner_data net None = null
owner_data net (Some node) = string (node_name net node)

-- a tag's name and an address
abbrev pub tag_data : Network → TagId × ℤ → Data
tag_data net p = list (string (tag_name net p.0) ∷ address_data p.1 ∷ [])

-- the tags in order
unfoldable pub tags_data : Network → List (TagId × ℤ) → Data
tags_data net tags = list (map (tag_data net) tags)

-- a symbol with its coefficient
abbrev pub term_part_data : Part → Data
term_part_data p = list (count p.0.0 ∷ value_data p.1 ∷ [])

-- the symbols with their coefficients, in order
unfoldable pub term_parts_data : List Part → Data
term_parts_data parts = list (map term_part_data parts)

-- what a number gives in the list of a set cell
abbrev pub number_parts : ℕ → List Data
number_parts value = value_data value ∷ []

-- what a term gives
abbrev pub term_data : LinearTerm → List Data
term_data t = value_data t.constant ∷ term_parts_data t.parts ∷ []

-- by what a value gives in the list of a set cell, behind the width
module _ {V : Type 0} (given : V → List Data) where
  -- what an unset cell gives, and a set one
  abbrev pub given_by : Option V → List Data
  given_by None = []
  given_by (Some value) = given value

  -- the width, and what the value gives
  abbrev pub cell_data : Cell V → Data
  cell_data cell = list (count cell.width ∷ given_by cell.value)

  -- the cells in order
  unfoldable pub cells_data : List (Cell V) → Data
  cells_data cells = list (map cell_data cells)

  -- an address and its cells
  unfoldable pub head_data : ℤ → List (Cell V) → Data
  head_data address cells = list (address_data address ∷ cells_data cells ∷ [])

  -- an owner, a name and their cells
  unfoldable pub meta_data : Network → Option NodeId → NameId → List (Cell V) → Data
  meta_data net owner name cells = list (owner_data net owner ∷ string (meta_name net name) ∷ cells_data cells ∷ [])

  -- the addresses in order
  unfoldable pub heads_data : List (ℤ × List (Cell V)) → Data
  heads_data heads = list (map (λ p. head_data p.0 p.1) heads)

  -- the metadata in order
  unfoldable pub metas_data : Network → List (Option NodeId × NameId × List (Cell V)) → Data
  metas_data net metas = list (map (λ p. meta_data net p.0 p.1 p.2) metas)

  -- all that a packet carries
  unfoldable pub fields_data : Network → Fields V → Data
  fields_data net fields =
      object (member (codes "heads") (heads_data fields.heads)
      (member (codes "metas") (metas_data net fields.metas)
      (member (codes "tags") (tags_data net fields.tags) no_members)))
