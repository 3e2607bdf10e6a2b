-- The text of walks: compact JSON, its keys ascending, and a line feed.
use Rattle.std.specs.Prelude.{List, ◌++◌, ℕ, map, codes}
use Rattle.serde_json.specs.Data.{Data, object, no_members, member}
use Rattle.serde_json.specs.Written.{compact_text}
use Rattle.net_check.specs.Network.{Network}
use Rattle.sefl_meaning.specs.Walks.{Trail}
use Rattle.sefl_meaning.specs.Fields.{fields_of}
use Rattle.run_text.specs.Forms.{list, count, number_parts, decisions_data, places_data, end_data, fields_data}

-- a walk: what was decided, how it ended, what the packet carries then, and where it was
unfoldable pub walk_data : Network → Trail → Data
walk_data net walk =
    object (member (codes "decisions") (decisions_data walk.decisions)
    (member (codes "end") (end_data walk.end')
    (member (codes "fields") (fields_data number_parts net (fields_of walk.state))
    (member (codes "places") (places_data net walk.places) no_members))))

-- the walks in order
unfoldable pub walk_list : Network → List Trail → Data
walk_list net walks = list (map (walk_data net) walks)

-- the walks, with the version
unfoldable pub walks_data : Network → List Trail → Data
walks_data net walks =
    object (member (codes "symnet") (count 1) (member (codes "walks") (walk_list net walks) no_members))

-- the line of these walks
unfoldable pub walks_text : Network → List Trail → List ℕ
walks_text net walks = compact_text (walks_data net walks) ++ codes "\n"
