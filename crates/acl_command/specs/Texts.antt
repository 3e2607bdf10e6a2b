-- The text of fates: compact JSON, its keys ascending, and a line feed.
use Rattle.std.specs.Prelude.{ℕ, List, [], ◌∷◌, ◌++◌, map, codes}
use Rattle.serde_json.specs.Data.{Data, string, object, no_members, member}
use Rattle.serde_json.specs.Written.{compact_text}
use Rattle.run_text.specs.Forms.{list, count}
use Rattle.acl_rules.specs.declared.cover.Cover.{Cover}
use Rattle.acl_rules.specs.declared.cover.Cover.TheVariants.{Inside, Cut}
use Rattle.acl_rules.specs.Covers.{FateSeen, decides, hidden}

-- the earlier rule of this number; or a field with the value at which its range is cut
abbrev pub step_data : Cover → Data
step_data (Inside rule) = list (string (codes "inside") ∷ count rule ∷ [])
step_data (Cut field at) = list (string (codes "cut") ∷ count field ∷ count at ∷ [])

unfoldable pub cover_data : List Cover → Data
cover_data steps = list (map step_data steps)

unfoldable pub packet_data : List ℕ → Data
packet_data values = list (map count values)

-- a packet that the rule decides, or a cover of it
abbrev pub fate_data : FateSeen → Data
fate_data (decides values) =
    object (member (codes "rule") (string (codes "decides")) (member (codes "values") (packet_data values) no_members))
fate_data (hidden cover) =
    object (member (codes "cover") (cover_data cover) (member (codes "rule") (string (codes "hidden")) no_members))

-- of each rule, in order
unfoldable pub fates_data : List FateSeen → Data
fates_data fates = list (map fate_data fates)

-- with the version
unfoldable pub rules_data : List FateSeen → Data
rules_data fates = object (member (codes "rules") (fates_data fates) (member (codes "symnet") (count 1) no_members))

unfoldable pub rules_text : List FateSeen → List ℕ
rules_text fates = compact_text (rules_data fates) ++ codes "\n"
