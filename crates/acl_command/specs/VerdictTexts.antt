-- The text of a verdict on two lists: compact JSON, its keys ascending, and a line feed.
use Rattle.std.specs.Prelude.{ℕ, ◌-◌, nat_lt, Bool, true, false, if◌then◌else◌, List, [], ◌∷◌, ◌++◌, map, codes, Option, None, Some}
use Rattle.serde_json.specs.Data.{Data, null, string, object, no_members, member}
use Rattle.serde_json.specs.Written.{compact_text}
use Rattle.run_text.specs.Forms.{list, count}
use Rattle.acl_rules.specs.Packets.{Range}
use Rattle.acl_rules.specs.Comparing.{Joint, VerdictSeen, same, other}
use Rattle.acl_rules.specs.declared.cover.Cover.{Cover}
use Rattle.acl_rules.specs.declared.cover.Cover.TheVariants.{Inside, Cut}
use Rattle.acl_rules.specs.declared.side.Side.{Side}
use Rattle.acl_command.specs.Texts.{packet_data}

-- a rule of a list
abbrev pub inside_data : List ℕ → ℕ → Data
inside_data word rule = list (string word ∷ count rule ∷ [])

-- a rule of the left list, or one of the right one, whose numbers begin behind those of this many left ones; or a cut
abbrev pub joint_step_data : ℕ → Cover → Data
joint_step_data left (Inside rule) =
    if nat_lt rule left then inside_data (codes "left") rule else inside_data (codes "right") (rule - left)
joint_step_data left (Cut field at) = list (string (codes "cut") ∷ count field ∷ count at ∷ [])

unfoldable pub joint_steps_data : ℕ → List Cover → Data
joint_steps_data left steps = list (map (joint_step_data left) steps)

abbrev pub range_data : Range → Data
range_data range = list (count range.0 ∷ count range.1 ∷ [])

unfoldable pub ranges_data : List Range → Data
ranges_data ranges = list (map range_data ranges)

-- the steps, how many rules of each list they may name, and the box that they cover
abbrev pub joint_data : Joint → Data
joint_data joint =
    object (member (codes "cover") (joint_steps_data joint.left joint.steps)
    (member (codes "left") (count joint.left)
    (member (codes "ranges") (ranges_data joint.part)
    (member (codes "right") (count joint.right) no_members))))

unfoldable pub joints_data : List Joint → Data
joints_data joints = list (map joint_data joints)

abbrev pub action_of : Bool → List ℕ
action_of true = codes "permit"
action_of false = codes "deny"

abbrev pub rule_data : Option ℕ → Data
rule_data None = null
rule_data (Some rule) = count rule

-- what becomes of the packet in a list, and the rule that says so
abbrev pub side_data : Side → Data
side_data side =
    object (member (codes "action") (string (action_of side.permits)) (member (codes "rule") (rule_data side.rule) no_members))

abbrev pub same_data : List Joint → Data
same_data joints =
    object (member (codes "answer") (string (codes "same"))
    (member (codes "covers") (joints_data joints)
    (member (codes "symnet") (count 1) no_members)))

abbrev pub other_data : List ℕ → Side → Side → Data
other_data values left right =
    object (member (codes "answer") (string (codes "other"))
    (member (codes "left") (side_data left)
    (member (codes "right") (side_data right)
    (member (codes "symnet") (count 1)
    (member (codes "values") (packet_data values) no_members)))))

abbrev pub verdict_data : VerdictSeen → Data
verdict_data (same joints) = same_data joints
verdict_data (other values left right) = other_data values left right

unfoldable pub verdict_text : VerdictSeen → List ℕ
verdict_text verdict = compact_text (verdict_data verdict) ++ codes "\n"
