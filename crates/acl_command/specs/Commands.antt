-- The commands `model acl` and `rules`.
use Rattle.std.specs.Prelude.{ℕ, ◌≡◌, List, codes, Some, length, slice_get}
use Rattle.sefl_syntax.specs.declared.net.Style.{Style}
use Rattle.sefl_syntax.specs.declared.net.Style.TheVariants.{Chain, Grouped}
use Rattle.sefl_syntax.specs.NetText.{node_text}
use Rattle.acl_rules.specs.declared.rule.Rule.{Rule}
use Rattle.acl_rules.specs.Covers.{FateSeen, IsFate}
use Rattle.acl_rules.specs.Comparing.{IsVerdict, VerdictSeen}
use Rattle.acl_model.specs.Nodes.{acl_node}
use Rattle.command_runs.specs.Inputs.{Given}
use Rattle.command_edge.specs.Puts.{Outcome}
use Rattle.acl_command.specs.declared.model.ListStyle.{ListStyle}
use Rattle.acl_command.specs.declared.model.ListStyle.TheVariants as style
use Rattle.acl_command.specs.Lists.{ListComes}
use Rattle.acl_command.specs.BothLists.{ListsCome}
use Rattle.acl_command.specs.Texts.{rules_text}
use Rattle.acl_command.specs.VerdictTexts.{verdict_text}

abbrev pub node_style : ListStyle → Style
node_style style.Chain = Chain
node_style style.Grouped = Grouped

-- the canonical text of the list's node, which is named `acl`
abbrev pub IsNodeText : ListStyle → List Rule → List ℕ → Type 0
IsNodeText style rules whole = whole ≡ node_text (codes "acl") (acl_node (node_style style) rules)

abbrev pub AclComes : ListStyle → List ℕ → List Given → Outcome → Type 0
AclComes style name = ListComes (IsNodeText style) name

-- as many fates as rules, each that of its rule
pub record AreFates (rules : List Rule) (fates : List FateSeen) : Type 0 where
  pub as_many : length fates ≡ length rules
  pub each : (rule : ℕ) (fate : FateSeen) → slice_get fates rule ≡ Some fate → IsFate rules rule fate

abbrev pub IsRulesText : List Rule → List ℕ → Type 0
IsRulesText rules whole = (fates : List FateSeen) × AreFates rules fates × (whole ≡ rules_text fates)

abbrev pub RulesComes : List ℕ → List Given → Outcome → Type 0
RulesComes name = ListComes IsRulesText name

abbrev pub IsVerdictText : List Rule → List Rule → List ℕ → Type 0
IsVerdictText left right whole = (verdict : VerdictSeen) × IsVerdict left right verdict × (whole ≡ verdict_text verdict)

-- on two lists, of files with these names
abbrev pub BothRulesCome : List ℕ → List ℕ → List Given → Outcome → Type 0
BothRulesCome left right = ListsCome IsVerdictText left right
