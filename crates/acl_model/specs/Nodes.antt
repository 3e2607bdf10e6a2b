-- The node that a filter list stands for, in two styles.
use Rattle.std.specs.Prelude.{Bool, true, false, not, codes, if◌then◌else◌, List, [], ◌∷◌, ◌++◌, map}
use Rattle.sefl_syntax.specs.declared.net.Style.{Style}
use Rattle.sefl_syntax.specs.declared.net.Style.TheVariants.{Chain, Grouped, Egress}
use Rattle.sefl_syntax.specs.Trees.{reading, CondTree, member, all_of, any_of, InstrTree, fail, branch, forward, CodeTree, no_code, NodeTree}
use Rattle.sefl_syntax.specs.Views.{code_of, conds_of}
use Rattle.table_nodes.specs.declared.field.Field.{Field}
use Rattle.table_nodes.specs.declared.field.Field.TheVariants.{Protocol, SourceAddress, DestinationAddress, SourcePort, DestinationPort}
use Rattle.table_nodes.specs.Fields.{cell}
use Rattle.table_nodes.specs.TableNodes.{alone, in_code, node_with}
use Rattle.acl_rules.specs.declared.rule.Rule.{Rule}
use Rattle.acl_rules.specs.Packets.{Range}

-- the fields of a rule, in their order
abbrev pub fields : List Field
fields = Protocol ∷ SourceAddress ∷ DestinationAddress ∷ SourcePort ∷ DestinationPort ∷ []

-- the value of the field lies in the range
abbrev pub range_test : Field → Range → CondTree
range_test field range = member (reading (cell field)) (range ∷ [])

abbrev pub range_tests : List Field → List Range → List CondTree
range_tests [] rs = []
range_tests (f ∷ fs) [] = []
range_tests (f ∷ fs) (r ∷ rs) = range_test f r ∷ range_tests fs rs

-- all five
abbrev pub rule_test : Rule → CondTree
rule_test rule = all_of (conds_of (range_tests fields rule.ranges))

abbrev pub denial : InstrTree
denial = fail (codes "denied")

abbrev pub denied : CodeTree
denied = alone denial

abbrev pub action_code : Bool → CodeTree
action_code permits = if permits then alone (forward 0) else denied

-- what is done with the packets that pass a test
abbrev pub decision : Bool → CondTree → InstrTree
decision permits test = branch test (action_code permits) no_code

-- ---- style chain: one rule after another

abbrev pub rule_decision : Rule → InstrTree
rule_decision rule = decision rule.permits (rule_test rule)

-- ---- style grouped: one decision for each longest run of rules with one action

abbrev pub is_same : Bool → Bool → Bool
is_same true other = other
is_same false other = not other

-- one test, or one of several
abbrev pub one_of : List CondTree → CondTree
one_of [] = any_of (conds_of [])
one_of (test ∷ []) = test
one_of (test ∷ next ∷ tests) = any_of (conds_of (test ∷ next ∷ tests))

-- the run of this action that has these tests so far, and then the rules
abbrev pub runs_from : Bool → List CondTree → List Rule → List InstrTree
runs_from permits tests [] = decision permits (one_of tests) ∷ []
runs_from permits tests (rule ∷ rules) =
    if is_same permits rule.permits then runs_from permits (tests ++ rule_test rule ∷ []) rules
    else decision permits (one_of tests) ∷ runs_from rule.permits (rule_test rule ∷ []) rules

abbrev pub run_decisions : List Rule → List InstrTree
run_decisions [] = []
run_decisions (rule ∷ rules) = runs_from rule.permits (rule_test rule ∷ []) rules

-- ---- the node; a list has none in style egress

abbrev pub decisions : Style → List Rule → List InstrTree
decisions Chain rules = map rule_decision rules
decisions Grouped rules = run_decisions rules
decisions Egress rules = []

-- what no rule contains is denied
abbrev pub acl_code : Style → List Rule → CodeTree
acl_code style rules = code_of (decisions style rules ++ denial ∷ [])

abbrev pub acl_node : Style → List Rule → NodeTree
acl_node style rules = node_with 1 (in_code (acl_code style rules) ∷ [])
