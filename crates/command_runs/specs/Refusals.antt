-- How a refusal tells the rule that a job or a table breaks.
use Rattle.std.specs.Prelude.{ℕ, List, Option, None, Some}
use Rattle.sn_width.specs.declared.ids.Site.{Site}
use Rattle.job_items.specs.declared.rule.Rule.{Rule}
use Rattle.job_items.specs.declared.rule.Rule.TheVariants.{TwiceNode, NoNode, PortRange, TwoLinks, TwiceCode, WidthMismatch, TooWide, Unbound, OutForward, EmptyFork, BadRanges, Overlap, Limit, NestedFor, BadAddress, BadPattern}
use Rattle.net_check.specs.declared.fault.AcceptFault.{AcceptFault}
use Rattle.net_check.specs.declared.fault.AcceptFault.TheVariants.{Refused as RefusedBy, NoMemory as OutOfMemory}
use Rattle.table_files.specs.declared.node.FileFault.{FileFault}
use Rattle.table_files.specs.declared.node.FileFault.TheVariants.{Bad, NoMemory as NoNode}
use Rattle.command_edge.specs.declared.fault.InputFault.{InputFault}
use Rattle.command_edge.specs.declared.fault.InputFault.TheVariants.{NoMemory, BadPattern as BadPatternAt, BadTable, Refused}

-- the number of a rule that looks at the job alone; bad patterns have a refusal of their own
abbrev pub rule_number : Rule → Option ℕ
rule_number TwiceNode = Some 1
rule_number NoNode = Some 2
rule_number PortRange = Some 3
rule_number TwoLinks = Some 4
rule_number TwiceCode = Some 5
rule_number WidthMismatch = Some 6
rule_number TooWide = Some 7
rule_number Unbound = Some 8
rule_number OutForward = Some 9
rule_number EmptyFork = Some 10
rule_number BadRanges = Some 11
rule_number Overlap = Some 12
rule_number (Limit which count) = Some 13
rule_number NestedFor = Some 14
rule_number BadAddress = Some 15
rule_number BadPattern = None

abbrev pub fault_by_number : Site → Option ℕ → InputFault
fault_by_number site (Some kind) = Refused site kind
fault_by_number site None = BadPatternAt site

-- of a job that is refused at the site by the rule
abbrev pub fault_by_rule : Site → Rule → InputFault
fault_by_rule site rule = fault_by_number site (rule_number rule)

-- the refusal that tells why a job was not accepted
abbrev pub fault_of_refusal : AcceptFault → InputFault
fault_of_refusal (RefusedBy site rule) = fault_by_rule site rule
fault_of_refusal OutOfMemory = NoMemory

-- the refusal that tells why the file under the name gives no node
abbrev pub fault_of_table : List ℕ → FileFault → InputFault
fault_of_table name (Bad line rule) = BadTable name line rule
fault_of_table name NoNode = NoMemory
