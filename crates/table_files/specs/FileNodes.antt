-- The node that the bytes of a table's file give, and the line for which they give none.
use Rattle.std.specs.Prelude.{ℕ, ◌≡◌, List, Option, None, Some, Result, Ok, Err}
use Rattle.sefl_syntax.specs.declared.net.Style.{Style}
use Rattle.sefl_syntax.specs.declared.net.TableKind.{TableKind}
use Rattle.sefl_syntax.specs.declared.net.TableKind.TheVariants.{Mac, Fib}
use Rattle.sefl_syntax.specs.Trees.{NodeTree}
use Rattle.table_lines.specs.declared.fault.TableFault.{TableFault}
use Rattle.table_lines.specs.declared.fault.TableFault.TheVariants.{BadLine, Conflict, Limit, NoMemory}
use Rattle.table_lines.specs.Tables.{TableSeen, table_of}
use Rattle.mac_model.specs.MacTables.{MacSeen, mac_of}
use Rattle.mac_model.specs.Nodes.{IsMacNode}
use Rattle.fib_model.specs.Fibs.{FibSeen, fib_of}
use Rattle.fib_model.specs.Nodes.{IsFibNode}
use Rattle.table_files.specs.declared.node.FileFault.{FileFault}
use Rattle.table_files.specs.declared.node.FileFault.TheVariants.{Bad, NoMemory as OutOfMemory}

-- the bytes are those of a table, and this is its node in the style
abbrev pub IsNodeOf : TableKind → List ℕ → Style → NodeTree → Type 0
IsNodeOf Mac bytes style node = (table : MacSeen) × (mac_of bytes ≡ Ok table) × IsMacNode table style node
IsNodeOf Fib bytes style node = (table : FibSeen) × (fib_of bytes ≡ Ok table) × IsFibNode table style node

-- a line and its kind: 1 is no row, 2 contradicts an earlier row, 3 is the first row past the limit
abbrev pub line_of : TableFault → Option (ℕ × ℕ)
line_of (BadLine line) = Some (line, 1)
line_of (Conflict line earlier) = Some (line, 2)
line_of (Limit line) = Some (line, 3)
line_of NoMemory = None

abbrev pub line_in : Result TableSeen TableFault → Option (ℕ × ℕ)
line_in (Ok table) = None
line_in (Err fault) = line_of fault

-- the first line that breaks a rule, and the kind of the first rule that it breaks
abbrev pub bad_line : TableKind → List ℕ → Option (ℕ × ℕ)
bad_line kind bytes = line_in (table_of kind bytes)

-- why the bytes give no node
abbrev pub IsFileFault : TableKind → List ℕ → FileFault → Type 0
IsFileFault kind bytes (Bad line rule) = bad_line kind bytes ≡ Some (line, rule)
IsFileFault kind bytes OutOfMemory = Unit {0}

-- the fault that tells why a table is refused
abbrev pub file_fault : TableFault → FileFault
file_fault (BadLine line) = Bad line 1
file_fault (Conflict line earlier) = Bad line 2
file_fault (Limit line) = Bad line 3
file_fault NoMemory = OutOfMemory

-- the bytes of a table have one node in a style
abbrev pub FilesHaveOneNode : Type 0
FilesHaveOneNode = (kind : TableKind) (bytes : List ℕ) (style : Style) (a b : NodeTree) → IsNodeOf kind bytes style a → IsNodeOf kind bytes style b → a ≡ b

-- and no line of them breaks a rule
abbrev pub NodesHaveNoBadLine : Type 0
NodesHaveNoBadLine = (kind : TableKind) (bytes : List ℕ) (style : Style) (node : NodeTree) → IsNodeOf kind bytes style node → bad_line kind bytes ≡ None
