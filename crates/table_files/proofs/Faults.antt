-- The first bad line of a table's bytes, by the answer of their reader.
use Rattle.std.proofs.Common.{◌≡◌, ◌∙◌, refl, sym, ap, subst, ℕ, List, Option, None, Some, Result, Ok, Err}
use Rattle.sefl_syntax.specs.declared.net.TableKind.{TableKind}
use Rattle.sefl_syntax.specs.declared.net.TableKind.TheVariants.{Mac, Fib}
use Rattle.table_lines.specs.declared.fault.TableFault.{TableFault}
use Rattle.table_lines.specs.declared.fault.TableFault.TheVariants.{BadLine, Conflict, Limit, NoMemory}
use Rattle.table_lines.specs.Reading.{Answers}
use Rattle.table_lines.specs.Tables.{TableSeen, table_of}
use Rattle.mac_model.specs.MacTables.{mac_of, mac_seen}
use Rattle.fib_model.specs.Fibs.{fib_of, fib_seen}
use Rattle.table_files.specs.FileNodes.{IsFileFault, NodesHaveNoBadLine, bad_line, file_fault, line_in, line_of}

-- the bad line of an answer, whatever a table is seen as
abbrev line_or : {A : Type 0} → Result A TableFault → Option (ℕ × ℕ)
line_or (Ok x) = None
line_or (Err fault) = line_of fault

fault_is : {A : Type 0} (kind : TableKind) (bytes : List ℕ) (read : Result A TableFault) (fault : TableFault) → line_or read ≡ bad_line kind bytes
    → Answers read (Err fault) → IsFileFault kind bytes (file_fault fault)
fault_is kind bytes read (BadLine line) same is = subst (λ o. o ≡ Some (line, 1)) same (ap line_or is)
fault_is kind bytes read (Conflict line earlier) same is = subst (λ o. o ≡ Some (line, 2)) same (ap line_or is)
fault_is kind bytes read (Limit line) same is = subst (λ o. o ≡ Some (line, 3)) same (ap line_or is)
fault_is kind bytes read NoMemory same is = tt

mac_line : (o : Result TableSeen TableFault) → line_or (mac_seen o) ≡ line_in o
mac_line (Ok table) = refl
mac_line (Err fault) = refl

fib_line : (o : Result TableSeen TableFault) → line_or (fib_seen o) ≡ line_in o
fib_line (Ok table) = refl
fib_line (Err fault) = refl

pub mac_fault : (bytes : List ℕ) (fault : TableFault) → Answers (mac_of bytes) (Err fault) → IsFileFault Mac bytes (file_fault fault)
mac_fault bytes fault is = fault_is Mac bytes (mac_of bytes) fault (mac_line (table_of Mac bytes)) is

pub fib_fault : (bytes : List ℕ) (fault : TableFault) → Answers (fib_of bytes) (Err fault) → IsFileFault Fib bytes (file_fault fault)
fib_fault bytes fault is = fault_is Fib bytes (fib_of bytes) fault (fib_line (table_of Fib bytes)) is

pub no_bad_line : NodesHaveNoBadLine
no_bad_line Mac bytes style node (mac, is, made) = sym (mac_line (table_of Mac bytes)) ∙ ap line_or is
no_bad_line Fib bytes style node (fib, is, made) = sym (fib_line (table_of Fib bytes)) ∙ ap line_or is
