-- The rules of a file, line by line.
use Rattle.std.specs.Prelude.{ℕ, ◌≡◌, ◌≤◌, All, nat_lt, if◌then◌else◌, List, [], ◌∷◌, ◌++◌, length, Result, Ok, Err}
use Rattle.table_lines.specs.declared.fault.TableFault.{TableFault}
use Rattle.table_lines.specs.declared.fault.TableFault.TheVariants as table
use Rattle.table_lines.specs.Lines.{lines}
use Rattle.table_lines.specs.Reading.{read_from}
use Rattle.acl_rules.specs.declared.rule.Rule.{Rule}
use Rattle.acl_rules.specs.Covers.{IsRule}
use Rattle.acl_model.specs.declared.content.Content.{Content}
use Rattle.acl_model.specs.declared.content.Content.TheVariants.{Skipped, Bad, Rule as a_rule}
use Rattle.acl_model.specs.declared.fault.AclFault.{AclFault}
use Rattle.acl_model.specs.declared.fault.AclFault.TheVariants.{BadLine, Limit, NoMemory}
use Rattle.acl_model.specs.Contents.{content_of}

-- at most 1024 rules
abbrev pub AreRules : List Rule → Type 0
AreRules rules = All IsRule rules × (length rules ≤ 1024)

-- one rule more; equal ones count too
abbrev pub added : List Rule → ℕ → Rule → Result (List Rule) TableFault
added rules line rule = if nat_lt (length rules) 1024 then Ok (rules ++ rule ∷ []) else Err (table.Limit line)

abbrev pub said : List Rule → ℕ → Content → Result (List Rule) TableFault
said rules line Skipped = Ok rules
said rules line Bad = Err (table.BadLine line)
said rules line (a_rule rule) = added rules line rule

abbrev pub step : List Rule → ℕ → List ℕ → Result (List Rule) TableFault
step rules line text = said rules line (content_of text)

-- the rules of a file, in its order, or the first line that is no rule or past the limit
abbrev pub rules_of : List ℕ → Result (List Rule) TableFault
rules_of bytes = read_from step 1 [] (lines bytes)

-- the fault of a list whose lines have this one
abbrev pub IsFaultOf : TableFault → AclFault → Type 0
IsFaultOf (table.BadLine line) fault = fault ≡ BadLine line
IsFaultOf (table.Conflict line earlier) fault = ⊥
IsFaultOf (table.Limit line) fault = fault ≡ Limit line
IsFaultOf table.NoMemory fault = fault ≡ NoMemory

-- what a call answers of a file: exactly this, or want of memory
abbrev pub Reads : List ℕ → Result (List Rule) AclFault → Type 0
Reads bytes (Ok rules) = rules_of bytes ≡ Ok rules
Reads bytes (Err (BadLine line)) = rules_of bytes ≡ Err (table.BadLine line)
Reads bytes (Err (Limit line)) = rules_of bytes ≡ Err (table.Limit line)
Reads bytes (Err NoMemory) = Unit {0}
