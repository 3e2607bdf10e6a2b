-- What a command writes of the bytes of a filter list's file.
use Rattle.std.specs.Prelude.{ℕ, ◌≡◌, List, [], ◌∷◌, Option, None, Some, Result, Ok, Err}
use Rattle.table_lines.specs.declared.fault.TableFault.{TableFault}
use Rattle.table_lines.specs.declared.fault.TableFault.TheVariants as table
use Rattle.acl_rules.specs.declared.rule.Rule.{Rule}
use Rattle.acl_model.specs.declared.fault.AclFault.{AclFault}
use Rattle.acl_model.specs.declared.fault.AclFault.TheVariants.{BadLine, Limit, NoMemory}
use Rattle.acl_model.specs.Rules.{rules_of}
use Rattle.command_runs.specs.Inputs.{Given, some_bytes}
use Rattle.command_edge.specs.Puts.{Outcome, text, refused}
use Rattle.command_edge.specs.declared.ending.Ending.TheVariants.{Done}
use Rattle.command_edge.specs.declared.fault.OwnFault.{OwnFault}
use Rattle.command_edge.specs.declared.fault.OwnFault.TheVariants.{BadTable, NoMemory as OutOfMemory}

-- the line of a fault, and the number of the rule that is broken
abbrev pub place_of : AclFault → Option (ℕ × ℕ)
place_of (BadLine line) = Some (line, 1)
place_of (Limit line) = Some (line, 3)
place_of NoMemory = None

-- the refusal that tells a fault of the file with this name
abbrev pub fault_at : List ℕ → Option (ℕ × ℕ) → OwnFault
fault_at name None = OutOfMemory
fault_at name (Some place) = BadTable name place.0 place.1

-- the first line that is no rule, with 1, or the first past the limit, with 3
abbrev pub bad_line : Result (List Rule) TableFault → Option (ℕ × ℕ)
bad_line (Ok rules) = None
bad_line (Err (table.BadLine line)) = Some (line, 1)
bad_line (Err (table.Limit line)) = Some (line, 3)
bad_line (Err fault) = None

module _ (IsText : List Rule → List ℕ → Type 0) (name : List ℕ) where
  -- a text of the rules of the file, or its first line that is bad
  abbrev pub OutcomeOf : List ℕ → Outcome → Type 0
  OutcomeOf bytes (text ending whole) = (ending ≡ Done) × (rules : List Rule) × (rules_of bytes ≡ Ok rules) × IsText rules whole
  OutcomeOf bytes (refused (BadTable own line kind)) = (own ≡ name) × (bad_line (rules_of bytes) ≡ Some (line, kind))
  OutcomeOf bytes _ = ⊥

  -- the command on a file with this name
  abbrev pub ListComes : List Given → Outcome → Type 0
  ListComes (some_bytes bytes ∷ []) outcome = OutcomeOf bytes outcome
  ListComes _ outcome = ⊥

-- why the bytes have no text
abbrev pub IsBadFile : List ℕ → List ℕ → OwnFault → Type 0
IsBadFile name bytes (BadTable own line kind) = (own ≡ name) × (bad_line (rules_of bytes) ≡ Some (line, kind))
IsBadFile name bytes OutOfMemory = Unit {0}
IsBadFile name bytes _ = ⊥
