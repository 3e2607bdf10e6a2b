-- Where the text of a job is wrong, and by what kind.
use Rattle.std.specs.Prelude.{ℕ, ◌≡◌, List, Option, None, Some}
use Rattle.sefl_lex.specs.declared.fault.LexFault.{LexFault}
use Rattle.sefl_lex.specs.declared.fault.LexFault.TheVariants.{BadCharacter, BadNumber, OpenText, NoMemory}
use Rattle.sefl_reader.specs.Outcome.{Outcome, a_job, not_text, no_tokens, expected, too_deep, IsOutcome, line_at, column_at}
use Rattle.sefl_reader.specs.declared.fault.ReadFault.{ReadFault}
use Rattle.sefl_reader.specs.declared.fault.ReadFault.TheVariants.{NotText, Lex, Expected, TooDeep, NoMemory as OutOfMemory}
use Rattle.command_edge.specs.declared.fault.InputFault.{InputFault}
use Rattle.command_edge.specs.declared.fault.InputFault.TheVariants.{Syntax, NoMemory as Unread}

-- a place, its line and column counted from 1, and what is wrong there
pub record Flaw : Type 0 where
  pub line : ℕ
  pub column : ℕ
  pub kind : ℕ

-- a flaw of this kind at a byte
abbrev pub flaw_at : List ℕ → ℕ → ℕ → Flaw
flaw_at bytes at kind = record { line = line_at bytes at; column = column_at bytes at; kind = kind }

-- 2 to 4: a character, a number or a text that is no token
abbrev pub lex_flaw : List ℕ → LexFault → Option Flaw
lex_flaw bytes (BadCharacter at) = Some (flaw_at bytes at 2)
lex_flaw bytes (BadNumber at) = Some (flaw_at bytes at 3)
lex_flaw bytes (OpenText at) = Some (flaw_at bytes at 4)
lex_flaw bytes NoMemory = None

-- 1: bytes that are no text; 5: what no job has there; 6: too many constructs open at once, for which the line alone is told
abbrev pub flaw_of : List ℕ → Outcome → Option Flaw
flaw_of bytes (a_job j) = None
flaw_of bytes (not_text at) = Some (flaw_at bytes at 1)
flaw_of bytes (no_tokens fault) = lex_flaw bytes fault
flaw_of bytes (expected line column) = Some (record { line = line; column = column; kind = 5 })
flaw_of bytes (too_deep line) = Some (record { line = line; column = 1; kind = 6 })

-- the bytes are the text of no job, for this flaw
abbrev pub HasFlaw : List ℕ → Flaw → Type 0
HasFlaw bytes flaw = (outcome : Outcome) × IsOutcome bytes outcome × (flaw_of bytes outcome ≡ Some flaw)

-- the refusal that tells a flaw
abbrev pub syntax : Flaw → InputFault
syntax flaw = Syntax flaw.line flaw.column flaw.kind

-- the refusal that tells a lexer's fault
abbrev pub fault_of_lex : List ℕ → LexFault → InputFault
fault_of_lex bytes (BadCharacter at) = syntax (flaw_at bytes at 2)
fault_of_lex bytes (BadNumber at) = syntax (flaw_at bytes at 3)
fault_of_lex bytes (OpenText at) = syntax (flaw_at bytes at 4)
fault_of_lex bytes NoMemory = Unread

-- the refusal that tells why the bytes were not read
abbrev pub fault_of_reading : List ℕ → ReadFault → InputFault
fault_of_reading bytes (NotText at) = syntax (flaw_at bytes at 1)
fault_of_reading bytes (Lex fault) = fault_of_lex bytes fault
fault_of_reading bytes (Expected line column) = Syntax line column 5
fault_of_reading bytes (TooDeep line) = Syntax line 1 6
fault_of_reading bytes OutOfMemory = Unread
