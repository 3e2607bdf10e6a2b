-- What bytes are as the text of a job.
use Rattle.std.specs.Prelude.{ℕ, suc, ◌≡◌, ◌==◌, List, [], ◌∷◌, All, take, length, slice_get, Option, None, Some, Result, Ok, Err, if◌then◌else◌}
use Rattle.std.specs.Str.{IsUtf8}
use Rattle.std.specs.Str.Lossy.{utf8_valid_len}
use Rattle.sefl_lex.specs.Reads.{IsReadAs, IsTokenOf}
use Rattle.sefl_lex.specs.declared.token.Token.{Token}
use Rattle.sefl_lex.specs.declared.fault.LexFault.{LexFault}
use Rattle.sefl_syntax.specs.Trees.{JobTree}
use Rattle.sefl_syntax.specs.Views.{job_tree}
use Rattle.sefl_syntax.specs.declared.job.Job.{Job}
use Rattle.sefl_grammar.specs.Word.{Placed, bare, AreWords, AreShallow, IsFirstDeep}
use Rattle.sefl_grammar.specs.Grammar.{IsJob, IsUnexpected}
use Rattle.sefl_grammar.specs.Words.{words_of}
use Rattle.sefl_reader.specs.declared.fault.ReadFault.{ReadFault}
use Rattle.sefl_reader.specs.declared.fault.ReadFault.TheVariants.{NotText, Lex, Expected, TooDeep, NoMemory}

-- a job, or why the bytes are none
pub data Outcome : Type 0 where
  a_job : JobTree → Outcome
  not_text : ℕ → Outcome
  no_tokens : LexFault → Outcome
  expected : ℕ → ℕ → Outcome
  too_deep : ℕ → Outcome

-- how many lines end in the bytes
abbrev pub line_ends : List ℕ → ℕ
line_ends [] = 0
line_ends (c ∷ bytes) = if c == 10 then suc (line_ends bytes) else line_ends bytes

-- how many bytes stand behind the last line's end, where this many stood before
abbrev pub in_line : ℕ → List ℕ → ℕ
in_line before [] = before
in_line before (c ∷ bytes) = in_line (if c == 10 then 0 else suc before) bytes

-- the line and the column of a byte, both counted from 1, columns in bytes
abbrev pub line_at : List ℕ → ℕ → ℕ
line_at text at = suc (line_ends (take at text))

abbrev pub column_at : List ℕ → ℕ → ℕ
column_at text at = suc (in_line 0 (take at text))

abbrev pub start_or : ℕ → Option Token → ℕ
start_or end None = end
start_or end (Some token) = token.start

-- the first byte of a token, or the end of the text behind the last one
abbrev pub start_of : List ℕ → List Token → ℕ → ℕ
start_of text tokens place = start_or (length text) (slice_get tokens place)

-- the tokens are those of the job, with at most 64 constructs open at once
abbrev pub AreTokensOf : JobTree → List ℕ → List Token → Type 0
AreTokensOf j text tokens = (placed : List Placed) × (bare placed ≡ words_of text tokens) × IsJob j placed × AreShallow placed

-- the tokens are those of a job with more, and the token at the place opens the first that is too many
abbrev pub OpensTooMany : List ℕ → List Token → ℕ → Type 0
OpensTooMany text tokens place = (j : JobTree) × (placed : List Placed) × (bare placed ≡ words_of text tokens) × IsJob j placed × IsFirstDeep placed place

-- the bytes are so
abbrev pub IsOutcome : List ℕ → Outcome → Type 0
IsOutcome bytes (a_job j) = IsUtf8 bytes × (tokens : List Token) × IsReadAs bytes (Ok tokens) × AreTokensOf j bytes tokens
IsOutcome bytes (not_text at) = ¬ (IsUtf8 bytes) × (at ≡ utf8_valid_len bytes)
IsOutcome bytes (no_tokens fault) = IsUtf8 bytes × IsReadAs bytes (Err fault)
IsOutcome bytes (expected line column) =
    IsUtf8 bytes × (tokens : List Token) × IsReadAs bytes (Ok tokens) × (place : ℕ) × IsUnexpected (words_of bytes tokens) place
    × (line ≡ line_at bytes (start_of bytes tokens place)) × (column ≡ column_at bytes (start_of bytes tokens place))
IsOutcome bytes (too_deep line) =
    IsUtf8 bytes × (tokens : List Token) × IsReadAs bytes (Ok tokens) × (place : ℕ) × OpensTooMany bytes tokens place
    × (line ≡ line_at bytes (start_of bytes tokens place))

-- the fault tells the outcome; want of memory tells none
abbrev pub Tells : ReadFault → Outcome → Type 0
Tells (NotText at) outcome = outcome ≡ not_text at
Tells (Lex fault) outcome = outcome ≡ no_tokens fault
Tells (Expected line column) outcome = outcome ≡ expected line column
Tells (TooDeep line) outcome = outcome ≡ too_deep line
Tells NoMemory outcome = Unit {0}

-- the answer is the bytes' one outcome, if it is not want of memory
abbrev pub IsAnswer : List ℕ → Result Job ReadFault → Type 0
IsAnswer bytes (Ok job) = IsOutcome bytes (a_job (job_tree job))
IsAnswer bytes (Err (NotText at)) = IsOutcome bytes (not_text at)
IsAnswer bytes (Err (Lex fault)) = IsOutcome bytes (no_tokens fault)
IsAnswer bytes (Err (Expected line column)) = IsOutcome bytes (expected line column)
IsAnswer bytes (Err (TooDeep line)) = IsOutcome bytes (too_deep line)
IsAnswer bytes (Err NoMemory) = Unit {0}

-- the outcome is that of the answer, if it is not want of memory
abbrev pub IsOf : Outcome → Result Job ReadFault → Type 0
IsOf outcome (Ok job) = outcome ≡ a_job (job_tree job)
IsOf outcome (Err fault) = Tells fault outcome

-- the text has these tokens alone
pub record Lexes (text : List ℕ) (tokens : List Token) : Type 0 where
  pub utf8 : IsUtf8 text
  pub reads : IsReadAs text (Ok tokens)
  pub only : (answer : Result (List Token) LexFault) → IsReadAs text answer → answer ≡ Ok tokens
  pub spans : All (IsTokenOf text) tokens

-- some words spell the job, with at most 64 constructs open at once
abbrev pub IsSpellable : JobTree → Type 0
IsSpellable j = (placed : List Placed) × IsJob j placed × AreWords (bare placed) × AreShallow placed
