-- The one flaw of bytes that are no job's text, and the refusal that tells it.
use Rattle.std.proofs.Common.{◌≡◌, refl, ap, ◌∙◌, ℕ, List, Some, Err}
use Rattle.sefl_lex.specs.declared.fault.LexFault.{LexFault}
use Rattle.sefl_lex.specs.declared.fault.LexFault.TheVariants.{BadCharacter, BadNumber, OpenText, NoMemory as NoTokens}
use Rattle.sefl_reader.specs.Outcome.{Outcome, not_text, no_tokens, expected, too_deep, IsOutcome, IsAnswer, Tells}
use Rattle.sefl_reader.specs.declared.fault.ReadFault.{ReadFault}
use Rattle.sefl_reader.specs.declared.fault.ReadFault.TheVariants.{NotText, Lex, Expected, TooDeep, NoMemory as Unread}
use Rattle.command_runs.specs.Flaws.{Flaw, flaw_at, flaw_of, fault_of_reading, fault_of_lex}
use Rattle.command_runs.specs.Jobs.{IsOnlyFlaw, ReadFails}
use Rattle.command_edge.specs.declared.fault.InputFault.{InputFault}

only_flaw : (bytes : List ℕ) (own : Outcome) (flaw : Flaw) → flaw_of bytes own ≡ Some flaw → IsOutcome bytes own
    → ((outcome : Outcome) → IsOutcome bytes outcome → outcome ≡ own) → IsOnlyFlaw bytes flaw
only_flaw bytes own flaw has is only = record { has = (own, is, has); only = λ outcome so. ap (flaw_of bytes) (only outcome so) ∙ has }

fails_lex : (bytes : List ℕ) (fault : LexFault) → IsAnswer bytes (Err (Lex fault))
    → ((outcome : Outcome) → IsOutcome bytes outcome → Tells (Lex fault) outcome) → ReadFails bytes (fault_of_lex bytes fault)
fails_lex bytes (BadCharacter at) is only = only_flaw bytes (no_tokens (BadCharacter at)) (flaw_at bytes at 2) refl is only
fails_lex bytes (BadNumber at) is only = only_flaw bytes (no_tokens (BadNumber at)) (flaw_at bytes at 3) refl is only
fails_lex bytes (OpenText at) is only = only_flaw bytes (no_tokens (OpenText at)) (flaw_at bytes at 4) refl is only
fails_lex bytes NoTokens is only = tt

pub read_fails : (bytes : List ℕ) (fault : ReadFault) (told : InputFault) → told ≡ fault_of_reading bytes fault → IsAnswer bytes (Err fault)
    → ((outcome : Outcome) → IsOutcome bytes outcome → Tells fault outcome) → ReadFails bytes told
read_fails bytes fault told same is only = rw (same) (by fault is only)
  where
    by : (fault : ReadFault) → IsAnswer bytes (Err fault) → ((outcome : Outcome) → IsOutcome bytes outcome → Tells fault outcome) → ReadFails bytes (fault_of_reading bytes fault)
    by (NotText at) is only = only_flaw bytes (not_text at) (flaw_at bytes at 1) refl is only
    by (Lex fault) is only = fails_lex bytes fault is only
    by (Expected l c) is only = only_flaw bytes (expected l c) (record { line = l; column = c; kind = 5 }) refl is only
    by (TooDeep l) is only = only_flaw bytes (too_deep l) (record { line = l; column = 1; kind = 6 }) refl is only
    by Unread is only = tt
