use Rattle.std.proofs.Common.{sym, subst}
use Rattle.std.specs.Str.{IsUtf8}
use Rattle.sefl_reader.specs.Outcome.{IsOutcome, a_job}
use Rattle.command_runs.proofs.laws.canonical_texts_are_read.Goals as goal

pub returns : goal.returns
returns c j bytes (placed, is, words, shallow) utf8 same =
    let (tokens, reads, other, are, is', shallow') = c.canonical_text_is_read.ensures j placed is words shallow in
    subst (λ b. IsOutcome b (a_job j)) (sym same) (subst IsUtf8 same utf8, tokens, reads, (other, are, is', shallow'))
