use Rattle.std.proofs.Common.{sym, subst}
use Rattle.std.specs.Str.{IsUtf8}
use Rattle.sefl_reader.specs.Outcome.{a_job, IsOutcome}
use Rattle.sefl_reader.proofs.read.read_job.Goals as goal

pub returns-clause-read_back : goal.returns-clause-read_back
returns-clause-read_back c j (placed, is, words, shallow) utf8 same =
    let (tokens, reads, other, are, is', shallow') = c.canonical_text_is_read.ensures j placed is words shallow in
    c.read_bytes.ensures.only (a_job j) (subst (λ b. IsOutcome b (a_job j)) (sym same) (subst IsUtf8 same utf8, tokens, reads, (other, are, is', shallow')))
