use Rattle.std.proofs.Common.{arith}
use Rattle.job_names.specs.Tables.{at_text}
use Rattle.job_names.proofs.Indexing.{all_entered}
use Rattle.job_names.proofs.patterns.indexes_of.Goals as goal

pub returns : goal.returns
returns c = record {
  at = λ text.
      all_entered text (at_text c.loop-index.indexes.entries text) c.args.rows.now c.loop-index.index (omega arith) (c.loop-index.invariant text);
}
