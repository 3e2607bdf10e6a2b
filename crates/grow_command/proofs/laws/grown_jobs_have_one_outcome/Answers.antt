use Rattle.grow_command.proofs.OnceLemmas.{grows_once}
use Rattle.grow_command.proofs.laws.grown_jobs_have_one_outcome.Goals as goal

pub returns : goal.returns
returns c = λ seed boxes net i a b h k.
    grows_once c.alike_records_tell_the_same.ensures c.exact_records_are_one.ensures seed boxes net i a b h k
