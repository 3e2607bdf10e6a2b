use Rattle.loops_command.proofs.OnceLemmas.{loops_once, verdicts_of}
use Rattle.loops_command.proofs.laws.loops_have_one_outcome.Goals as goal

pub returns : goal.returns
returns c = λ hops limit net i detail a b h k.
    loops_once (verdicts_of c.verdicts_are_one.ensures.one c.verdicts_are_one.ensures.unrefuted) c.a_cut_path_arrives.ensures c.exact_records_are_one.ensures
    c.explorations_have_one_ending.ensures hops limit net i detail a b h k
