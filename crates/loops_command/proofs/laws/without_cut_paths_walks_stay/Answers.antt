use Rattle.exact_records.specs.Records.{decisions_of}
use Rattle.loop_meaning.specs.Loops.{IsRight}
use Rattle.loops_command.proofs.Uncut.{all_uncut}
use Rattle.loops_command.proofs.laws.without_cut_paths_walks_stay.Goals as goal

pub returns : goal.returns
returns c = λ hops limit net i detail whole t none more least.
    (c.uncut_records_go_beyond.ensures net i hops limit t.are.records t.are.exact
    (all_uncut (λ x answer. IsRight net i hops (decisions_of x) answer) 0 t.are.records t.found none t.are.right t.are.ends) more least).walks
