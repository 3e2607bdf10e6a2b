use Rattle.loops_command.proofs.Endless.{all_round}
use Rattle.loops_command.proofs.laws.loops_of_packets_are_for_ever.Goals as goal

pub returns : goal.returns
returns c = λ hops limit net i detail ending whole t.
    all_round net i hops (c.a_cut_path_arrives.ensures net i hops) t.are.exact.start t.are.exact.explored 0 t.are.records t.found t.are.exact.exact.good
    t.are.exact.packets t.are.right
