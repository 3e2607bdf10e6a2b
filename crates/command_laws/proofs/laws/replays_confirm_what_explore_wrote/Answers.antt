use Rattle.path_records.specs.declared.sides.RefutedSides.TheVariants.{Written}
use Rattle.command_laws.proofs.Confirmed.{confirmed_back}
use Rattle.command_laws.proofs.laws.replays_confirm_what_explore_wrote.Goals as goal

pub returns : goal.returns
returns c = λ hops limit net i ending whole outcome may report replay.
    confirmed_back c.one_answer_for_a_net.ensures hops limit net i ending whole report
    (c.reports_are_read_back.ensures net i hops limit Written ending whole may report) outcome replay
