use Rattle.std.proofs.Common.{refl}
use Rattle.path_records.specs.declared.sides.RefutedSides.TheVariants.{Written}
use Rattle.command_edge.specs.declared.ending.Ending.TheVariants.{Done, Partial}
use Rattle.command_laws.proofs.Whole.{confirmed_whole, partial_back}
use Rattle.command_laws.proofs.laws.whole_replays_confirm_what_explore_wrote.Goals as goal

pub returns-clause-whole : goal.returns-clause-whole
returns-clause-whole c = λ hops limit net i whole outcome may report replay.
    confirmed_whole hops limit net i Done whole report (c.reports_are_read_back.ensures net i hops limit Written Done whole may report) refl
    c.exact_records_are_chains.ensures (c.chains_show_walks.ensures net i hops) (c.whole_replays_have_one_outcome.ensures net i whole) outcome replay

pub returns-clause-partial : goal.returns-clause-partial
returns-clause-partial c = λ hops limit net i ending whole line may report replay.
    partial_back hops limit net i Partial whole report (c.reports_are_read_back.ensures net i hops limit Written Partial whole may report) refl ending line replay
