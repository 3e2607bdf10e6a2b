use Rattle.command_runs.specs.Outside.{outside}
use Rattle.command_edge.specs.declared.ending.Ending.TheVariants.{Done, Partial}
use Rattle.symnet_program.proofs.RunLemmas.{run_caused, run_told, run_written}
use Rattle.symnet_program.proofs.laws.runs_tell.Goals as goal

pub returns-clause-cause : goal.returns-clause-cause
returns-clause-cause g c u v said status part ran =
    run_caused (outside g.F.Folder.told g.F.Folder.load_gives g.P.Patterns.told g.P.Patterns.find_gives) u v said status part ran

pub returns-clause-written : goal.returns-clause-written
returns-clause-written g c u v said status part ran =
    run_written (outside g.F.Folder.told g.F.Folder.load_gives g.P.Patterns.told g.P.Patterns.find_gives) u v said status part ran

pub returns-clause-headline : goal.returns-clause-headline
returns-clause-headline g c u v job cases hops limit pruned whole ran =
    run_told (outside g.F.Folder.told g.F.Folder.load_gives g.P.Patterns.told g.P.Patterns.find_gives) u v job cases hops limit pruned Done whole ran

pub returns-clause-partial : goal.returns-clause-partial
returns-clause-partial g c u v job cases hops limit pruned whole ran =
    run_told (outside g.F.Folder.told g.F.Folder.load_gives g.P.Patterns.told g.P.Patterns.find_gives) u v job cases hops limit pruned Partial whole ran
