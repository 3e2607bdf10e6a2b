use Rattle.command_runs.specs.Outside.{outside}
use Rattle.command_words.specs.Commands.{command_of, reading}
use Rattle.symnet_program.proofs.ProgramLemmas.{complete_said, exact_said, shown_said, told_said, unread}
use Rattle.symnet_program.proofs.RunLemmas.{run_caused, run_said, unread_run}
use Rattle.symnet_program.proofs.program.symnet.Goals as goal

pub returns-in-Ok-Some-clause-ran : goal.returns-in-Ok-Some-clause-ran
returns-in-Ok-Some-clause-ran g c =
    run_said c.reports_tell_walks.ensures (outside g.F.Folder.told g.F.Folder.load_gives g.P.Patterns.told g.P.Patterns.find_gives)
    (c.args.folder.now, c.args.patterns.now) (c.run_command.new.folder, c.run_command.new.patterns)
    (command_of c.in-Ok-Some.command) (rw c.in-Ok-Some.field-0-is at c.in-Ok-Some.ensures.ranges)
    g.K.Sink.told g.K.Sink.put_gives c.args.out.now c.run_command.new.out (reading c.args.words.now)
    (rw c.in-Ok-Some.field-0-is at c.in-Ok-Some.ensures.command) c.run_command.result c.status_of.result c.status_of.ensures c.run_command.ensures.ran

pub returns-in-Ok-Some-clause-told : goal.returns-in-Ok-Some-clause-told
returns-in-Ok-Some-clause-told g c w told =
    let ran = returns-in-Ok-Some-clause-ran g c in
    let here = outside g.F.Folder.told g.F.Folder.load_gives g.P.Patterns.told g.P.Patterns.find_gives in
    told_said g.F.Folder.told g.F.Folder.load_gives g.P.Patterns.told g.P.Patterns.find_gives
    (c.args.folder.now, c.args.patterns.now) (c.run_command.new.folder, c.run_command.new.patterns) (reading c.args.words.now) c.status_of.result w
    (run_caused here (c.args.folder.now, c.args.patterns.now) (c.run_command.new.folder, c.run_command.new.patterns)
    (reading c.args.words.now) c.status_of.result ran.0 ran.1) told

pub returns-in-Ok-Some-clause-exact : goal.returns-in-Ok-Some-clause-exact
returns-in-Ok-Some-clause-exact g c command w fault named told fails settled =
    let ran = returns-in-Ok-Some-clause-ran g c in
    let here = outside g.F.Folder.told g.F.Folder.load_gives g.P.Patterns.told g.P.Patterns.find_gives in
    exact_said g.F.Folder.told g.F.Folder.load_gives g.P.Patterns.told g.P.Patterns.find_gives
    (c.args.folder.now, c.args.patterns.now) (c.run_command.new.folder, c.run_command.new.patterns) (reading c.args.words.now) c.status_of.result command w fault
    (record { first = c.worlds_decide.ensures.first w; excludes = c.worlds_decide.ensures.excludes w })
    (run_caused here (c.args.folder.now, c.args.patterns.now) (c.run_command.new.folder, c.run_command.new.patterns)
    (reading c.args.words.now) c.status_of.result ran.0 ran.1) named told fails settled

pub returns-in-Ok-Some-clause-shown : goal.returns-in-Ok-Some-clause-shown
returns-in-Ok-Some-clause-shown g c =
    shown_said (g.F.Folder.told c.args.folder.now) (g.F.Folder.told c.run_command.new.folder) (g.P.Patterns.told c.args.patterns.now) (g.P.Patterns.told c.run_command.new.patterns)
    (g.K.Sink.told c.args.out.now) (g.K.Sink.told c.run_command.new.out) c.run_command.result c.status_of.result c.status_of.ensures c.run_command.ensures.shows

pub returns-in-Ok-Some-clause-complete : goal.returns-in-Ok-Some-clause-complete
returns-in-Ok-Some-clause-complete g c command named told faults good =
    let ran = returns-in-Ok-Some-clause-ran g c in
    let here = outside g.F.Folder.told g.F.Folder.load_gives g.P.Patterns.told g.P.Patterns.find_gives in
    complete_said here (c.args.folder.now, c.args.patterns.now) (c.run_command.new.folder, c.run_command.new.patterns)
    (reading c.args.words.now) c.status_of.result command
    (g.F.Folder.told c.args.folder.now) (g.F.Folder.told c.run_command.new.folder) (g.P.Patterns.told c.args.patterns.now) (g.P.Patterns.told c.run_command.new.patterns)
    (g.K.Sink.told c.args.out.now) (g.K.Sink.told c.run_command.new.out)
    (run_caused here (c.args.folder.now, c.args.patterns.now) (c.run_command.new.folder, c.run_command.new.patterns)
    (reading c.args.words.now) c.status_of.result ran.0 ran.1) named
    (returns-in-Ok-Some-clause-shown g c) told faults good

pub returns-in-Err-clause-ran : goal.returns-in-Err-clause-ran
returns-in-Err-clause-ran g c =
    unread_run (outside g.F.Folder.told g.F.Folder.load_gives g.P.Patterns.told g.P.Patterns.find_gives) (c.args.folder.now, c.args.patterns.now)
    g.K.Sink.told g.K.Sink.put_gives c.args.out.now (reading c.args.words.now)

pub returns-in-Err-clause-told : goal.returns-in-Err-clause-told
returns-in-Err-clause-told g c w told = unread w (reading c.args.words.now)
