use Rattle.std.proofs.Common.{ℕ, [], ◌∷◌, arith, subst}
use Rattle.command_runs.specs.Inputs.{a_job, a_file}
use Rattle.command_runs.specs.Outside.{outside}
use Rattle.command_runs.specs.Runs.{Runs, one_piece}
use Rattle.command_edge.specs.declared.limits.TheConstants.{FILE_LIMIT}
use Rattle.explore_command.specs.Explores.{explore_work}
use Rattle.acl_command.specs.declared.model.ListStyle.{ListStyle}
use Rattle.acl_command.specs.Commands.{AclComes}
use Rattle.ask_command.specs.Asks.{AskComes}
use Rattle.loops_command.specs.Loops.{LoopsComes}
use Rattle.loops_command.specs.declared.text.OpenPaths.{OpenPaths}
use Rattle.compare_command.specs.Compares.{CompareComes}
use Rattle.symnet_program.proofs.program.run_command.Goals as goal

pub new-requires : goal.new-requires
new-requires g c = let ranges = rw (c.in-Explore.is) at c.requires in omega (arith, ranges)

pub new-requires-in-Ask : goal.new-requires-in-Ask
new-requires-in-Ask g c = let ranges = rw (c.in-Ask.is) at c.requires in omega (arith, ranges)

pub new-requires-in-Loops : goal.new-requires-in-Loops
new-requires-in-Loops g c = let ranges = rw (c.in-Loops.is) at c.requires in omega (arith, ranges)

pub new-requires-in-Compare : goal.new-requires-in-Compare
new-requires-in-Compare g c = let ranges = rw (c.in-Compare.is) at c.requires in omega (arith, ranges)

pub returns-in-Explore-clause-ran : goal.returns-in-Explore-clause-ran
returns-in-Explore-clause-ran g c =
    rw (c.in-Explore.is) (subst (λ (limit : ℕ). Runs g.K.Sink.told g.K.Sink.put_gives c.args.out.now c.run.new.out
    (outside g.F.Folder.told g.F.Folder.load_gives g.P.Patterns.told g.P.Patterns.find_gives)
    (c.args.folder.now, c.args.patterns.now) (c.run.new.folder, c.run.new.patterns) (a_job c.in-Explore.job.now ∷ []) (explore_work c.in-Explore.cases c.in-Explore.hops limit c.in-Explore.pruned) c.run.result) c.new.ensures c.run.ensures.ran)

pub returns-in-Walk-clause-ran : goal.returns-in-Walk-clause-ran
returns-in-Walk-clause-ran g c = rw (c.in-Walk.is) c.run-in-Walk.ensures.ran

pub returns-in-WalkLines-clause-ran : goal.returns-in-WalkLines-clause-ran
returns-in-WalkLines-clause-ran g c = rw (c.in-WalkLines.is) c.run-in-WalkLines.ensures.ran

pub returns-in-Replay-clause-ran : goal.returns-in-Replay-clause-ran
returns-in-Replay-clause-ran g c = rw (c.in-Replay.is) c.run-in-Replay.ensures.ran

pub returns-in-ReplayWhole-clause-ran : goal.returns-in-ReplayWhole-clause-ran
returns-in-ReplayWhole-clause-ran g c = rw (c.in-ReplayWhole.is) c.run-in-ReplayWhole.ensures.ran

pub returns-in-Grow-clause-ran : goal.returns-in-Grow-clause-ran
returns-in-Grow-clause-ran g c = rw (c.in-Grow.is) c.run-in-Grow.ensures.ran

pub returns-in-Ask-clause-ran : goal.returns-in-Ask-clause-ran
returns-in-Ask-clause-ran g c =
    rw (c.in-Ask.is) (subst (λ (limit : ℕ). Runs g.K.Sink.told g.K.Sink.put_gives c.args.out.now c.run-in-Ask.new.out
    (outside g.F.Folder.told g.F.Folder.load_gives g.P.Patterns.told g.P.Patterns.find_gives)
    (c.args.folder.now, c.args.patterns.now) (c.run-in-Ask.new.folder, c.run-in-Ask.new.patterns) (a_job c.in-Ask.job.now ∷ []) (one_piece (AskComes c.in-Ask.cases c.in-Ask.hops limit)) c.run-in-Ask.result) c.new-in-Ask.ensures
    c.run-in-Ask.ensures.ran)

pub returns-in-Loops-clause-ran : goal.returns-in-Loops-clause-ran
returns-in-Loops-clause-ran g c =
    rw (c.in-Loops.is) (subst (λ (detail : OpenPaths). Runs g.K.Sink.told g.K.Sink.put_gives c.args.out.now c.run-in-Loops.new.out
    (outside g.F.Folder.told g.F.Folder.load_gives g.P.Patterns.told g.P.Patterns.find_gives)
    (c.args.folder.now, c.args.patterns.now) (c.run-in-Loops.new.folder, c.run-in-Loops.new.patterns) (a_job c.in-Loops.job.now ∷ []) (one_piece (LoopsComes c.in-Loops.cases c.in-Loops.hops c.in-Loops.limit detail)) c.run-in-Loops.result) c.detail_of.ensures
    (subst (λ (limit : ℕ). Runs g.K.Sink.told g.K.Sink.put_gives c.args.out.now c.run-in-Loops.new.out
    (outside g.F.Folder.told g.F.Folder.load_gives g.P.Patterns.told g.P.Patterns.find_gives)
    (c.args.folder.now, c.args.patterns.now) (c.run-in-Loops.new.folder, c.run-in-Loops.new.patterns) (a_job c.in-Loops.job.now ∷ []) (one_piece (LoopsComes c.in-Loops.cases c.in-Loops.hops limit c.detail_of.result)) c.run-in-Loops.result) c.new-in-Loops.ensures
    c.run-in-Loops.ensures.ran))

pub returns-in-Compare-clause-ran : goal.returns-in-Compare-clause-ran
returns-in-Compare-clause-ran g c =
    rw (c.in-Compare.is) (subst (λ (limit : ℕ). Runs g.K.Sink.told g.K.Sink.put_gives c.args.out.now c.run-in-Compare.new.out
    (outside g.F.Folder.told g.F.Folder.load_gives g.P.Patterns.told g.P.Patterns.find_gives)
    (c.args.folder.now, c.args.patterns.now) (c.run-in-Compare.new.folder, c.run-in-Compare.new.patterns) (a_job c.in-Compare.job.now ∷ a_job c.in-Compare.other.now ∷ []) (one_piece (CompareComes c.in-Compare.cases c.in-Compare.hops limit c.in-Compare.counts_cut)) c.run-in-Compare.result) c.new-in-Compare.ensures
    c.run-in-Compare.ensures.ran)

pub returns-in-Model-clause-ran : goal.returns-in-Model-clause-ran
returns-in-Model-clause-ran g c = rw (c.in-Model.is) c.run-in-Model.ensures.ran

pub returns-in-Click-clause-ran : goal.returns-in-Click-clause-ran
returns-in-Click-clause-ran g c = rw (c.in-Click.is) c.run-in-Click.ensures.ran

pub returns-in-Acl-clause-ran : goal.returns-in-Acl-clause-ran
returns-in-Acl-clause-ran g c =
    rw (c.in-Acl.is) (subst (λ (s : ListStyle). Runs g.K.Sink.told g.K.Sink.put_gives c.args.out.now c.run-in-Acl.new.out
    (outside g.F.Folder.told g.F.Folder.load_gives g.P.Patterns.told g.P.Patterns.find_gives)
    (c.args.folder.now, c.args.patterns.now) (c.run-in-Acl.new.folder, c.run-in-Acl.new.patterns) (a_file FILE_LIMIT c.in-Acl.file.now ∷ []) (one_piece (AclComes s c.in-Acl.file.now)) c.run-in-Acl.result) c.list_style_of-style.ensures
    c.run-in-Acl.ensures.ran)

pub returns-in-Rules-clause-ran : goal.returns-in-Rules-clause-ran
returns-in-Rules-clause-ran g c = rw (c.in-Rules.is) c.run-in-Rules.ensures.ran

pub returns-in-BothRules-clause-ran : goal.returns-in-BothRules-clause-ran
returns-in-BothRules-clause-ran g c = rw (c.in-BothRules.is) c.run-in-BothRules.ensures.ran
