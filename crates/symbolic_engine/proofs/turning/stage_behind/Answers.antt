use Rattle.std.proofs.Common.{List, reverse, sym, ap, subst, ◌∙◌}
use Rattle.net_check.specs.Network.{network}
use Rattle.term_values.specs.TermValues.{terms}
use Rattle.code_frames.specs.declared.frame.Frame.{Frame}
use Rattle.symbolic_engine.specs.declared.stage.Stage.TheVariants.{Inside}
use Rattle.symbolic_engine.specs.declared.stage.Wait.{Wait}
use Rattle.symbolic_engine.specs.Origins.{progress_in}
use Rattle.symbolic_engine.specs.Turning.{IsAwaited, IsStageBehind}
use Rattle.symbolic_engine.proofs.Turns.{answered, leaves_by}
use Rattle.symbolic_engine.proofs.turning.stage_behind.Goals as goal

pub returns-in_ok-left-in-Asked : goal.returns-in_ok-left-in-Asked
returns-in_ok-left-in-Asked c =
    let net = network c.args.net.now in
    let d = c.args.decision in
    let running = c.in-Asked.running in
    let left = c.in_ok-left-in-Asked.left in
    let awaits = subst (λ (wait : Wait). IsAwaited wait d) c.in-Asked.is c.requires in
    subst (λ (wait : Wait). IsStageBehind net wait d (Inside running left c.answer.new.frames)) (sym c.in-Asked.is)
    (λ x begun. answered net running c.in-Asked.question c.in-Asked.test x begun d c.in-Asked.frames awaits.0 c.holds.result
    (reverse c.in_ok-frames-in-Asked.frames.items) (reverse c.answer.new.frames.items) left
    awaits.1 c.holds.ensures (ap (λ (l : List Frame). reverse l) (c.in_ok-frames-in-Asked.ensures ∙ c.deref.ensures.value))
    (c.in_ok-left-in-Asked.ensures.course (terms x.unknowns) net running.node (progress_in x begun)))

pub returns-in-Copy : goal.returns-in-Copy
returns-in-Copy c =
    leaves_by (network c.args.net.now) c.args.wait.now c.args.decision c.in-Forked.node c.in-Forked.hops c.in-Copy.number c.in-Forked.ports c.requires c.in-Forked.is
    c.in-Copy.is
