use Rattle.std.proofs.Common.{reverse, sym, ap, subst, ◌∙◌}
use Rattle.std.proofs.lemmas.Result.{IfOk-weaker}
use Rattle.path_formula.specs.Typed.{IsTyped}
use Rattle.path_formula.specs.View.{view}
use Rattle.path_formula.specs.declared.formula.Formula.{Formula}
use Rattle.net_check.specs.Network.{network}
use Rattle.code_frames.specs.declared.frame.Move.{Move}
use Rattle.code_frames.specs.declared.frame.Move.TheVariants.{Ended, Asked}
use Rattle.code_frames.specs.Frames.{WaitsFor}
use Rattle.sym_state.specs.Symbolic.{Symbolic, rest_of}
use Rattle.path_exec.specs.Location.{point_at}
use Rattle.path_exec.specs.Moves.{IsMove}
use Rattle.symbolic_engine.specs.Origins.{location_of}
use Rattle.symbolic_engine.specs.Seeing.{views_of}
use Rattle.symbolic_engine.proofs.Ports.{move_tree, moves_still}
use Rattle.symbolic_engine.proofs.RunLemmas.{run_on}
use Rattle.symbolic_engine.proofs.moving.run_on.Goals as goal

pub of-run-requires : goal.of-run-requires
of-run-requires g c =
    run_on g.B.Origin.start c.args.run c.next.new.machine (c.in_ok-found.ensures.rest ∙ ap rest_of (c.deref_mut.ensures.value ∙ c.into_box-state.ensures.is)) c.into_box-state.ensures.run

pub returns-in-Ended : goal.returns-in-Ended
returns-in-Ended g c =
    let s = g.B.Origin.start in
    let net = network c.args.net.now in
    let x = c.args.run in
    let y = c.next.new.machine in
    let old = reverse c.args.frames.items in
    let new = reverse c.next.new.frames.items in
    IfOk-weaker c.behind.result _ _
    (λ moved m. moves_still (views_of {origin = g.B.Origin} s net) net c.args.running x c.deref_mut.result.now y old new c.in_ok-found.found c.args.steps.now c.next.new.steps
    (c.deref_mut.ensures.value ∙ c.into_box-state.ensures.is) c.in_ok-found.ensures.rest c.in_ok-found.ensures.course c.into_box-state.ensures.run moved
    (λ begun. subst (λ (move : Move Formula). IsMove (views_of {origin = g.B.Origin} s net) (point_at begun (location_of s y (move_tree net c.args.running move new y))) begun moved) (sym c.in-Ended.is)
    (subst (λ (z : Symbolic). IsMove (views_of {origin = g.B.Origin} s net) (point_at begun (location_of s z (move_tree net c.args.running (Ended c.in-Ended.exit) new z))) begun moved) c.of-run.ensures (m begun))))
    c.behind.ensures

pub returns : goal.returns
returns g c =
    let s = g.B.Origin.start in
    let net = network c.args.net.now in
    let x = c.args.run in
    let y = c.next.new.machine in
    let old = reverse c.args.frames.items in
    let new = reverse c.next.new.frames.items in
    moves_still (views_of {origin = g.B.Origin} s net) net c.args.running x c.deref_mut.result.now y old new c.in_ok-found.found c.args.steps.now c.next.new.steps
    (c.deref_mut.ensures.value ∙ c.into_box-state.ensures.is) c.in_ok-found.ensures.rest c.in_ok-found.ensures.course c.into_box-state.ensures.run c.asked.result
    (λ begun. subst (λ (move : Move Formula). IsMove (views_of {origin = g.B.Origin} s net) (point_at begun (location_of s y (move_tree net c.args.running move new y))) begun c.asked.result) (sym c.in-Asked.is)
    (subst (λ (z : Symbolic). IsMove (views_of {origin = g.B.Origin} s net) (point_at begun (location_of s z (move_tree net c.args.running (Asked c.in-Asked.question c.in-Asked.test) new z))) begun c.asked.result) c.of-run.ensures (c.asked.ensures net begun)))

-- the test is over the symbols that there are now
pub asked-requires : goal.asked-requires
asked-requires g c =
    let y = c.next.new.machine in
    let fit = subst (WaitsFor (λ (f : Formula). IsTyped y.condition.widths (view f))) c.in-Asked.is c.in_ok-found.ensures.fit in
    subst (λ (z : Symbolic). IsTyped z.condition.widths (view c.in-Asked.test)) (sym c.of-run.ensures) fit
