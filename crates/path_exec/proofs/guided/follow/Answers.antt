use Rattle.std.proofs.Common.{arith, refl, sym, ap, subst, ◌∙◌, ◌≡◌, ◌++◌, ◌∷◌, take, drop, get_or, suc, drop-cons, take_all}
use Rattle.std.proofs.lemmas.List.{take-append-drop, length-take-le}
use Rattle.sefl_meaning.specs.declared.walk.Decision.TheVariants.{Then}
use Rattle.exact_records.specs.Points.{Point}
use Rattle.path_exec.specs.Following.{LeadsTo, Turns}
use Rattle.path_exec.proofs.Guiding.{impossible_at, starts_at}
use Rattle.path_exec.proofs.guided.follow.Goals as goal

pub arrived-requires : goal.arrived-requires
arrived-requires g c = starts_at (g.E.Engine.views c.args.engine.now) c.in_ok-place.place c.in_ok-place.ensures

pub loop-decision-init : goal.loop-decision-init
loop-decision-init g c =
    let x = g.E.Engine.views c.args.engine.now in
    record {
      led = subst (λ ds. LeadsTo x ds c.in_ok-next.next) (ap (λ (a : Point). a.decisions) c.in_ok-place.ensures) c.in_ok-next.ensures;
      counted = refl;
    }

pub returns-in_default : goal.returns-in_default
returns-in_default g c =
    let x = g.E.Engine.views c.args.engine.now in
    let ds = c.args.decisions.now in
    let k = c.loop-decision.decision-index in
    let d = get_or ds k Then in
    let joined : ds ≡ take k ds ++ d ∷ drop (suc k) ds = sym (take-append-drop k ds) ∙ ap (λ zs. take k ds ++ zs) (drop-cons ds k Then c.loop-decision-test.true) in
    impossible_at x ds (take k ds) (drop (suc k) ds) d c.loop-decision.at c.loop-decision.next joined (length-take-le k ds (omega arith) ∙ sym c.loop-decision.invariant.counted)
    c.loop-decision.invariant.led (subst (Turns x c.loop-decision.next d) c.in_default.is c.in_ok-place-2.ensures)

pub arrived-requires-in-loop-decision : goal.arrived-requires-in-loop-decision
arrived-requires-in-loop-decision g c =
    let x = g.E.Engine.views c.args.engine.now in
    let t = subst (Turns x c.loop-decision.next (get_or c.args.decisions.now c.loop-decision.decision-index Then)) c.in-Some.is c.in_ok-place-2.ensures in
    (t.stands c.loop-decision.invariant.led.led.at).at

pub returns : goal.returns
returns g c =
    let ds = c.args.decisions.now in
    subst (λ es. LeadsTo (g.E.Engine.views c.args.engine.now) es c.loop-decision.next) (take_all c.loop-decision.decision-index ds c.loop-decision-test.false)
    c.loop-decision.invariant.led
