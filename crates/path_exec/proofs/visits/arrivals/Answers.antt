use Rattle.std.proofs.Common.{◌+◌, arith, refl, sym, ap, subst, ◌∙◌, ◌≡◌, ◌++◌, ◌∷◌, take, drop, get_or, suc, drop-cons, take_all}
use Rattle.std.proofs.Math.Seq.{take-suc}
use Rattle.std.proofs.lemmas.List.{take-append-drop, length-take-le}
use Rattle.sefl_meaning.specs.declared.walk.Decision.TheVariants.{Then}
use Rattle.path_exec.specs.Following.{Turns}
use Rattle.path_exec.specs.Visiting.{LeadsBy}
use Rattle.path_exec.proofs.Guiding.{impossible_at}
use Rattle.path_exec.proofs.Gathering.{arrives_so, leads_first, leads_on}
use Rattle.path_exec.proofs.visits.arrivals.Goals as goal

pub turn-requires : goal.turn-requires
turn-requires g c = c.loop-decision.invariant.led.there.kind

pub loop-decision-init : goal.loop-decision-init
loop-decision-init g c =
    let x = g.E.Engine.views c.args.engine.now in
    record {
      led = leads_first x c.args.port c.in_ok-place.place c.args.steps.now c.visit.new.steps c.new-found.result.items c.visit.new.found.items c.in_ok-next.next
          c.in_ok-place.ensures c.new-found.ensures.items c.in_ok-next.ensures;
      counted = refl;
    }

pub returns-in_default : goal.returns-in_default
returns-in_default g c =
    let x = g.E.Engine.views c.args.engine.now in
    let ds = c.args.decisions.now in
    let k = c.loop-decision.decision-index in
    let d = get_or ds k Then in
    let joined : ds ≡ take k ds ++ d ∷ drop (suc k) ds = sym (take-append-drop k ds) ∙ ap (λ zs. take k ds ++ zs) (drop-cons ds k Then c.loop-decision-test.true) in
    impossible_at x ds (take k ds) (drop (suc k) ds) d c.loop-decision.at c.loop-decision.next joined (length-take-le k ds (omega arith) ∙ sym c.loop-decision.invariant.counted)
    c.loop-decision.invariant.led.there (subst (Turns x c.loop-decision.next d) c.in_default.is c.in_ok-place-2.ensures)

pub loop-decision-preserved : goal.loop-decision-preserved
loop-decision-preserved g c =
    let x = g.E.Engine.views c.args.engine.now in
    let ds = c.args.decisions.now in
    let k = c.loop-decision.decision-index in
    let d = get_or ds k Then in
    let t = subst (Turns x c.loop-decision.next d) c.in-Some.is c.in_ok-place-2.ensures in
    let one : suc k ≡ k + 1 = omega arith in
    record {
      led = subst (λ es. LeadsBy x c.args.port es c.in_ok-next-2.next c.visit-in-loop-decision.new.found.items) (sym (take-suc ds k Then c.loop-decision-test.true) ∙ ap (λ n. take n ds) one)
          (leads_on x c.args.port (take k ds) d c.loop-decision.next c.in_ok-next-2.next c.in-Some.place c.loop-decision.steps c.visit-in-loop-decision.new.steps
          c.loop-decision.found.items c.visit-in-loop-decision.new.found.items c.loop-decision.invariant.led t c.in_ok-next-2.ensures);
      counted = let i = c.loop-decision.invariant.counted in omega (arith, i);
    }

pub returns : goal.returns
returns g c =
    let x = g.E.Engine.views c.args.engine.now in
    let ds = c.args.decisions.now in
    let k = c.loop-decision.decision-index in
    arrives_so x c.args.port (take k ds) ds c.loop-decision.next c.loop-decision.found.items (take_all k ds c.loop-decision-test.false) c.loop-decision.invariant.led
