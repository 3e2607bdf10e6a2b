use Rattle.std.proofs.Common.{◌≡◌, ◌+◌, ◌<◌, ◌≤◌, ◌++◌, ◌∷◌, [], List, length, rules, arith, sym, subst, ◌∙◌, get_or, Some, None, true≢false}
use Rattle.sym_state.specs.Symbolic.{held_of}
use Rattle.symbolic_engine.specs.Origins.{condition_seen}
use Rattle.loop_check.specs.Lasting.{AreOfOneStart}
use Rattle.std.specs.List.{AllByRecursion}
use Rattle.loop_meaning.specs.declared.answer.Differ.{Differ}
use Rattle.loop_check.specs.Seen.{SaysOf}
use Rattle.loop_check.proofs.Looking.{Looked, as_many, looked_all, looked_differs, looked_loop, looked_past, not_place_at, place_at}
use Rattle.loop_check.proofs.visits.answer_from.Goals as goal

pub returns : goal.returns
returns c = λ earlier end' same here last seen.
    let past : length earlier ≤ c.loop-place.place = omega (arith, as_many earlier c.args.before.now same, c.loop-place-test.false) in
    looked_all (condition_seen c.args.last.now.state.now) c.args.port earlier end' here c.loop-place.place c.loop-place.found.items c.loop-place.left.now
    (c.loop-place.invariant.looked earlier end' same here last seen) past

pub loop-place-preserved-then-not-is_at : goal.loop-place-preserved-then-not-is_at
loop-place-preserved-then-not-is_at c = record {
  start = c.loop-place.invariant.start;
  looked = λ earlier end' same here last seen.
      let less : c.loop-place.place < length earlier = omega (arith, as_many earlier c.args.before.now same, c.loop-place-test.true) in
      let none : c.args.port ≡ get_or c.args.before.now c.loop-place.place c.args.port → ⊥ = λ e. true≢false (sym (c.is_at.ensures.1 e) ∙ c.if-not-is_at.true) in
      looked_past (condition_seen c.args.last.now.state.now) c.args.port earlier end' here c.loop-place.place less c.loop-place.found.items c.loop-place.left.now
      (c.loop-place.invariant.looked earlier end' same here last seen)
      (not_place_at earlier c.args.before.now end' c.loop-place.place c.args.port same c.loop-place-test.true none);
}

pub loop-place-preserved : goal.loop-place-preserved
loop-place-preserved c = record {
  start = (subst (AllByRecursion (AreOfOneStart c.args.last.now.state.now)) (let is : c.loop-place.left.now ≡ c.in-Some.visit.now ∷ c.in-Some.rest.now = search rules in is) c.loop-place.invariant.start).1;
  looked = λ earlier end' same here last seen.
      let less : c.loop-place.place < length earlier = omega (arith, as_many earlier c.args.before.now same, c.loop-place-test.true) in
      let is : c.loop-place.left.now ≡ c.in-Some.visit.now ∷ c.in-Some.rest.now = search rules in
      let at = place_at earlier c.args.before.now end' c.loop-place.place c.args.port same c.loop-place-test.true (c.is_at.ensures.0 c.if-not-is_at.false) in
      let says : SaysOf (condition_seen c.args.last.now.state.now) (held_of c.args.last.now.state.now) c.in-Some.visit.now (Some c.in-Some-2.why) =
      subst (SaysOf (condition_seen c.args.last.now.state.now) (held_of c.args.last.now.state.now) c.in-Some.visit.now) c.in-Some-2.is c.in_ok-why.ensures in
      let items : c.push.new.self.items ≡ c.loop-place.found.items ++ record { place = c.in_ok-first.first; why = c.in-Some-2.why } ∷ [] = search rules in
      subst (λ (ds : List Differ). Looked (condition_seen c.args.last.now.state.now) c.args.port earlier end' here (c.loop-place.place + 1) ds c.in-Some.rest.now) (sym items)
      (looked_differs (condition_seen c.args.last.now.state.now) c.args.port earlier end' here c.loop-place.place less c.loop-place.found.items c.loop-place.left.now
      (c.loop-place.invariant.looked earlier end' same here last seen) at c.in-Some.visit.now c.in-Some.rest.now is (held_of c.args.last.now.state.now) last c.in-Some-2.why says
      c.in_ok-first.first c.in_ok-first.ensures);
}

pub returns-in_default-2 : goal.returns-in_default-2
returns-in_default-2 c = λ earlier end' same here last seen.
    let less : c.loop-place.place < length earlier = omega (arith, as_many earlier c.args.before.now same, c.loop-place-test.true) in
    let is : c.loop-place.left.now ≡ c.in-Some.visit.now ∷ c.in-Some.rest.now = search rules in
    let at = place_at earlier c.args.before.now end' c.loop-place.place c.args.port same c.loop-place-test.true (c.is_at.ensures.0 c.if-not-is_at.false) in
    let none : c.in_ok-why.field-0 ≡ None = search rules in
    let says : SaysOf (condition_seen c.args.last.now.state.now) (held_of c.args.last.now.state.now) c.in-Some.visit.now None =
    subst (SaysOf (condition_seen c.args.last.now.state.now) (held_of c.args.last.now.state.now) c.in-Some.visit.now) none c.in_ok-why.ensures in
    looked_loop (condition_seen c.args.last.now.state.now) c.args.port earlier end' here c.loop-place.place less c.loop-place.found.items c.loop-place.left.now
    (c.loop-place.invariant.looked earlier end' same here last seen) at c.in-Some.visit.now c.in-Some.rest.now is (held_of c.args.last.now.state.now) last says
    c.in_ok-first.first c.in_ok-first.ensures

pub differs-requires-clause-start : goal.differs-requires-clause-start
differs-requires-clause-start c =
    let is : c.loop-place.left.now ≡ c.in-Some.visit.now ∷ c.in-Some.rest.now = search rules in
    (subst (AllByRecursion (AreOfOneStart c.args.last.now.state.now)) is c.loop-place.invariant.start).0
