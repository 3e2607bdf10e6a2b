use Rattle.std.proofs.Common.{◌≡◌, ℕ, ◌-◌, ◌++◌, length, replicate, ap, ◌∙◌, arith}
use Rattle.symbolic_engine.proofs.Filling.{filled_next, filled_none}
use Rattle.symbolic_engine.proofs.writing.filled.Goals as goal

pub loop-place-init : goal.loop-place-init
loop-place-init c = record {
  behind = omega arith;
  within = omega arith;
  zeros = filled_none c.args.values.now c.in_ok-more.more.items (length c.args.values.now) c.in_ok-more.ensures.items;
}

pub loop-place-preserved : goal.loop-place-preserved
loop-place-preserved c =
    let l = c.loop-place in
    record {
      behind = omega (arith, l.invariant.behind);
      within = omega (arith, l.invariant.behind, c.loop-place-test.true);
      zeros = filled_next c.args.values.now l.more.items c.push.new.self.items (length c.args.values.now) l.place l.invariant.behind l.invariant.zeros c.in_ok-push.ensures.items;
    }

pub returns : goal.returns
returns c =
    let l = c.loop-place in
    let over' : l.place - length c.args.values.now ≡ c.args.count - length c.args.values.now =
    omega (arith, l.invariant.behind, l.invariant.within, c.loop-place-test.false) in
    c.from_vec.ensures ∙ l.invariant.zeros ∙ ap (λ (n : ℕ). c.args.values.now ++ replicate n 0) over'
