use Rattle.std.proofs.Common.{rules, reverse, Some, None, ◌∙◌, ap, arith, sym}
use Rattle.fib_model.specs.Sweeps.{others_of}
use Rattle.fib_model.proofs.Steps.{stops, goes_on, top_reaches, top_none}
use Rattle.fib_model.proofs.sweep.Sweep.move_to.Goals as goal

pub returns-then-last-to-clause-goes : goal.returns-then-last-to-clause-goes
returns-then-last-to-clause-goes c = λ whole rest later goes.
    stops c.loop-last.self c.fill.new.self c.args.to (Some c.in-Some.last.port) c.in_ok-fill.ensures.fills c.in_ok-fill.ensures.start c.in_ok-fill.ensures.pending
    (λ a below. top_reaches (reverse c.loop-last.self.pending.items) c.in-Some.last a (sym c.top.ensures ∙ c.in-Some.is) (omega (arith, below, c.if-last-to.true)))
    whole rest later (c.loop-last.invariant.goes whole rest later goes)

pub loop-last-preserved : goal.loop-last-preserved
loop-last-preserved c = record {
  len = search rules;
  ports = search rules;
  start = omega (arith, c.loop-last.invariant.start, c.in_ok-fill-2.ensures.start, c.if-last-to.false);
  ordered = λ h. c.in_ok-fill-2.ensures.ordered (c.loop-last.invariant.ordered h);
  goes = λ whole rest later goes.
      goes_on c.loop-last.self (record { sets = c.fill-in-Some.new.self.sets; pending = c.pop.new.pending; start = c.fill-in-Some.new.self.start })
      c.args.to c.in-Some.last c.in_ok-fill-2.ensures.fills c.in_ok-fill-2.ensures.start (sym c.top.ensures ∙ c.in-Some.is) (c.pop.ensures.rest ∙ ap (λ ps. others_of (reverse ps)) c.in_ok-fill-2.ensures.pending) (omega (arith, c.if-last-to.false)) whole rest later
      (c.loop-last.invariant.goes whole rest later goes);
}

pub returns-clause-goes : goal.returns-clause-goes
returns-clause-goes c = λ whole rest later goes.
    stops c.loop-last.self c.fill-2.new.self c.args.to None c.in_ok-fill-3.ensures.fills c.in_ok-fill-3.ensures.start c.in_ok-fill-3.ensures.pending
    (λ a below. top_none (reverse c.loop-last.self.pending.items) a (sym c.top.ensures ∙ c.in_default.is))
    whole rest later (c.loop-last.invariant.goes whole rest later goes)
