use Rattle.fib_model.specs.Sweeps.{set_at}
use Rattle.fib_model.proofs.Steps.{fills_more, ordered_more}
use Rattle.std.proofs.Common.{◌∙◌, arith}
use Rattle.fib_model.proofs.sweep.Sweep.fill.Goals as goal

pub returns-clause-fills : goal.returns-clause-fills
returns-clause-fills c = λ whole fills has.
    fills_more whole c.args.self.now.start c.args.to c.in-Some.port (set_at c.args.self.now.sets.items) (set_at c.note.new.sets.items)
    (omega (arith, c.if-to-self.false)) fills c.in_ok-note.ensures.noted (λ a from below. has a from below ∙ c.in-Some.is)

pub returns-clause-ordered : goal.returns-clause-ordered
returns-clause-ordered c = λ ordered q.
    ordered_more c.args.self.now.start c.args.to c.in-Some.port q (set_at c.args.self.now.sets.items q) (set_at c.note.new.sets.items q)
    (omega (arith, c.if-to-self.false)) (ordered q) (c.in_ok-note.ensures.noted q)
