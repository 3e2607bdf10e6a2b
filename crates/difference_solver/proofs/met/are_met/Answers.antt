use Rattle.std.proofs.Common.{subst, arith}
use Rattle.std.proofs.lemmas.List.{take_all}
use Rattle.std.proofs.lemmas.List.Elements.{All-more}
use Rattle.std.specs.Prelude.{All}
use Rattle.difference_solver.specs.Bound.{Meets}
use Rattle.difference_solver.proofs.met.are_met.Goals as goal

pub loop-bound-preserved : goal.loop-bound-preserved
loop-bound-preserved c =
    All-more (Meets c.args.values.now) c.args.case.now c.loop-bound.bound-index _ (omega arith) c.loop-bound.invariant
    (c.is_met.ensures c.if-not-is_met.false)

pub returns : goal.returns
returns c = λ _.
    subst (λ bs. All (Meets c.args.values.now) bs) (take_all c.loop-bound.bound-index c.args.case.now (omega arith)) c.loop-bound.invariant
