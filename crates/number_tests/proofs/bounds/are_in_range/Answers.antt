use Rattle.std.proofs.Common.{subst, arith}
use Rattle.std.proofs.lemmas.List.{take_all}
use Rattle.std.proofs.lemmas.List.Elements.{All-more}
use Rattle.std.specs.Prelude.{All}
use Rattle.difference_solver.specs.Bound.{IsInRange}
use Rattle.number_tests.proofs.bounds.are_in_range.Goals as goal

pub loop-bound-preserved : goal.loop-bound-preserved
loop-bound-preserved c =
    All-more (IsInRange c.args.count) c.args.bounds.now c.loop-bound.bound-index _ (omega arith) c.loop-bound.invariant
    (c.is_in_range.ensures c.if-not-is_in_range.false)

pub returns : goal.returns
returns c = λ _. subst (λ bs. All (IsInRange c.args.count) bs) (take_all c.loop-bound.bound-index c.args.bounds.now (omega arith)) c.loop-bound.invariant
