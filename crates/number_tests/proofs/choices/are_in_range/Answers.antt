use Rattle.std.proofs.Common.{arith}
use Rattle.std.specs.Prelude.{All}
use Rattle.difference_solver.specs.Bound.{IsInRange}
use Rattle.difference_solver.specs.Choices.{cases_of}
use Rattle.number_tests.proofs.Testing.{all_more, all_taken}
use Rattle.number_tests.proofs.choices.are_in_range.Goals as goal

pub loop-choice-preserved : goal.loop-choice-preserved
loop-choice-preserved c = all_more (All (All (IsInRange c.args.count))) cases_of c.args.choices.now c.loop-choice.choice-index c.choice-item.result (omega arith) c.choice-item.is (c.choice_is_in_range.ensures c.if-not-choice_is_in_range.false) c.loop-choice.invariant

pub returns : goal.returns
returns c = λ _. all_taken (All (All (IsInRange c.args.count))) cases_of c.args.choices.now c.loop-choice.choice-index (omega arith) c.loop-choice.invariant
