use Rattle.number_tests.proofs.Testing.{one_below_at}
use Rattle.number_tests.proofs.choices.one_has_below.Goals as goal

pub returns-then-each_has_below : goal.returns-then-each_has_below
returns-then-each_has_below c = λ _.
    one_below_at c.args.unknown c.args.choices.now c.loop-choice.choice-index c.choice-item.result c.loop-choice-test.true c.choice-item.is
    (c.each_has_below.ensures c.if-each_has_below.true)
