use Rattle.net_check.specs.Network.{entry, network}
use Rattle.path_questions.specs.declared.placing.AskFault.TheVariants.{NoMemory}
use Rattle.path_questions.proofs.AskLemmas.{asked_next, bad_here}
use Rattle.std.proofs.Common.{ap, ◌∙◌, ◌+◌}
use Rattle.path_questions.proofs.placing.questions_of.Goals as goal

pub returns-in-Err-clause-refused : goal.returns-in-Err-clause-refused
returns-in-Err-clause-refused c =
    bad_here (network c.args.net.now) (entry c.args.injection.now) c.args.asks.now c.loop-ask.ask-index c.ask-item.result c.loop-ask-test.true c.ask-item.is
    c.loop-ask.questions.items c.loop-ask.invariant.asked c.loop-ask.number c.in-Err.fault c.loop-ask.invariant.counted c.in-Err.ensures.refused

pub returns-in_default-clause-refused : goal.returns-in_default-clause-refused
returns-in_default-clause-refused c =
    bad_here (network c.args.net.now) (entry c.args.injection.now) c.args.asks.now c.loop-ask.ask-index c.ask-item.result c.loop-ask-test.true c.ask-item.is
    c.loop-ask.questions.items c.loop-ask.invariant.asked c.loop-ask.number NoMemory c.loop-ask.invariant.counted tt

pub loop-ask-preserved : goal.loop-ask-preserved
loop-ask-preserved c =
    record {
      counted = c.in-Some.ensures.1 ∙ ap (λ n. n + 1) c.loop-ask.invariant.counted;
      asked = asked_next (network c.args.net.now) (entry c.args.injection.now) c.args.asks.now c.loop-ask.ask-index c.ask-item.result c.loop-ask-test.true c.ask-item.is
          c.loop-ask.questions.items c.loop-ask.invariant.asked c.in-Ok.question c.push.new.self.items c.in-Ok-push.ensures.items c.in-Ok.ensures.asked;
    }
