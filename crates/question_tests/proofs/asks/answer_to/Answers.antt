use Rattle.question_tests.proofs.asks.answer_to.Goals as goal

pub ask-requires-clause-exact : goal.ask-requires-clause-exact
ask-requires-clause-exact c = (c.args.limit, c.requires.exact)
