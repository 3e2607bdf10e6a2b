use Rattle.std.proofs.lemmas.Result.{IfOk-weaker}
use Rattle.lin_term.proofs.Combining.{term_sum-once}
use Rattle.lin_term.proofs.Values.{value_at-once}
use Rattle.lin_term.proofs.term.Term.plus.Goals as goal

pub returns-clause-term : goal.returns-clause-term
returns-clause-term c =
    IfOk-weaker _ _ _ (term_sum-once c.args.self.now c.args.other.now) c.plus_multiple.ensures.combination

pub returns-clause-value : goal.returns-clause-value
returns-clause-value c =
    IfOk-weaker _ _ _ (λ t h. value_at-once c.args.self.now c.args.other.now t c.requires h) c.plus_multiple.ensures.combination
