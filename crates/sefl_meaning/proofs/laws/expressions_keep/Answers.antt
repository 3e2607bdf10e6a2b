use Rattle.sefl_meaning.proofs.Keeping.{value_kept, truth_kept}
use Rattle.sefl_meaning.proofs.laws.expressions_keep.Goals as goal

pub returns-clause-values : goal.returns-clause-values
returns-clause-values g c = λ fits o keeps at width e s h. value_kept fits o keeps (c.state_laws.ensures (λ x. x)) at width e s h

pub returns-clause-truths : goal.returns-clause-truths
returns-clause-truths g c = λ fits good o keeps at test s some h.
    truth_kept fits good o keeps (c.state_laws.ensures (λ x. x)) at test s some h
