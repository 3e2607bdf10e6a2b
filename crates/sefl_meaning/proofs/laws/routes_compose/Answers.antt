use Rattle.sefl_meaning.proofs.Composing.{composed, prefix_open, more_offered, more_open}
use Rattle.sefl_meaning.proofs.laws.routes_compose.Goals as goal

pub returns-clause-composed : goal.returns-clause-composed
returns-clause-composed g c = λ t ds es r h. composed t ds es r h

pub returns-clause-prefix : goal.returns-clause-prefix
returns-clause-prefix g c = λ t ds es h. prefix_open t ds es h

pub returns-clause-more : goal.returns-clause-more
returns-clause-more g c = λ t ds d r h. (λ o. more_offered t ds d r h o, λ o. more_open t ds d r h o)
