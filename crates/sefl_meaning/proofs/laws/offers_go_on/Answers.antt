use Rattle.sefl_meaning.proofs.Composing.{open_offered, offered_open, offers_ascend}
use Rattle.sefl_meaning.proofs.laws.offers_go_on.Goals as goal

pub returns-clause-exact : goal.returns-clause-exact
returns-clause-exact g c = λ t d. (λ h. open_offered t d h, λ h. offered_open t d h)

pub returns-clause-ascend : goal.returns-clause-ascend
returns-clause-ascend g c = λ t. offers_ascend t
