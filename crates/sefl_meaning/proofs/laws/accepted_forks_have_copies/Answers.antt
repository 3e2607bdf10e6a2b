use Rattle.sefl_meaning.proofs.Forking.{accepted_codes, enter_splits}
use Rattle.sefl_meaning.proofs.laws.accepted_forks_have_copies.Goals as goal

pub returns : goal.returns
returns g c = λ o net hops port node p accepted.
    enter_splits o net (accepted_codes net (c.accepted_parts_keep_the_rules.ensures.net net accepted)) hops node port p
