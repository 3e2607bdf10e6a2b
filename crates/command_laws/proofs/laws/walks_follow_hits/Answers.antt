use Rattle.command_laws.proofs.Followed.{hit_followed}
use Rattle.command_laws.proofs.laws.walks_follow_hits.Goals as goal

pub returns : goal.returns
returns c = λ net i hops most limit rs q number v ending whole exact hit written.
    hit_followed net i hops most limit rs exact q number v ending whole hit written
