use Rattle.command_laws.proofs.Followed.{path_followed}
use Rattle.command_laws.proofs.laws.walks_follow_paths.Goals as goal

pub returns : goal.returns
returns c = λ net i hops most limit rs x v ending whole exact has carries written.
    path_followed net i hops most limit rs exact x v ending whole has carries written
