use Rattle.metadata_scopes.proofs.AscendingLemmas.{snapshot_ascends}
use Rattle.metadata_scopes.proofs.laws.snapshot_ascends.Goals as goal

pub returns : goal.returns
returns g c = λ node names scopes ascending. snapshot_ascends scopes names ascending node
