use Rattle.std.proofs.lemmas.Result.{IfOk-weaker}
use Rattle.mac_model.proofs.SetLemmas.{unknown_is}
use Rattle.mac_model.proofs.sets.unknown.Goals as goal

pub returns : goal.returns
returns c = IfOk-weaker c.other.result _ _ (λ set made. unknown_is c.args.rows.now c.in_ok-known.known c.in_ok-known.ensures set made) c.other.ensures
