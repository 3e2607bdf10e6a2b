use Rattle.std.proofs.Common.{◌≡◌, ◌∙◌, ◌<◌, ◌^◌, ◌==◌, All, filter, sym, subst}
use Rattle.std.proofs.lemmas.Result.{IfOk-weaker}
use Rattle.mac_model.specs.MacTables.{Row}
use Rattle.mac_model.proofs.SetLemmas.{all_kept, own_is}
use Rattle.mac_model.proofs.sets.own.Goals as goal

pub known-requires : goal.known-requires
known-requires c =
    let is : c.deref.result.now ≡ filter (λ (row : Row). row.1 == c.args.port) c.args.rows.now = c.deref.ensures.value ∙ c.in_ok-rows.ensures in
    subst (All (λ (row : Row). row.0 < 2 ^ 48)) (sym is) (all_kept (λ row. row.1 == c.args.port) c.args.rows.now c.requires.addresses)

pub returns : goal.returns
returns c =
    let is : c.deref.result.now ≡ filter (λ (row : Row). row.1 == c.args.port) c.args.rows.now = c.deref.ensures.value ∙ c.in_ok-rows.ensures in
    IfOk-weaker c.known.result _ _ (λ set made. own_is c.args.port c.args.rows.now c.deref.result.now is c.requires.apart set made) c.known.ensures
