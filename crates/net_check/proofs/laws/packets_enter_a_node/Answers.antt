use Rattle.std.proofs.Common.{◌<◌, length, subst, sym}
use Rattle.std.proofs.lemmas.Option.{slice_get_within}
use Rattle.net_check.proofs.laws.packets_enter_a_node.Goals as goal

pub returns : goal.returns
returns c = λ net i (j, sound, is, own).
    let named = c.positions_have_names.ensures.some j.net i.own.node i.node.0 own.node in
    subst (λ n. i.node.0 < length n.nodes) (sym is.own) (slice_get_within j.net.nodes i.node.0 named.0 named.1)
