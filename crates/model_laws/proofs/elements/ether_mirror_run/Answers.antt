use Rattle.net_check.specs.Network.{network}
use Rattle.sefl_meaning.specs.Carried.{scene_at}
use Rattle.sefl_meaning.specs.View.{carried_of}
use Rattle.click_elements.specs.Classes as class
use Rattle.model_laws.specs.Rows as rows
use Rattle.model_laws.proofs.ElementRuns.{runs_as}
use Rattle.std.proofs.Common.{codes}
use Rattle.sn_width.specs.declared.faults.LayoutFault.TheVariants.{NoMeta}
use Rattle.model_laws.proofs.Stacks.{exact_keys}
use Rattle.model_laws.proofs.Swaps.{key_of, ether_mirror_goes}
use Rattle.model_laws.proofs.elements.ether_mirror_run.Goals as goal

pub returns : goal.returns
returns c =
    let net = network c.args.net.now in
    let at = scene_at net c.args.node in
    let v = c.args.values.now in
    let s = carried_of c.args.state.now in
    runs_as c.args.config.now c.args.element net c.args.node v s class.ether_mirror
    (λ e unknowns. rows.ether_mirror_row at s)
    (λ e unknowns site begun choices next. ether_mirror_goes v unknowns at site s choices begun next (λ put pushes a.
    let h = c.hold_then_pop.ensures NoMeta (key_of v unknowns at (codes "m48")) 48 s.scopes put exact_keys c.metas-stacks.ensures.stacks.ascending c.metas-stacks.ensures.stacks.none_empty pushes a in
    record { holding = h.0; sets = h.1; reads = h.2; pops = h.3 }))
