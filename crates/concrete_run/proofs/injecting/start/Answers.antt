use Rattle.std.proofs.Common.{ℕ, ap, refl}
use Rattle.sn_width.specs.declared.ids.NodeId.{NodeId}
use Rattle.net_check.specs.Network.{entry, network, unknown_count}
use Rattle.sefl_meaning.specs.Values.{numbers}
use Rattle.sefl_meaning.specs.View.{carried_of}
use Rattle.concrete_run.proofs.Beginning.{goes, starts_but, starts}
use Rattle.concrete_run.proofs.injecting.start.Goals as goal

pub carried-requires : goal.carried-requires
carried-requires c =
    let net = network c.args.net.now in
    let p = c.args.injection.now in
    let v = c.args.values.now in
    let raw = c.raw-raw.result.now in
    let carried = c.accepted_injections_go.ensures.carries (numbers v (unknown_count (entry p))) net (entry p) c.requires c.keeps_the_rules.ensures.widths in
    goes net p v raw c.deref.result.now raw.tests.items
    c.unknowns-unknowns.result c.place.result.0 c.empty-iterations.result c.raw-raw.ensures c.deref.ensures.value refl
    c.unknowns-unknowns.ensures (ap (λ (q : NodeId × ℕ). q.0) c.place.ensures) c.empty-iterations.ensures carried.0 carried.1

pub returns-in-Some-2 : goal.returns-in-Some-2
returns-in-Some-2 c = (
  carried_of c.in_ok-state.state,
  starts_but (network c.args.net.now) c.args.injection.now c.args.values.now c.raw-raw.result.now c.deref.result.now c.deref-2.result.now
      c.unknowns-unknowns.result c.place.result.0 c.empty-iterations.result c.raw-raw.ensures c.deref.ensures.value c.deref-2.ensures.value
      c.unknowns-unknowns.ensures (ap (λ (q : NodeId × ℕ). q.0) c.place.ensures) c.empty-iterations.ensures
      (carried_of c.in_ok-state.state) c.in-Some-2.index c.in_default.ensures c.in_ok-state.ensures (rw c.in-Some-2.is at c.in_ok-index.ensures),
)

pub returns : goal.returns
returns c =
    starts (network c.args.net.now) c.args.injection.now c.args.values.now c.raw-raw.result.now c.deref.result.now c.deref-2.result.now
    c.unknowns-unknowns.result c.place.result.0 c.empty-iterations.result c.raw-raw.ensures c.deref.ensures.value c.deref-2.ensures.value
    c.unknowns-unknowns.ensures (ap (λ (q : NodeId × ℕ). q.0) c.place.ensures) c.empty-iterations.ensures
    (carried_of c.in_ok-state.state) c.in_default.ensures c.in_ok-state.ensures (rw c.in-None.is at c.in_ok-index.ensures)
