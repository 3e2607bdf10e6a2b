use Rattle.std.proofs.Common.{◌≡◌, map, subst, sym, IfOk}
use Rattle.net_check.specs.Network.{entry, network}
use Rattle.exact_records.specs.Packets.{AreExactFor}
use Rattle.exact_records.specs.View.{record_trees}
use Rattle.path_questions.specs.Formulas.{explored}
use Rattle.compare_meaning.specs.Paths.{delivered_from}
use Rattle.net_compare.specs.Delivering.{AreStatesOf}
use Rattle.net_compare.specs.Saying.{seen_path}
use Rattle.net_compare.proofs.nets.paths_of.Goals as goal

pub deliveries_of-requires-clause-exact : goal.deliveries_of-requires-clause-exact
deliveries_of-requires-clause-exact c = (
  c.requires.exact.0,
  subst (λ rs. AreExactFor (network c.args.net.now) (entry c.args.injection.now) c.args.hops c.requires.exact.0 (record_trees rs)) (sym c.as_slice.ensures.value) c.requires.exact.1,
)

pub deliveries_of-requires-clause-states : goal.deliveries_of-requires-clause-states
deliveries_of-requires-clause-states c =
    let start = explored (network c.args.net.now) (entry c.args.injection.now) c.args.hops in
    subst (λ rs. AreStatesOf start (record_trees rs) c.as_slice-2.result.now) (sym c.as_slice.ensures.value)
    (subst (AreStatesOf start (record_trees c.args.found.now.records.items)) (sym c.as_slice-2.ensures.value) c.requires.states)

pub returns-clause-paths : goal.returns-clause-paths
returns-clause-paths c =
    let net = network c.args.net.now in
    let start = explored net (entry c.args.injection.now) c.args.hops in
    subst (λ rs. IfOk c.deliveries_of.result (λ list. map seen_path list.items ≡ delivered_from net start 0 (record_trees rs))) c.as_slice.ensures.value c.deliveries_of.ensures.paths
