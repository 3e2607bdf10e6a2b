use Rattle.std.proofs.Common.{subst}
use Rattle.net_check.specs.Network.{entry, network}
use Rattle.sefl_meaning.specs.View.{carried_of}
use Rattle.concrete_run.specs.Answers.{IsOne}
use Rattle.concrete_run.proofs.Moving.{walks_at_start}
use Rattle.concrete_run.proofs.walks.walk_one.Goals as goal

pub returns : goal.returns
returns c =
    let i = entry c.args.injection.now in
    let s = carried_of c.in_ok-state.state in
    record {
      carried = s;
      starts = c.in_ok-state.ensures;
      walks = subst (IsOne c.args.decisions.now c.in_ok-found.found)
          (walks_at_start (network c.args.net.now) i c.args.values.now c.args.hops s c.at_start-pending.result c.at_start-pending.ensures) c.in_ok-found.ensures;
    }
