use Rattle.std.proofs.Common.{Ok, refl}
use Rattle.net_check.specs.Network.{entry, network}
use Rattle.sn_width.specs.declared.memory.NoMemory.{NoMemory}
use Rattle.symbolic_engine.proofs.Explored.{kept_found}
use Rattle.symbolic_engine.proofs.exploring.explore.Goals as goal

pub returns : goal.returns
returns g c =
    kept_found {E = NoMemory} (network c.args.net.now) (entry c.args.injection.now) c.args.hops c.args.limit _ c.explore_into.new.out.items.items c.args.steps.now c.explore_into.new.steps
    (Ok c.in_ok-explore_into.field-0) (λ xs stands. stands) refl c.in_ok-explore_into.ensures.explored
