use Rattle.std.proofs.Common.{arith}
use Rattle.net_check.specs.Lookups.{position_at}
use Rattle.net_check.proofs.Naming.{names_are_entered}
use Rattle.net_check.proofs.names.ids_of.Goals as goal

pub returns : goal.returns
returns c = λ name.
    names_are_entered name (position_at c.loop-number.ids.entries name) c.args.nodes.now c.loop-number.number (omega arith) (c.loop-number.invariant name)
