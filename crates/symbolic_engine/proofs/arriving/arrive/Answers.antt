use Rattle.std.proofs.Common.{reverse, None}
use Rattle.net_check.specs.Network.{network}
use Rattle.symbolic_engine.specs.declared.stage.Stage.TheVariants.{Cut, Inside}
use Rattle.term_values.specs.TermValues.{terms}
use Rattle.symbolic_engine.specs.Origins.{progress_in}
use Rattle.symbolic_engine.specs.Stages.{from_port}
use Rattle.symbolic_engine.proofs.Ports.{arrives_at, goes_in, goes_no_further}
use Rattle.symbolic_engine.proofs.arriving.arrive.Goals as goal

pub returns-in_default : goal.returns-in_default
returns-in_default g c = λ begun.
    let net = network c.args.net.now in
    let x = c.args.run in
    arrives_at g.B.Origin.start net x c.in_ok-run.run' c.args.node c.args.side c.args.port
    (λ n. from_port net x.unknowns c.args.side c.args.hops c.args.node c.args.port (progress_in x n)) Cut c.is_own.ensures c.in_ok-run.ensures
    (λ n. goes_no_further net x.unknowns c.args.node c.args.port (progress_in x n) c.args.side c.args.hops c.in_default.ensures.left) begun

pub returns : goal.returns
returns g c = λ begun.
    let net = network c.args.net.now in
    let x = c.args.run in
    arrives_at g.B.Origin.start net x c.in_ok-run.run' c.args.node c.args.side c.args.port
    (λ n. from_port net x.unknowns c.args.side c.args.hops c.args.node c.args.port (progress_in x n))
    (Inside (record { node = c.args.node; side = c.args.side; port = c.args.port; hops = c.in-Some.rest }) None c.in_ok-frames.frames) c.is_own.ensures c.in_ok-run.ensures
    (λ n. goes_in net x.unknowns c.args.node c.args.port (progress_in x n) (reverse c.in_ok-frames.frames.items) c.args.side c.args.hops c.in-Some.rest
    c.in-Some.ensures.left (c.in_ok-frames.ensures (terms x.unknowns) (progress_in x n))) begun
