use Rattle.std.proofs.Common.{arith}
use Rattle.net_check.specs.Lookups.{place_at}
use Rattle.net_check.proofs.Placing.{site_goes_on, node_enters, nodes_are_entered}
use Rattle.net_check.proofs.codes.codes_of.Goals as goal

pub loop-number-preserved : goal.loop-number-preserved
loop-number-preserved c =
    let node = c.index-nodes-number.result in
    record {
      site = site_goes_on c.args.nodes.now c.loop-number.number c.loop-number.site c.in_ok-site.site node
          c.loop-number-test.true c.index-nodes-number.is c.loop-number.invariant.site c.in_ok-site.ensures.end;
      entered = λ other side port.
          node_enters c.args.nodes.now node c.in_ok-id_of.field-0 other side port c.loop-number.site c.loop-number.number
          (place_at c.loop-number.codes.ins.entries c.loop-number.codes.outs.entries other side port)
          (place_at c.enter_node.new.codes.ins.entries c.enter_node.new.codes.outs.entries other side port)
          c.loop-number-test.true c.index-nodes-number.is c.in_ok-id_of.ensures c.loop-number.invariant.site
          (c.loop-number.invariant.entered other side port) (c.in_ok-site.ensures.entered other side port);
    }

pub returns : goal.returns
returns c = λ other side port.
    nodes_are_entered c.args.nodes.now other side port c.loop-number.number
    (place_at c.loop-number.codes.ins.entries c.loop-number.codes.outs.entries other side port) (omega arith) (c.loop-number.invariant.entered other side port)
