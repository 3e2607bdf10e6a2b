use Rattle.std.proofs.Common.{◌≡◌, ◌+◌, ◌∙◌, ap₂, add_assoc, arith}
use Rattle.sefl_syntax.specs.Views.{code_tree}
use Rattle.net_check.specs.Lookups.{place_at}
use Rattle.net_check.specs.Places.{code_size}
use Rattle.net_check.proofs.Placing.{code_enters, codes_size-drop}
use Rattle.net_check.proofs.codes.enter_ports.Goals as goal

pub loop-index-preserved : goal.loop-index-preserved
loop-index-preserved c =
    let code = c.index-ports-index.result in
    let codes = c.loop-index.codes in
    let entered = c.enter_port.new.codes in
    let size = code_size (code_tree code.code.items) in
    let ends : c.in_ok-site.site ≡ c.loop-index.site + (1 + size)
    = c.in_ok-site.ensures ∙ ap₂ (λ s l. s + code_size (code_tree l)) c.in_ok-behind_item.ensures c.deref.ensures.value ∙ add_assoc c.loop-index.site 1 size in
    record {
      end = omega (arith, codes_size-drop c.args.ports.now c.loop-index.index code c.loop-index-test.true c.index-ports-index.is, c.loop-index.invariant.end, ends);
      entered = λ other side port.
          code_enters c.args.id other side port c.loop-index.site c.in_ok-site.site c.args.ports.now c.loop-index.index code
          (place_at codes.ins.entries codes.outs.entries other side port) (place_at entered.ins.entries entered.outs.entries other side port) _
          c.loop-index-test.true c.index-ports-index.is ends (c.in_ok-enter_port.ensures other side port) (c.loop-index.invariant.entered other side port);
    }
