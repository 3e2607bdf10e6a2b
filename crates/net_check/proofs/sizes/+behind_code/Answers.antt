use Rattle.std.proofs.Common.{arith}
use Rattle.net_check.proofs.Counting.{code_size-drop}
use Rattle.net_check.proofs.sizes.+behind_code.Goals as goal

pub behind_code-loop-instr-preserved : goal.behind_code-loop-instr-preserved
behind_code-loop-instr-preserved t c =
    omega (
      arith,
      code_size-drop c.args.code.now c.loop-instr.instr-index c.instr-item.result c.loop-instr-test.true c.instr-item.is,
      c.loop-instr.invariant,
      c.in_ok-end.ensures,
    )
