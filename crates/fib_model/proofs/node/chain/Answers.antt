use Rattle.std.proofs.Common.{◌≤◌, All, sym, subst, arith}
use Rattle.fib_model.specs.Prefixes.{Row}
use Rattle.fib_model.proofs.Spans.{ordered_rows}
use Rattle.fib_model.proofs.node.chain.Goals as goal

pub chain_node-requires-clause-length : goal.chain_node-requires-clause-length
chain_node-requires-clause-length c =
    subst (All (λ (row : Row). row.1 ≤ 48)) (sym c.deref.ensures.value)
    (λ k d h.
    let short = (ordered_rows c.args.rows.now c.in_ok-ordered.ordered.items c.in_ok-ordered.ensures.same c.requires.prefixes k d h).0 in
    omega (arith, short))

pub chain_node-requires-clause-prefix : goal.chain_node-requires-clause-prefix
chain_node-requires-clause-prefix c = λ kind.
    subst (All (λ (row : Row). row.1 ≤ 32)) (sym c.deref.ensures.value)
    (λ k d h. (ordered_rows c.args.rows.now c.in_ok-ordered.ordered.items c.in_ok-ordered.ensures.same c.requires.prefixes k d h).0)
