use Rattle.std.proofs.Common.{rules}
use Rattle.std.proofs.lemmas.List.Sorted.{IsNonDecreasingBy-from_sort_by_key}
use Rattle.fib_model.specs.Nodes.{chain_key}
use Rattle.fib_model.proofs.node.longest_first.Goals as goal

pub returns-clause-order : goal.returns-clause-order
returns-clause-order c = IsNonDecreasingBy-from_sort_by_key chain_key _ c.sort_unstable_by_key.ensures.sorted (λ a r q k. search rules)
