use Rattle.std.proofs.Common.{◌≡◌, ◌+◌, ◌%◌, ◌^◌, take}
use Rattle.lin_term.specs.Terms.{weighted_sum}
use Rattle.lin_term.proofs.term.Term.value.Given as goal

abbrev pub invariant-loop-symbol : goal.invariant-loop-symbol
invariant-loop-symbol l =
    l.total ≡ (l.self-inside.constant + weighted_sum (take l.symbol-index l.symbol-items) l.values) % 2 ^ l.self-inside.width
