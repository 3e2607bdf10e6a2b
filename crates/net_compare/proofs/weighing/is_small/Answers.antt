use Rattle.net_compare.proofs.WeighLemmas.{small_by}
use Rattle.net_compare.proofs.weighing.is_small.Goals as goal
use Rattle.std.proofs.Common.{◌≡◌, ◌≤◌, ◌-◌, ◌^◌, length, rules}

pub returns : goal.returns
returns c = λ yes.
    let all : c.args.most ≡ 2 ^ 64 - 1 = search rules in
    let few : length c.args.symbols.now.widths ≤ 64 = search rules in
    small_by c.few_symbols_are_within_the_limits.ensures c.args.symbols.now.widths c.args.most all few
