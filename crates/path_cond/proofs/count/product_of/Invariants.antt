use Rattle.std.proofs.Common.{◌≡◌, ◌*◌, ◌<◌, ◌^◌, drop}
use Rattle.path_formula.specs.CaseCounts.{capped}
use Rattle.path_cond.specs.Counts.{product}
use Rattle.path_cond.proofs.count.product_of.Given as goal

-- the product so far, times that of the numbers that are left, is that of all
abbrev pub invariant-loop-number : goal.invariant-loop-number
invariant-loop-number l = record {
  all : capped (product l.numbers) ≡ capped (l.total * product (drop l.number-index l.numbers));
  fits : l.total < 2 ^ 64;
}
