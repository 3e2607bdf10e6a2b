use Rattle.std.proofs.Common.{◌≡◌, drop}
use Rattle.sefl_syntax.specs.Views.{summand_trees}
use Rattle.same_injections.specs.SameTests.{SameSummands}
use Rattle.same_injections.proofs.equality.+same_expr.Given as goal

-- the sums are the same where what is left of them is, and the other way
abbrev pub invariant-same_summands-loop-sign : goal.invariant-same_summands-loop-sign
invariant-same_summands-loop-sign l = record {
  at : l.at ≡ l.sign-index;
  all : SameSummands (summand_trees (drop l.sign-index l.sign-items)) (summand_trees (drop l.sign-index l.others.items)) → SameSummands (summand_trees l.sign-items) (summand_trees l.others.items);
  rest : SameSummands (summand_trees l.sign-items) (summand_trees l.others.items) → SameSummands (summand_trees (drop l.sign-index l.sign-items)) (summand_trees (drop l.sign-index l.others.items));
}
