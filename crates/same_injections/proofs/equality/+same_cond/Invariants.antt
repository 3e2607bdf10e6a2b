use Rattle.std.proofs.Common.{◌≡◌, drop}
use Rattle.sefl_syntax.specs.Views.{cond_trees}
use Rattle.same_injections.specs.SameTests.{SameConds}
use Rattle.same_injections.proofs.equality.+same_cond.Given as goal

-- the chains are the same where what is left of them is, and the other way
abbrev pub invariant-same_conds-loop-member : goal.invariant-same_conds-loop-member
invariant-same_conds-loop-member l = record {
  at : l.at ≡ l.member-index;
  all : SameConds (cond_trees (drop l.member-index l.member-items)) (cond_trees (drop l.member-index l.others.items)) → SameConds (cond_trees l.member-items) (cond_trees l.others.items);
  rest : SameConds (cond_trees l.member-items) (cond_trees l.others.items) → SameConds (cond_trees (drop l.member-index l.member-items)) (cond_trees (drop l.member-index l.others.items));
}
