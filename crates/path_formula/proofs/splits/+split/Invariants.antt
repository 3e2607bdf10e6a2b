use Rattle.std.proofs.Common.{drop}
use Rattle.path_formula.specs.View.{views}
use Rattle.path_formula.specs.Splits.{EachCanSplit}
use Rattle.path_formula.proofs.splits.+split.Given as goal

-- all can be split where those that are left can, and the other way
abbrev pub invariant-each_can_split-loop-part : goal.invariant-each_can_split-loop-part
invariant-each_can_split-loop-part l = record {
  all : EachCanSplit (views (drop l.part-index l.part-items)) → EachCanSplit (views l.part-items);
  rest : EachCanSplit (views l.part-items) → EachCanSplit (views (drop l.part-index l.part-items));
}
