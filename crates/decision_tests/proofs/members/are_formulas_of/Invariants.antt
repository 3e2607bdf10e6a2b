use Rattle.std.proofs.Common.{drop}
use Rattle.path_formula.specs.Typed.{AreTyped}
use Rattle.path_formula.specs.View.{views}
use Rattle.decision_tests.proofs.members.are_formulas_of.Given as goal

-- where those that are left are typed, all are
abbrev pub invariant-loop-part : goal.invariant-loop-part
invariant-loop-part l = AreTyped l.cond.widths (views (drop l.part-index l.parts)) → AreTyped l.cond.widths (views l.parts)
