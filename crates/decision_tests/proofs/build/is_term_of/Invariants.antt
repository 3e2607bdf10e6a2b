use Rattle.std.proofs.Common.{drop}
use Rattle.path_formula.specs.Typed.{PartsAreTyped}
use Rattle.decision_tests.proofs.build.is_term_of.Given as goal

abbrev pub invariant-loop-index : goal.invariant-loop-index
invariant-loop-index l = PartsAreTyped l.cond.widths l.term.width (drop l.index l.term.parts) → PartsAreTyped l.cond.widths l.term.width l.term.parts
