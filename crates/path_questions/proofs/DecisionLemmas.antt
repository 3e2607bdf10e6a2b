-- The decision of a condition, over the trees of its formulas.
use Rattle.std.proofs.Common.{◌≡◌, ◌∙◌, true, [], ◌∷◌, ◌++◌, Result, IfOk, ap, subst}
use Rattle.std.proofs.lemmas.List.{map-append}
use Rattle.path_cond.specs.Conditions.{Condition}
use Rattle.path_cond.specs.Seen.{AllTyped, entry_seen, seen}
use Rattle.path_formula.specs.Formulas.{FormulaTree}
use Rattle.path_formula.specs.View.{view}
use Rattle.path_formula.specs.declared.formula.Formula.{Formula}
use Rattle.path_solver.specs.Decisions.{IsDecisionOn}
use Rattle.path_solver.specs.declared.decision.Decided.{Decided}
use Rattle.path_solver.specs.declared.decision.Decided.TheVariants.{Sat, Unsat, Undecided}
use Rattle.refutation_check.specs.Trees.{IsJudgedByTrees}
use Rattle.exact_records.specs.Records.{SymCondition, with_test}
use Rattle.path_questions.specs.declared.judging.Judged.{Judged}
use Rattle.path_questions.specs.Deciding.{Says, judged_by}

pub over_trees : (c : Condition) → IsJudgedByTrees view c → AllTyped view c.widths c.entries → (d : Decided) → IsDecisionOn c d → Says (seen view c) (judged_by d)
over_trees c judged typed (Sat values) h = (judged.met values).0 h
over_trees c judged typed (Unsat refutation) h = (
  judged.refuted.0 h.0,
  (refutation, record { accepted = (judged.accepted refutation).0 h.1; typed = judged.typed.0 typed }),
)
over_trees c judged typed (Undecided cause) h = (cause, (judged.undecided cause).0 h)

module _ (condition longer : Condition) (f : Formula)
    (is : longer ≡ record condition { entries = condition.entries ++ (f, true) ∷ [] }) where
  trees_are : seen view longer ≡ with_test (seen view condition) (view f) true
  trees_are =
      ap (seen view) is
      ∙ (λ j. record { widths = condition.widths; entries = map-append (entry_seen view) condition.entries ((f, true) ∷ []) j; most_choices = condition.most_choices })

  -- what is said of the longer condition is said of the trees with this one more
  pub says_with : {E : Type 0} (tree : FormulaTree) → view f ≡ tree → (r : Result Judged E) → IfOk r (Says (seen view longer))
      → IfOk r (Says (with_test (seen view condition) tree true))
  says_with tree e r h =
      subst (λ (c : SymCondition). IfOk r (Says c)) (trees_are ∙ ap (λ t. with_test (seen view condition) t true) e) h
