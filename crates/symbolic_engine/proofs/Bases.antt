-- What was found before, as a base.
use Rattle.std.proofs.Common.{◌≡◌, ℕ, List, length, Some, sym, subst}
use Rattle.path_formula.specs.View.{view}
use Rattle.path_cond.specs.Conditions.{AllTyped, Condition}
use Rattle.path_cond.specs.Seen.{seen}
use Rattle.refutation_check.specs.Longer.{with_widths}
use Rattle.refutation_check.specs.Trees.{IsJudgedByTrees}
use Rattle.refutation_check.specs.declared.outcome.Cause.TheVariants.{Outside, Cases, Coupled}
use Rattle.refutation_check.specs.declared.outcome.Verdict.{Verdict}
use Rattle.refutation_check.specs.declared.outcome.Verdict.TheVariants.{Sat, Undecided}
use Rattle.path_solver.specs.declared.base.Base.{Base}
use Rattle.path_solver.specs.declared.decision.Decided.{Decided}
use Rattle.path_solver.specs.declared.decision.Decided.TheVariants as decisions
use Rattle.path_solver.specs.Bases.{HasValues, IsBaseOf, broken_in}
use Rattle.path_solver.specs.Decisions.{IsDecisionOn}
use Rattle.exact_records.specs.Points.{IsKnown}
use Rattle.symbolic_engine.specs.Finding.{values_in, broken_in as broken_by}
use Rattle.symbolic_engine.proofs.RunLemmas.{some_same}

-- a decision's values are a base, and a base stays one with more symbols
pub record BasesKnown : Type 0 where
  pub judged : (c : Condition) → IsJudgedByTrees view c
  pub made : (c : Condition) (decision : Decided) (b : Base) → AllTyped c.widths c.entries → IsDecisionOn c decision → HasValues b.least decision → broken_in decision ≡ b.broken
      → b.formulas ≡ length c.entries → IsBaseOf c b
  pub wider : (c : Condition) (b : Base) (more : List ℕ) → IsBaseOf c b → IsBaseOf (with_widths c more) b

module _ (laws : BasesKnown) (cond : Condition) (b : Base) where
  -- the condition without its last symbols
  abbrev front : List ℕ → Condition
  front first = record cond { widths = first }

  base_by : (decision : Decided) (verdict : Verdict) (k : IsKnown (seen view cond) verdict) → IsDecisionOn (front k.first) decision → HasValues b.least decision
      → broken_in decision ≡ b.broken → b.formulas ≡ length cond.entries → IsBaseOf cond b
  base_by decision verdict k on values broken formulas =
      let c = front k.first in
      subst (λ (widths : List ℕ). IsBaseOf (record cond { widths = widths }) b) (sym k.widths)
      (laws.wider c b k.more (laws.made c decision b ((laws.judged c).typed.1 k.typed) on values broken formulas))

  -- the values that a known verdict tells
  pub base_known : (verdict : Verdict) → IsKnown (seen view cond) verdict → values_in verdict ≡ Some b.least → broken_by verdict ≡ b.broken → b.formulas ≡ length cond.entries → IsBaseOf cond b
  base_known (Sat values) k e broken formulas =
      base_by (decisions.Sat values) (Sat values) k (((laws.judged (front k.first)).met values).1 k.is) (some_same e) broken formulas
  base_known (Undecided (Outside pick values)) k e broken formulas =
      base_by (decisions.Undecided (Outside pick values)) (Undecided (Outside pick values)) k
      (((laws.judged (front k.first)).undecided (Outside pick values)).1 k.is) (some_same e) broken formulas
  base_known (Undecided (Cases count)) k e broken formulas = absurd (cc e)
  base_known (Undecided (Coupled count)) k e broken formulas = absurd (cc e)
