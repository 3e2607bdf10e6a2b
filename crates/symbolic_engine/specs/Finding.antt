-- What is found of a condition.
use Rattle.std.specs.Prelude.{ℕ, List, Option, None, Some}
use Rattle.path_cond.specs.Seen.{AllTyped, itself}
use Rattle.refutation_check.specs.declared.outcome.Cause.TheVariants.{Outside, Cases, Coupled}
use Rattle.refutation_check.specs.declared.outcome.Verdict.{Verdict}
use Rattle.refutation_check.specs.declared.outcome.Verdict.TheVariants.{Sat, Undecided}
use Rattle.exact_records.specs.Records.{IsFoundRefuted, IsVerdictOn, SymCondition}
use Rattle.symbolic_engine.specs.declared.deciding.Judged.{Judged}
use Rattle.symbolic_engine.specs.declared.deciding.Judged.TheVariants.{Open, Refuted}

-- the verdict on the condition, whose formulas are typed
pub record IsOpenBy (c : SymCondition) (verdict : Verdict) : Type 0 where
  pub typed : AllTyped itself c.widths c.entries
  pub verdict_is : IsVerdictOn c verdict

abbrev pub IsFoundOf : SymCondition → Judged → Type 0
IsFoundOf c (Open verdict) = IsOpenBy c verdict
IsFoundOf c (Refuted refutation) = IsFoundRefuted c refutation

-- the least values that a verdict tells
abbrev pub values_in : Verdict → Option (List ℕ)
values_in (Sat values) = Some values
values_in (Undecided (Outside pick values)) = Some values
values_in (Undecided (Cases count)) = None
values_in (Undecided (Coupled count)) = None

-- the outside formula that a verdict says to be broken
abbrev pub broken_in : Verdict → Option ℕ
broken_in (Sat values) = None
broken_in (Undecided (Outside pick values)) = Some pick
broken_in (Undecided (Cases count)) = None
broken_in (Undecided (Coupled count)) = None
