-- Records that no number of choices of cases leaves undecided.
use Rattle.std.specs.Prelude.{ℕ, ◌≡◌, ◌-◌, ◌^◌, List, Option, None, Some}
use Rattle.std.specs.List.{AllByRecursion}
use Rattle.refutation_check.specs.declared.outcome.Cause.{Cause}
use Rattle.refutation_check.specs.declared.outcome.Cause.TheVariants.{Outside, Cases, Coupled}
use Rattle.refutation_check.specs.declared.outcome.Verdict.{Verdict}
use Rattle.refutation_check.specs.declared.outcome.Verdict.TheVariants.{Sat, Undecided}
use Rattle.net_check.specs.Network.{Network, Entry}
use Rattle.exact_records.specs.Packets.{AreExactFor}
use Rattle.exact_records.specs.Records.{RecordTree, path, pruned, unexplored}

-- the bound that no count of choices is above
abbrev pub all_choices : ℕ
all_choices = 2 ^ 64 - 1

-- the cause is the number of choices of cases
abbrev pub IsOfCases : Cause → Type 0
IsOfCases (Outside pick values) = ⊥
IsOfCases (Cases count) = Unit {0}
IsOfCases (Coupled count) = ⊥

-- it leaves nothing undecided
abbrev pub IsTriedInAll : Verdict → Type 0
IsTriedInAll (Sat values) = Unit {0}
IsTriedInAll (Undecided cause) = IsOfCases cause → ⊥

abbrev pub IsTriedBefore : Option Verdict → Type 0
IsTriedBefore None = Unit {0}
IsTriedBefore (Some before) = IsTriedInAll before

-- neither a path nor what stands before a refuted side is undecided for it
abbrev pub HasAllCasesTried : RecordTree → Type 0
HasAllCasesTried (path ds places end' fields verdict) = IsTriedInAll verdict
HasAllCasesTried (pruned ds before refutation) = IsTriedBefore before
HasAllCasesTried (unexplored ds) = Unit {0}

-- exact records of an injection with that bound are all so
abbrev pub AllCasesAreTried : Type 0
AllCasesAreTried = (net : Network) (i : Entry) (hops limit : ℕ) (rs : List RecordTree) → i.most_choices ≡ all_choices
    → AreExactFor net i hops limit rs → AllByRecursion HasAllCasesTried rs
