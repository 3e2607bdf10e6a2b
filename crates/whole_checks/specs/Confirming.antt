-- What is answered of a list of records that is to leave nothing out.
use Rattle.std.specs.Prelude.{ℕ, suc, ◌≡◌, ◌⊎◌, List, [], ◌∷◌, Option, None, Some, Result, Ok, Err}
use Rattle.std.specs.List.{AllByRecursion}
use Rattle.sefl_meaning.specs.declared.walk.Decision.{Decision}
use Rattle.exact_records.specs.Records.{HasMeaning, RecordTree, SymStart, decisions_of}
use Rattle.record_checks.specs.Counts.{counts_of, with_record}
use Rattle.record_checks.specs.Parts.{IsBroken}
use Rattle.record_checks.specs.declared.counts.Confirmed.{Confirmed}
use Rattle.record_checks.specs.declared.fault.ReplayFault.{ReplayFault}
use Rattle.record_checks.specs.declared.fault.ReplayFault.TheVariants.{NotConfirmed as IsBrokenAt, NoMemory as NoReplay}
use Rattle.record_checks.specs.declared.part.Part.{Part}
use Rattle.whole_checks.specs.declared.fault.WholeFault.{WholeFault}
use Rattle.whole_checks.specs.declared.fault.WholeFault.TheVariants.{NotConfirmed, NotWhole, NoMemory}
use Rattle.whole_checks.specs.Chains.{Ends, IsChain, Joins}

-- why a record is not confirmed by itself
abbrev pub fault_of : ReplayFault → WholeFault
fault_of (IsBrokenAt number part) = NotConfirmed number part
fault_of NoReplay = NoMemory

-- what is answered of records
abbrev pub Answer : Type 0
Answer = Result Confirmed WholeFault

module _ (s : SymStart) where
  -- nothing is left: nothing comes behind the last record, and these are the counts; or something does, and there is no record of this number
  abbrev pub EndsSo : Option (List Decision) → ℕ → Confirmed → Answer → Type 0
  EndsSo before number counts answer = (Ends s before × (answer ≡ Ok counts)) ⊎ ((Ends s before → ⊥) × (answer ≡ Err (NotWhole number)))

  -- The records from this number on, behind these decisions and with these counts. The first that has not its own meaning, or does not come
  -- next, is answered; the part before the place.
  abbrev pub ConfirmsBehind : Option (List Decision) → ℕ → Confirmed → List RecordTree → Answer → Type 0
  ConfirmsBehind before number counts [] answer = EndsSo before number counts answer
  ConfirmsBehind before number counts (x ∷ xs) answer =
      ((part : Part) × IsBroken s part x × (answer ≡ Err (NotConfirmed number part)))
      ⊎ (HasMeaning s x × (Joins s before x → ⊥) × (answer ≡ Err (NotWhole number)))
      ⊎ (HasMeaning s x × Joins s before x × ConfirmsBehind (Some (decisions_of x)) (suc number) (with_record x counts) xs answer)

  -- what is answered of all, unless memory ends
  abbrev pub ConfirmsWhole : List RecordTree → Answer → Type 0
  ConfirmsWhole xs answer = (answer ≡ Err NoMemory) ⊎ ConfirmsBehind None 0 (counts_of []) xs answer

-- the answer of records is one
abbrev pub HaveOneAnswer : SymStart → List RecordTree → Type 0
HaveOneAnswer s xs = (a b : Answer) → ConfirmsBehind s None 0 (counts_of []) xs a → ConfirmsBehind s None 0 (counts_of []) xs b → a ≡ b

-- records with counts have their meaning, and leave nothing out
abbrev pub AreWhole : SymStart → List RecordTree → Type 0
AreWhole s xs = (counts : Confirmed) → ConfirmsBehind s None 0 (counts_of []) xs (Ok counts) → AllByRecursion (HasMeaning s) xs × IsChain s xs
