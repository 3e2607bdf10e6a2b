-- What is answered of a list of records.
use Rattle.std.specs.Prelude.{ℕ, ◌≡◌, ◌⊎◌, List, ◌∷◌, ◌++◌, length, Result, Ok, Err}
use Rattle.std.specs.List.{AllByRecursion}
use Rattle.exact_records.specs.Records.{HasMeaning, RecordTree, SymStart}
use Rattle.record_checks.specs.Counts.{counts_of, with_record}
use Rattle.record_checks.specs.Parts.{IsBroken}
use Rattle.record_checks.specs.declared.counts.Confirmed.{Confirmed}
use Rattle.record_checks.specs.declared.fault.ReplayFault.{ReplayFault}
use Rattle.record_checks.specs.declared.fault.ReplayFault.TheVariants.{NotConfirmed, NoMemory}
use Rattle.record_checks.specs.declared.part.Part.{Part}

module _ (s : SymStart) where
  -- the record of this number is the first that has not its own meaning, and this is its first broken part
  pub record IsFirstBroken (number : ℕ) (part : Part) (xs : List RecordTree) : Type 0 where
    pub front : List RecordTree
    pub it : RecordTree
    pub later : List RecordTree
    pub is : xs ≡ front ++ it ∷ later
    pub at : length front ≡ number
    pub before : AllByRecursion (HasMeaning s) front
    pub broken : IsBroken s part it

  -- each record has its own meaning, and these are the counts; or this is the first that has not
  abbrev pub Confirms : List RecordTree → Result Confirmed ReplayFault → Type 0
  Confirms xs (Ok counts) = AllByRecursion (HasMeaning s) xs × (counts ≡ counts_of xs)
  Confirms xs (Err (NotConfirmed number part)) = IsFirstBroken number part xs
  Confirms xs (Err NoMemory) = Unit {0}

  -- this is the answer, but for want of memory
  abbrev pub OrNoMemory : Result Confirmed ReplayFault → Result Confirmed ReplayFault → Type 0
  OrNoMemory wanted result = (result ≡ wanted) ⊎ (result ≡ Err NoMemory)

  -- and the other way: what the records are is what is answered
  pub record IsConfirmedBack (xs : List RecordTree) (result : Result Confirmed ReplayFault) : Type 0 where
    pub confirmed : AllByRecursion (HasMeaning s) xs → OrNoMemory (Ok (counts_of xs)) result
    pub refused : (number : ℕ) (part : Part) → IsFirstBroken number part xs → OrNoMemory (Err (NotConfirmed number part)) result

  -- the record has its own meaning, and is counted; or it has not, and this is its number and its first broken part
  abbrev pub ConfirmsNext : RecordTree → ℕ → Confirmed → Result Confirmed ReplayFault → Type 0
  ConfirmsNext x number counts (Ok new) = HasMeaning s x × (new ≡ with_record x counts)
  ConfirmsNext x number counts (Err (NotConfirmed at part)) = (at ≡ number) × IsBroken s part x
  ConfirmsNext x number counts (Err NoMemory) = Unit {0}
