-- Records that are handed over one by one, and what is answered of them.
use Rattle.std.specs.Prelude.{ℕ, ◌≡◌, List, [], ◌∷◌, Option, None, Some, Result, Ok, Err}
use Rattle.path_records.specs.declared.records.Record.{Record}
use Rattle.exact_records.specs.Records.{RecordTree, SymStart}
use Rattle.exact_records.specs.View.{record_trees}
use Rattle.record_checks.specs.Confirming.{Confirms, ConfirmsNext}
use Rattle.record_checks.specs.declared.counts.Confirmed.{Confirmed}
use Rattle.record_checks.specs.declared.fault.ReplayFault.{ReplayFault}
use Rattle.record_checks.specs.declared.fault.ReplayFault.TheVariants.{NotConfirmed, NoMemory}

-- by what one call may hand over and leave
module _ {S : Type 0} (steps : S → Option Record → S → Type 0) where
  -- these records were handed over, from state to state
  abbrev pub HandsOver : S → List Record → S → Type 0
  HandsOver u [] v = v ≡ u
  HandsOver u (x ∷ xs) v = (m : S) × steps u (Some x) m × HandsOver m xs v

  -- and none behind them
  pub record HandsAll (u : S) (xs : List Record) (v : S) : Type 0 where
    pub before : S
    pub over : HandsOver u xs before
    pub last : steps before None v

  -- this is so of all records that were handed over
  abbrev pub OfAll : S → S → (List RecordTree → Type 0) → Type 0
  OfAll u v Fact = (xs : List Record) × HandsAll u xs v × Fact (record_trees xs)

  -- what is answered of all records that were handed over
  abbrev pub ConfirmsAll : SymStart → S → S → Result Confirmed ReplayFault → Type 0
  ConfirmsAll s u v (Ok counts) = OfAll u v (λ xs. Confirms s xs (Ok counts))
  ConfirmsAll s u v (Err (NotConfirmed number part)) = OfAll u v (λ xs. Confirms s xs (Err (NotConfirmed number part)))
  ConfirmsAll s u v (Err NoMemory) = Unit {0}

-- the answer with the record of this number; behind one that is not confirmed it stays
abbrev pub ConfirmsMore : SymStart → RecordTree → ℕ → Result Confirmed ReplayFault → Result Confirmed ReplayFault → Type 0
ConfirmsMore s x number (Ok counts) result = ConfirmsNext s x number counts result
ConfirmsMore s x number (Err fault) result = result ≡ Err fault
