-- What is answered of the records of a net and an injection.
use Rattle.std.specs.Prelude.{ℕ, ◌≡◌, ◌⊎◌, [], List, Option, None, Result, Ok, Err}
use Rattle.std.specs.List.{AllByRecursion}
use Rattle.sefl_meaning.specs.Network.{Network, Entry}
use Rattle.path_records.specs.declared.records.Record.{Record}
use Rattle.exact_records.specs.Packets.{HasPacket, IsExplored, IsNotTaken}
use Rattle.exact_records.specs.Records.{RecordTree, SymStart}
use Rattle.record_checks.specs.Confirming.{Confirms, IsConfirmedBack}
use Rattle.record_checks.specs.Counts.{counts_of}
use Rattle.record_checks.specs.Supplies.{OfAll}
use Rattle.record_checks.specs.declared.counts.Confirmed.{Confirmed}
use Rattle.record_checks.specs.declared.fault.ReplayFault.{ReplayFault}
use Rattle.record_checks.specs.declared.fault.ReplayFault.TheVariants.{NotConfirmed, NoMemory}
use Rattle.symbolic_engine.specs.Exploring.{FollowsTo}
use Rattle.whole_checks.specs.Confirming.{Answer, ConfirmsBehind}
use Rattle.whole_checks.specs.declared.fault.WholeFault.TheVariants.{NoMemory as NoWhole}

module _ (net : Network) (i : Entry) (hops : ℕ) where
  -- of what is explored there, each record has its own meaning, and these are the counts; or this is the first that has not,
  -- by its first broken part
  abbrev pub ConfirmsFor : List RecordTree → Result Confirmed ReplayFault → Type 0
  ConfirmsFor xs (Ok counts) = FollowsTo net i hops (λ start. Confirms start xs (Ok counts))
  ConfirmsFor xs (Err (NotConfirmed number part)) = FollowsTo net i hops (λ start. Confirms start xs (Err (NotConfirmed number part)))
  ConfirmsFor xs (Err NoMemory) = Unit {0}

  -- the same of all records that were handed over
  abbrev pub ConfirmsAllFor : {S : Type 0} → (S → Option Record → S → Type 0) → S → S → Result Confirmed ReplayFault → Type 0
  ConfirmsAllFor steps u v (Ok counts) = OfAll steps u v (λ xs. ConfirmsFor xs (Ok counts))
  ConfirmsAllFor steps u v (Err (NotConfirmed number part)) = OfAll steps u v (λ xs. ConfirmsFor xs (Err (NotConfirmed number part)))
  ConfirmsAllFor steps u v (Err NoMemory) = Unit {0}

  -- what is answered of records that are to leave nothing out
  abbrev pub ConfirmsWholeFor : List RecordTree → Answer → Type 0
  ConfirmsWholeFor xs answer = (answer ≡ Err NoWhole) ⊎ FollowsTo net i hops (λ start. ConfirmsBehind start None 0 (counts_of []) xs answer)

  -- and the other way
  abbrev pub IsConfirmedBackFor : List RecordTree → Result Confirmed ReplayFault → Type 0
  IsConfirmedBackFor xs result = (start : SymStart) → IsExplored net i hops start → IsConfirmedBack start xs result

  -- the values of each path that has some are a packet that takes it, and no packet takes a refuted side
  pub record TellPackets (xs : List RecordTree) : Type 0 where
    pub packets : AllByRecursion (HasPacket net i hops) xs
    pub refuted : AllByRecursion (IsNotTaken net i hops) xs
