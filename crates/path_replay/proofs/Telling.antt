-- What confirmed records tell of packets.
use Rattle.std.proofs.Common.{◌≡◌, ℕ, inl, inr, List, [], ◌∷◌, Result, Ok, Err, IfOk}
use Rattle.std.specs.List.{AllByRecursion}
use Rattle.sefl_meaning.specs.Network.{Network, Entry}
use Rattle.exact_records.specs.Laws.{RecordsTellPackets}
use Rattle.exact_records.specs.Packets.{IsExplored}
use Rattle.exact_records.specs.Records.{HasMeaning, RecordTree, SymStart}
use Rattle.record_checks.specs.declared.counts.Confirmed.{Confirmed}
use Rattle.record_checks.specs.declared.fault.ReplayFault.{ReplayFault}
use Rattle.whole_checks.specs.Confirming.{Answer, AreWhole}
use Rattle.whole_checks.specs.Walks.{ChainsShowWalks, ShowEachWalk}
use Rattle.whole_checks.specs.declared.fault.WholeFault.TheVariants.{NoMemory}
use Rattle.path_replay.specs.Replaying.{ConfirmsFor, ConfirmsWholeFor, TellPackets}

module _ (net : Network) (i : Entry) (hops : ℕ) (law : RecordsTellPackets net i hops) where
  each_tells : (start : SymStart) → IsExplored net i hops start → (xs : List RecordTree) → AllByRecursion (HasMeaning start) xs
      → TellPackets net i hops xs
  each_tells start explored [] h = record { packets = tt; refuted = tt }
  each_tells start explored (x ∷ xs) h =
      let one = law start explored x h.0 in
      let others = each_tells start explored xs h.1 in
      record { packets = (one.0, others.packets); refuted = (one.1, others.refuted) }

  pub confirmed_tell : (xs : List RecordTree) (answer : Result Confirmed ReplayFault) → ConfirmsFor net i hops xs answer
      → IfOk answer (λ counts. TellPackets net i hops xs)
  confirmed_tell xs (Ok counts) h = each_tells h.start h.explored xs h.holds.0
  confirmed_tell xs (Err fault) h = tt

not_counts : {C : Type 0} (counts : Confirmed) → ◌≡◌ {A = Answer} (Ok counts) (Err NoMemory) → C
not_counts counts e = absurd (clash e)
  where
    clash : ◌≡◌ {A = Answer} (Ok counts) (Err NoMemory) → ⊥
    clash e = cc

module _ (net : Network) (i : Entry) (hops : ℕ) (whole : (s : SymStart) (xs : List RecordTree) → AreWhole s xs) where
  pub whole_tell : RecordsTellPackets net i hops → (xs : List RecordTree) (answer : Answer) → ConfirmsWholeFor net i hops xs answer
      → IfOk answer (λ counts. TellPackets net i hops xs)
  whole_tell law xs (Ok counts) (inl e) = not_counts counts e
  whole_tell law xs (Ok counts) (inr h) = each_tells net i hops law h.start h.explored xs (whole h.start xs counts h.holds).0
  whole_tell law xs (Err fault) h = tt

  pub whole_show : ChainsShowWalks net i hops → (xs : List RecordTree) (answer : Answer) → ConfirmsWholeFor net i hops xs answer
      → IfOk answer (λ counts. ShowEachWalk net i hops xs)
  whole_show law xs (Ok counts) (inl e) = not_counts counts e
  whole_show law xs (Ok counts) (inr h) =
      let w = whole h.start xs counts h.holds in
      law h.start h.explored xs w.0 w.1
  whole_show law xs (Err fault) h = tt
