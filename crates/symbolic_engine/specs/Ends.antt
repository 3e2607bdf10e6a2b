-- How an exploration of a net and an injection ends, over what is handed over.
use Rattle.std.specs.Prelude.{ℕ, ◌≡◌, ◌<◌, ◌≤◌, ◌+◌, List, [], ◌∷◌, ◌++◌, map, Result, Ok, Err}
use Rattle.std.specs.List.{AllByRecursion}
use Rattle.sefl_meaning.specs.Network.{Network, Entry}
use Rattle.exact_records.specs.Exact.{IsTried, IsUnexplored, SomeOne}
use Rattle.exact_records.specs.Packets.{AreExactFor, AreExactSoFarFor, AreExactUpToFor}
use Rattle.exact_records.specs.Records.{RecordTree}
use Rattle.exact_records.specs.Work.{work_of}
use Rattle.path_exec.specs.declared.exploration.Ended.{Ended}
use Rattle.path_exec.specs.declared.exploration.Ended.TheVariants.{Whole, Partial, Stopped}
use Rattle.path_exec.specs.Receiving.{Receiving}

-- items that mean such records
module _ {T : Type 0} (tree : T → RecordTree) (net : Network) (i : Entry) (hops : ℕ) where
  -- the receiver stands for exact records of the net, and none is left out
  pub record EndsWhole (limit : ℕ) (m : Receiving T) (before after : ℕ) : Type 0 where
    pub items : List T
    pub stands : m.StandsFor items
    pub exact : AreExactFor net i hops limit (map tree items)
    pub tried : AllByRecursion IsTried (map tree items)
    pub spent : after ≤ before + work_of exact.start (map tree items)

  -- it stands for exact records, and at least one is left out
  pub record EndsPartial (limit : ℕ) (m : Receiving T) (before after : ℕ) : Type 0 where
    pub items : List T
    pub stands : m.StandsFor items
    pub exact : AreExactFor net i hops limit (map tree items)
    pub untried : SomeOne IsUnexplored (map tree items)
    pub spent : after ≤ before + work_of exact.start (map tree items)

  -- it stopped in records that are exact up to the last one, within the limit
  pub record EndsStopped (limit stops : ℕ) (m : Receiving T) (before after : ℕ) : Type 0 where
    pub items : List T
    pub last : T
    pub stopped : m.StoppedIn (items ++ last ∷ [])
    pub exact : AreExactUpToFor net i hops limit (map tree items) (tree last)
    pub cause : stops < m.stops
    pub spent : after ≤ before + work_of exact.start (map tree (items ++ last ∷ []))

  -- it stands for records that are exact so far, within the limit
  pub record EndsEarly (limit : ℕ) (m : Receiving T) : Type 0 where
    pub items : List T
    pub stands : m.StandsFor items
    pub exact : AreExactSoFarFor net i hops limit (map tree items)

  -- how an exploration ends, where the receiver had stopped so often before it
  abbrev pub EndsSo : {E : Type 0} → ℕ → ℕ → Receiving T → ℕ → ℕ → Result Ended E → Type 0
  EndsSo limit stops m before after (Ok Whole) = EndsWhole limit m before after
  EndsSo limit stops m before after (Ok Partial) = EndsPartial limit m before after
  EndsSo limit stops m before after (Ok Stopped) = EndsStopped limit stops m before after
  EndsSo limit stops m before after (Err e) = EndsEarly limit m
