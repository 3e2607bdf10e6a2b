-- How an exploration ends.
use Rattle.std.specs.Prelude.{ℕ, ◌<◌, ◌≤◌, ◌+◌, List, [], ◌∷◌, ◌++◌, map, Option, None, Some, Result, Ok, Err}
use Rattle.std.specs.List.{AllByRecursion}
use Rattle.exact_records.specs.Exact.{AreExact, AreExactSoFar, AreExactUpTo, IsTried, IsUnexplored, SomeOne}
use Rattle.exact_records.specs.Work.{work_of}
use Rattle.path_exec.specs.declared.exploration.Ended.{Ended}
use Rattle.path_exec.specs.declared.exploration.Ended.TheVariants.{Whole, Partial, Stopped}
use Rattle.path_exec.specs.declared.exploration.Ran.{Ran}
use Rattle.path_exec.specs.declared.exploration.Ran.TheVariants.{Over, Met, Interrupted}
use Rattle.path_exec.specs.declared.opening.OpenNode.{OpenNode}
use Rattle.path_exec.specs.Views.{Views}
use Rattle.path_exec.specs.OpenNodes.{AreOpenNodes, all_obligations}
use Rattle.path_exec.specs.Receiving.{Receiving}
use Rattle.path_exec.specs.Keeping.{Runs}

module _ {P O N D T : Type 0} (x : Views P O N D T) where
  -- the receiver stands for exact records, and none is left out
  pub record EndsWhole (limit : ℕ) (m : Receiving T) (before after : ℕ) : Type 0 where
    pub items : List T
    pub stands : m.StandsFor items
    pub exact : AreExact x.start limit (map x.record_of items)
    pub tried : AllByRecursion IsTried (map x.record_of items)
    pub spent : after ≤ before + work_of x.start (map x.record_of items)

  -- it stands for exact records, and at least one is left out
  pub record EndsPartial (limit : ℕ) (m : Receiving T) (before after : ℕ) : Type 0 where
    pub items : List T
    pub stands : m.StandsFor items
    pub exact : AreExact x.start limit (map x.record_of items)
    pub untried : SomeOne IsUnexplored (map x.record_of items)
    pub spent : after ≤ before + work_of x.start (map x.record_of items)

  -- it stopped in records that are exact up to the last one, within the limit
  pub record EndsStopped (limit stops : ℕ) (m : Receiving T) (before after : ℕ) : Type 0 where
    pub items : List T
    pub last : T
    pub stopped : m.StoppedIn (items ++ last ∷ [])
    pub exact : AreExactUpTo x.start limit (map x.record_of items) (x.record_of last)
    pub cause : stops < m.stops
    pub spent : after ≤ before + work_of x.start (map x.record_of (items ++ last ∷ []))

  -- it stands for records that are exact so far, within the limit
  pub record EndsEarly (limit : ℕ) (m : Receiving T) : Type 0 where
    pub items : List T
    pub stands : m.StandsFor items
    pub exact : AreExactSoFar x.start limit (map x.record_of items)

  -- how an exploration ends, where the receiver had stopped so often before it
  abbrev pub Explored : {E : Type 0} → ℕ → ℕ → Receiving T → ℕ → ℕ → Result Ended E → Type 0
  Explored limit stops m before after (Ok Whole) = EndsWhole limit m before after
  Explored limit stops m before after (Ok Partial) = EndsPartial limit m before after
  Explored limit stops m before after (Ok Stopped) = EndsStopped limit stops m before after
  Explored limit stops m before after (Err e) = EndsEarly limit m

  -- how its first step ends: this many records were handed over, or the receiver stopped
  abbrev pub BegunAs : {E : Type 0} → ℕ → ℕ → Receiving T → List (OpenNode N D) → ℕ → ℕ → Result (Option ℕ) E → Type 0
  BegunAs limit stops m open_nodes before after (Ok (Some count)) =
      (count ≤ limit) × Runs x limit count m (all_obligations x open_nodes) before after × AreOpenNodes x open_nodes
  BegunAs limit stops m open_nodes before after (Ok None) = EndsStopped limit stops m before after
  BegunAs limit stops m open_nodes before after (Err e) = EndsEarly limit m

  -- how the run below the limit ends
  abbrev pub RanAs : {E : Type 0} → ℕ → ℕ → Receiving T → List (OpenNode N D) → ℕ → ℕ → Result Ran E → Type 0
  RanAs limit stops m open_nodes before after (Ok Over) = EndsWhole limit m before after
  RanAs limit stops m open_nodes before after (Ok Met) = Runs x limit limit m (all_obligations x open_nodes) before after × AreOpenNodes x open_nodes
  RanAs limit stops m open_nodes before after (Ok Interrupted) = EndsStopped limit stops m before after
  RanAs limit stops m open_nodes before after (Err e) = EndsEarly limit m

  -- how what is left is named
  abbrev pub LeftAs : {E : Type 0} → ℕ → ℕ → Receiving T → ℕ → ℕ → Result Ended E → Type 0
  LeftAs limit stops m before after (Ok Whole) = ⊥
  LeftAs limit stops m before after (Ok Partial) = EndsPartial limit m before after
  LeftAs limit stops m before after (Ok Stopped) = EndsStopped limit stops m before after
  LeftAs limit stops m before after (Err e) = EndsEarly limit m
