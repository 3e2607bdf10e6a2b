-- What a receiver is seen as, and what its answers say.
use Rattle.std.specs.Prelude.{ℕ, ◌≡◌, ◌<◌, ◌≤◌, List, [], ◌∷◌, ◌++◌}
use Rattle.path_exec.specs.declared.receiver.Took.{Took}
use Rattle.path_exec.specs.declared.receiver.Took.TheVariants.{More, Stop, NoMemory}
use Rattle.path_exec.specs.Views.{Views}

-- it stands for a list, or stopped in one; how often it stopped; what it puts items into; and which items it takes
pub record Receiving (T : Type 0) : Type 1 where
  pub StandsFor : List T → Type 0
  pub StoppedIn : List T → Type 0
  pub stops : ℕ
  pub target : ℕ
  pub Takes : T → Type 0

-- it is the same receiver still, which takes what it took
pub record IsSame {T : Type 0} (old new : Receiving T) : Type 0 where
  pub target : new.target ≡ old.target
  pub stops : old.stops ≤ new.stops
  pub takes : (item : T) → old.Takes item → new.Takes item

module _ {T : Type 0} where
  abbrev pub TookAs : Receiving T → Receiving T → T → Took → Type 0
  TookAs old new item More = (items : List T) → old.StandsFor items → new.StandsFor (items ++ item ∷ [])
  TookAs old new item Stop = (old.stops < new.stops) × ((items : List T) → old.StandsFor items → new.StoppedIn (items ++ item ∷ []))
  TookAs old new item NoMemory = (items : List T) → old.StandsFor items → new.StandsFor items

module _ {P O N D T : Type 0} (x : Views P O N D T) where
  -- it takes every record of the net
  abbrev pub TakesOwn : Receiving T → Type 0
  TakesOwn m = (item : T) → x.IsOwn item → m.Takes item
