-- Whether a packet starts, or why it does not.
use Rattle.std.specs.Prelude.{◌≡◌, ◌<◌, ◌≤◌, ℕ, Bool, List, [], ◌∷◌, length, Result, Ok, Err}
use Rattle.sefl_meaning.specs.Carried.{Carried, scene_at}
use Rattle.sefl_meaning.specs.Injected.{FitWidths, IsTrueIn, Starts, injected, unknown_count, unknown_widths}
use Rattle.sefl_meaning.specs.Network.{Network, Entry}
use Rattle.sefl_meaning.specs.Values.{Values, numbers}
use Rattle.sefl_meaning.specs.View.{carried_of}
use Rattle.sefl_meaning.specs.declared.walk.Carried.{Carried as State}
use Rattle.sn_width.specs.Width.{FitsWidth}
use Rattle.sn_width.specs.declared.faults.LayoutFault.{LayoutFault}
use Rattle.sefl_syntax.specs.Trees.{CondTree}
use Rattle.std.specs.Prelude.{zero, suc, Option, None, Some}
use Rattle.std.specs.List.{AllByRecursion}
use Rattle.concrete_run.specs.declared.injecting.Origin.{Origin}
use Rattle.concrete_run.specs.declared.injecting.StartFault.{StartFault}
use Rattle.concrete_run.specs.declared.injecting.StartFault.TheVariants.{Short, ValueTooWide, WhereFalse, NoMemory}

-- the operations on numbers of the packet
abbrev pub operations_of : Origin → Values ℕ Bool
operations_of at = numbers at.values.numbers.now at.values.unknowns

-- the number at this index is the first that does not fit its width
abbrev pub IsFirstTooWide : List ℕ → List ℕ → ℕ → Type 0
IsFirstTooWide [] v index = ⊥
IsFirstTooWide (w ∷ ws) [] index = ⊥
IsFirstTooWide (w ∷ ws) (n ∷ v) zero = FitsWidth w n → ⊥
IsFirstTooWide (w ∷ ws) (n ∷ v) (suc index) = FitsWidth w n × IsFirstTooWide ws v index

-- the test at this index is the first that does not hold
abbrev pub IsFirstOther : (CondTree → Type 0) → List CondTree → ℕ → Type 0
IsFirstOther Holds [] index = ⊥
IsFirstOther Holds (test ∷ tests) zero = Holds test → ⊥
IsFirstOther Holds (test ∷ tests) (suc index) = Holds test × IsFirstOther Holds tests index

-- the numbers fit, and the packet carries this, but a test is not true
pub record StartsBut (net : Network) (i : Entry) (v : List ℕ) (index : ℕ) (s : Carried ℕ) : Type 0 where
  pub fits : FitWidths (unknown_widths i.own.fields) v
  pub carries : injected (numbers v (unknown_count i)) (scene_at net i.node) i.own ≡ Ok s
  pub fails : IsFirstOther (IsTrueIn (scene_at net i.node) (numbers v (unknown_count i)) s) i.own.tests index

-- why a packet does not start: the first cause in this order
abbrev pub IsStartFault : Network → Entry → List ℕ → StartFault → Type 0
IsStartFault net i v (Short needed) = (needed ≡ unknown_count i) × (length v < needed)
IsStartFault net i v (ValueTooWide field) = (unknown_count i ≤ length v) × IsFirstTooWide (unknown_widths i.own.fields) v field
IsStartFault net i v (WhereFalse index) = (s : Carried ℕ) × StartsBut net i v index s
IsStartFault net i v NoMemory = Unit {0}

abbrev pub StartAnswer : Network → Entry → List ℕ → Result (State ℕ) StartFault → Type 0
StartAnswer net i v (Ok s) = Starts net i v (carried_of s)
StartAnswer net i v (Err fault) = IsStartFault net i v fault

abbrev pub TooWideAnswer : List ℕ → List ℕ → Option ℕ → Type 0
TooWideAnswer widths v None = FitWidths widths v
TooWideAnswer widths v (Some field) = IsFirstTooWide widths v field

abbrev pub OtherAnswer : (CondTree → Type 0) → List CondTree → Option ℕ → Type 0
OtherAnswer Holds tests None = AllByRecursion Holds tests
OtherAnswer Holds tests (Some index) = IsFirstOther Holds tests index

-- the steps of an injection have no fault
abbrev pub Goes : Result (Carried ℕ) LayoutFault → Type 0
Goes (Ok s) = Unit {0}
Goes (Err fault) = ⊥
