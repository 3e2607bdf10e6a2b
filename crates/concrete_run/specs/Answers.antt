-- What the calls that walk answer.
use Rattle.std.specs.Prelude.{◌≡◌, ◌<◌, ◌≤◌, ◌+◌, ℕ, List, [], length, map, Option, None, Some, Result, Ok, Err}
use Rattle.std.specs.List.{AllByRecursion}
use Rattle.std.specs.declared.alloc.Global.{Global}
use Rattle.std.specs.declared.vec.Vec.{Vec}
use Rattle.sefl_meaning.specs.declared.walk.Decision.{Decision}
use Rattle.sefl_meaning.specs.declared.walk.Walk.{Walk}
use Rattle.sefl_meaning.specs.Carried.{Carried}
use Rattle.sefl_meaning.specs.Injected.{Starts, walks_from}
use Rattle.sefl_meaning.specs.Network.{Network, Entry}
use Rattle.sefl_meaning.specs.Routes.{Has}
use Rattle.sefl_meaning.specs.View.{carried_of, trail_of}
use Rattle.sefl_meaning.specs.declared.walk.Carried.{Carried as State}
use Rattle.concrete_run.specs.declared.pending.Pending.{Pending}
use Rattle.concrete_run.specs.declared.pending.Stage.TheVariants.{Arriving}
use Rattle.sefl_meaning.specs.Walks.{Trail}
use Rattle.sn_width.specs.declared.memory.NoMemory.{NoMemory as OutOfMemory}
use Rattle.concrete_run.specs.declared.injecting.StartFault.{StartFault}
use Rattle.concrete_run.specs.declared.injecting.StartFault.TheVariants as starts
use Rattle.concrete_run.specs.declared.walks.WalkFault.{WalkFault}
use Rattle.concrete_run.specs.declared.walks.WalkFault.TheVariants.{Start, TooMany, NoMemory}
use Rattle.packet_run.specs.Packets.{Given, given_of}
use Rattle.concrete_run.specs.Pending.{Sought}
use Rattle.concrete_run.specs.Starting.{IsStartFault}

-- the packet starts, and its walks are such
pub record Walked (net : Network) (i : Entry) (v : List ℕ) (hops : ℕ) (P : List Trail → Type 0) : Type 0 where
  pub carried : Carried ℕ
  pub starts : Starts net i v carried
  pub walks : P (walks_from net i v hops carried)

-- all of these, where they are no more than the limit
abbrev pub AreAll : ℕ → Vec Walk Global → List Trail → Type 0
AreAll limit walks all = (map trail_of walks.items ≡ all) × (length all ≤ limit)

-- a start is refused by its cause, which is never want of memory
abbrev pub IsRefused : Network → Entry → List ℕ → StartFault → Type 0
IsRefused net i v fault = (fault ≡ starts.NoMemory → ⊥) × IsStartFault net i v fault

abbrev pub AllAnswer : Network → Entry → List ℕ → ℕ → ℕ → Result (Vec Walk Global) WalkFault → Type 0
AllAnswer net i v hops limit (Ok walks) = Walked net i v hops (AreAll limit walks)
AllAnswer net i v hops limit (Err (Start fault)) = IsRefused net i v fault
AllAnswer net i v hops limit (Err (TooMany count)) = (count ≡ limit + 1) × Walked net i v hops (λ all. limit < length all)
AllAnswer net i v hops limit (Err NoMemory) = Unit {0}

-- the one of these with the decisions, or that none has them
abbrev pub IsOne : List Decision → Option Walk → List Trail → Type 0
IsOne decisions (Some walk) all = Has all (trail_of walk) × (walk.decisions.items ≡ decisions)
IsOne decisions None all = AllByRecursion (λ t. t.decisions ≡ decisions → ⊥) all

abbrev pub OneAnswer : Network → Entry → List ℕ → ℕ → List Decision → Result (Option Walk) WalkFault → Type 0
OneAnswer net i v hops decisions (Ok found) = Walked net i v hops (IsOne decisions found)
OneAnswer net i v hops decisions (Err (Start fault)) = IsRefused net i v fault
OneAnswer net i v hops decisions (Err (TooMany count)) = ⊥
OneAnswer net i v hops decisions (Err NoMemory) = Unit {0}

-- of walks that are still to come
abbrev pub GatherAnswer : ℕ → List Trail → Result (Vec Walk Global) WalkFault → Type 0
GatherAnswer limit all (Ok walks) = AreAll limit walks all
GatherAnswer limit all (Err (Start fault)) = ⊥
GatherAnswer limit all (Err (TooMany count)) = (count ≡ limit + 1) × (limit < length all)
GatherAnswer limit all (Err NoMemory) = Unit {0}

abbrev pub SearchAnswer : List Decision → List Trail → Result (Option Walk) OutOfMemory → Type 0
SearchAnswer decisions all (Ok found) = IsOne decisions found all
SearchAnswer decisions all (Err e) = Unit {0}

-- one with the decisions, or the work in which it is still sought
abbrev pub SeekAnswer : Network → List Decision → List Pending → List Trail → Option Walk → Type 0
SeekAnswer net decisions work all (Some walk) = Has all (trail_of walk) × (walk.decisions.items ≡ decisions)
SeekAnswer net decisions work all None = Sought net decisions work all

abbrev pub StartedAnswer : Network → Entry → List ℕ → Result (State ℕ) WalkFault → Type 0
StartedAnswer net i v (Ok s) = Starts net i v (carried_of s)
StartedAnswer net i v (Err (Start fault)) = IsRefused net i v fault
StartedAnswer net i v (Err (TooMany count)) = ⊥
StartedAnswer net i v (Err NoMemory) = Unit {0}

-- before the port of the injection, with nothing behind it
pub record IsAtStart (i : Entry) (given : Given) (allowed : ℕ) (s : Carried ℕ) (p : Pending) : Type 0 where
  pub numbers : given_of p.packet ≡ given
  pub decisions : p.packet.decisions.items ≡ []
  pub places : p.places.items ≡ []
  pub state : carried_of p.packet.state ≡ s
  pub choices : p.packet.choices.items ≡ []
  pub hops : p.hops ≡ allowed
  pub stage : p.stage ≡ Arriving i.node i.own.port
