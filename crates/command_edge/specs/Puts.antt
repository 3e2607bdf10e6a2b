-- What the own work of a command comes to, and what is put of a text in one piece.
use Rattle.std.specs.Prelude.{ℕ, ◌≡◌, ◌<◌, List, [], Result, Ok, Err, String, string_bytes}
use Rattle.std.specs.declared.alloc.Global.{Global}
use Rattle.sn_edge.specs.Pieces.{IsPrefix}
use Rattle.sn_edge.specs.Putting.{Takes, TakesPart, TakesUntil}
use Rattle.sn_edge.specs.Told.{SinkTold}
use Rattle.sn_edge.specs.declared.sink.Put.{Put}
use Rattle.command_edge.specs.declared.fault.OwnFault.{OwnFault}
use Rattle.command_edge.specs.declared.ending.Ending.{Ending}
use Rattle.command_edge.specs.declared.ending.Stop.{Stop}
use Rattle.command_edge.specs.declared.ending.Stop.TheVariants.{Input as ByInput, Own, Write, NoMemory}

-- what the own work of a command comes to: a text with its ending, or a refusal
pub data Outcome : Type 0 where
  text : Ending → List ℕ → Outcome
  refused : OwnFault → Outcome

-- such bytes were put so
abbrev pub Gains : (List ℕ → Type 0) → (List ℕ → Type 0) → Type 0
Gains Is PutSo = (part : List ℕ) × Is part × PutSo part

-- by what sinks tell, and by what one put may answer and leave
module _ {S : Type 0} (told : S → SinkTold) (gives : S → List ℕ → Put → S → Type 0) (u v : S) where
  -- the text was put in one piece, with this ending
  abbrev pub PutsWhole : List ℕ → Ending → Result Ending Stop → Type 0
  PutsWhole whole ending (Ok own) = (own ≡ ending) × Takes told gives u whole v
  PutsWhole whole ending (Err Write) = Gains (λ part. IsPrefix part whole) (λ part. TakesPart told gives u part v)
  PutsWhole whole ending (Err NoMemory) = TakesUntil told gives u [] v
  PutsWhole whole ending _ = ⊥

  -- it was put so, if there is one
  abbrev pub Puts : Result (Ending × String Global) OwnFault → Result Ending Stop → Type 0
  Puts (Ok (ending, whole)) result = PutsWhole (string_bytes whole) ending result
  Puts (Err fault) (Err (Own own)) = (own ≡ fault) × (v ≡ u)
  Puts _ _ = ⊥

-- where the sink failed its count rose; and the own work refuses no input
abbrev pub WriteShows : SinkTold → SinkTold → Result Ending Stop → Type 0
WriteShows held now (Err Write) = held.faults < now.faults
WriteShows held now (Err (ByInput fault)) = ⊥
WriteShows held now _ = Unit {0}
