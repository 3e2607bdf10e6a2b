-- What each part of a report leaves in the sink.
use Rattle.std.specs.Prelude.{ℕ, ◌≡◌, ◌<◌, ◌⊎◌, Bool, true, false, List, [], ◌++◌, Result, Ok, Err}
use Rattle.sn_edge.specs.Pieces.{IsPrefix}
use Rattle.sn_edge.specs.Putting.{Takes, TakesPart, TakesUntil}
use Rattle.sn_edge.specs.Told.{SinkTold}
use Rattle.sn_edge.specs.declared.sink.Put.{Put}
use Rattle.net_check.specs.Network.{Network, Entry}
use Rattle.path_records.specs.declared.records.Record.{Record}
use Rattle.path_exec.specs.declared.exploration.Ended.{Ended}
use Rattle.path_exec.specs.declared.exploration.Ended.TheVariants as ended
use Rattle.record_text.specs.Reports.{tail_text}
use Rattle.record_lines.specs.Lines.{records_text, refuted_count, written_of}
use Rattle.path_records.specs.declared.sides.RefutedSides.{RefutedSides}
use Rattle.command_edge.specs.Puts.{Gains}
use Rattle.command_edge.specs.declared.ending.Ending.{Ending}
use Rattle.command_edge.specs.declared.ending.Ending.TheVariants.{Done, Partial}
use Rattle.command_edge.specs.declared.ending.Stop.{Stop}
use Rattle.command_edge.specs.declared.ending.Stop.TheVariants.{Write, NoMemory}
use Rattle.explore_command.specs.Explores.{AreFound, IsCutInRecord, IsCutInTail, IsSoFar, end_of, is_done}
use Rattle.explore_command.specs.declared.report.Tail.{Tail}

-- what the tail says, if memory did not end
abbrev pub tail_unless : Bool → Ending → ℕ → Result Tail Stop
tail_unless true ending refuted = Err NoMemory
tail_unless false ending refuted = Ok (record { ending = ending; refuted = refuted })

-- the same where an exploration ended so; or why there is none
abbrev pub tail_of : {E : Type 0} → Result Ended E → Bool → ℕ → Result Tail Stop
tail_of (Ok ended.Whole) over refuted = tail_unless over Done refuted
tail_of (Ok ended.Partial) over refuted = tail_unless over Partial refuted
tail_of (Ok ended.Stopped) over refuted = Err Write
tail_of (Err e) over refuted = Err NoMemory

-- the count that rose where a put failed
abbrev pub StopShows : SinkTold → SinkTold → Stop → Type 0
StopShows held now Write = held.faults < now.faults
StopShows held now NoMemory = Unit {0}
StopShows held now _ = ⊥

module _ (hops limit : ℕ) (sides : RefutedSides) (net : Network) (i : Entry) where
  -- the pieces of all records; the tail counts the refuted sides among them
  pub record AreAll (tail : Tail) (part : List ℕ) : Type 0 where
    pub records : List Record
    pub found : AreFound hops limit sides net i tail.ending records
    pub counted : tail.refuted ≡ refuted_count records
    pub pieces : part ≡ records_text net (written_of sides records)

  -- and the tail
  pub record AreRest (ending : Ending) (part : List ℕ) : Type 0 where
    pub records : List Record
    pub found : AreFound hops limit sides net i ending records
    pub pieces : part ≡ records_text net (written_of sides records) ++ end_of ending records

-- by what sinks tell, and by what one put may answer and leave
module _ {K : Type 0} (told : K → SinkTold) (gives : K → List ℕ → Put → K → Type 0) where
  -- the tail was put
  abbrev pub PutsEnd : K → K → Tail → Result Ending Stop → Type 0
  PutsEnd u v tail (Ok ending) = (ending ≡ tail.ending) × Takes told gives u (tail_text tail.refuted (is_done tail.ending)) v
  PutsEnd u v tail (Err Write) =
      Gains (λ part. IsPrefix part (tail_text tail.refuted (is_done tail.ending))) (λ part. TakesPart told gives u part v)
  PutsEnd u v tail (Err NoMemory) = TakesUntil told gives u [] v
  PutsEnd u v tail _ = ⊥

  module _ (hops limit : ℕ) (sides : RefutedSides) (net : Network) (i : Entry) (u v : K) where
    -- the records were put
    abbrev pub PutsRecords : Result Tail Stop → Type 0
    PutsRecords (Ok tail) = Gains (AreAll hops limit sides net i tail) (λ part. Takes told gives u part v)
    PutsRecords (Err Write) = Gains (IsCutInRecord hops limit sides net i) (λ part. TakesPart told gives u part v)
    PutsRecords (Err NoMemory) = Gains (IsSoFar hops limit sides net i) (λ part. TakesUntil told gives u part v)
    PutsRecords _ = ⊥

    -- the records and the tail were put
    abbrev pub PutsRest : Result Ending Stop → Type 0
    PutsRest (Ok ending) = Gains (AreRest hops limit sides net i ending) (λ part. Takes told gives u part v)
    PutsRest (Err Write) =
        Gains (λ part. IsCutInRecord hops limit sides net i part ⊎ IsCutInTail hops limit sides net i part) (λ part. TakesPart told gives u part v)
    PutsRest (Err NoMemory) = Gains (IsSoFar hops limit sides net i) (λ part. TakesUntil told gives u part v)
    PutsRest _ = ⊥
