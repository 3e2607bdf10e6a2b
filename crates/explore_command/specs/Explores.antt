-- What `explore` writes of an accepted job.
use Rattle.std.specs.Prelude.{ℕ, ◌≡◌, ◌<◌, ◌^◌, ◌⊎◌, Bool, true, false, ◌==◌, List, [], ◌∷◌, ◌++◌, Option, None, Some, IsUtf8, if◌then◌else◌}
use Rattle.std.specs.List.{AllByRecursion}
use Rattle.sn_edge.specs.Pieces.{IsPrefix}
use Rattle.net_check.specs.Network.{Network, Entry, with_choices}
use Rattle.net_check.specs.declared.injection.TheConstants.{USUAL_CHOICES}
use Rattle.path_records.specs.declared.records.Record.{Record}
use Rattle.exact_records.specs.Exact.{IsTried, IsUnexplored, SomeOne}
use Rattle.exact_records.specs.Packets.{AreExactFor, AreExactSoFarFor, AreExactUpToFor}
use Rattle.exact_records.specs.Records.{RecordTree}
use Rattle.exact_records.specs.View.{record_tree, record_trees}
use Rattle.report_forms.specs.Fits.{RecordFits}
use Rattle.record_text.specs.Reports.{head_text, report_line, tail_text}
use Rattle.record_lines.specs.Lines.{has_some, is_written, piece_text, records_text, refuted_count, written_of}
use Rattle.path_records.specs.declared.sides.RefutedSides.{RefutedSides}
use Rattle.command_runs.specs.Inputs.{Given, a_net}
use Rattle.command_edge.specs.Puts.{Outcome, text, refused}
use Rattle.command_runs.specs.Runs.{OwnWork}
use Rattle.command_edge.specs.declared.ending.Ending.{Ending}
use Rattle.command_edge.specs.declared.ending.Ending.TheVariants.{Done, Partial}

-- each record was tried; or one was not
abbrev pub IsEnding : Ending → List RecordTree → Type 0
IsEnding Done rs = AllByRecursion IsTried rs
IsEnding Partial rs = SomeOne IsUnexplored rs

abbrev pub is_done : Ending → Bool
is_done Done = true
is_done Partial = false

-- the bound on choices of cases that a report says: none where it is the usual one
abbrev pub said_choices : ℕ → Option ℕ
said_choices most = if most == USUAL_CHOICES then None else Some most

-- that of the injection
abbrev pub said_by : Entry → Option ℕ
said_by i = said_choices i.most_choices

-- the line of a report of records with this ending, and this bound; those that are written are shown
abbrev pub line_of : Option ℕ → ℕ → ℕ → RefutedSides → Network → Ending → List Record → List ℕ
line_of cases hops limit sides net ending records =
    report_line net cases hops limit (written_of sides records) (refuted_count records) (is_done ending)

-- what stands behind its records
abbrev pub end_of : Ending → List Record → List ℕ
end_of ending records = tail_text (refuted_count records) (is_done ending)

-- the head of a report, and behind it such a part
abbrev pub BehindHead : Option ℕ → ℕ → ℕ → (List ℕ → Type 0) → List ℕ → Type 0
BehindHead cases hops limit Is part = (own : List ℕ) × Is own × (part ≡ head_text cases hops limit ++ own)

module _ (hops limit : ℕ) (sides : RefutedSides) (net : Network) (i : Entry) where
  -- the pieces of records that are exact so far, within the limit
  pub record IsSoFar (part : List ℕ) : Type 0 where
    pub records : List Record
    pub exact : AreExactSoFarFor net i hops limit (record_trees records)
    pub pieces : part ≡ records_text net (written_of sides records)

  -- those of all but the last, which is written, and a beginning of the piece of that
  pub record IsCutInRecord (part : List ℕ) : Type 0 where
    pub done : List Record
    pub last : Record
    pub exact : AreExactUpToFor net i hops limit (record_trees done) (record_tree last)
    pub put : is_written sides last ≡ true
    pub own : List ℕ
    pub begins : IsPrefix own (piece_text net (has_some (written_of sides done)) last)
    pub pieces : part ≡ records_text net (written_of sides done) ++ own

  -- the records are exact for the net and the injection, and end so; they fit a report of the net, and their pieces are text
  pub record AreFound (ending : Ending) (records : List Record) : Type 0 where
    pub exact : AreExactFor net i hops limit (record_trees records)
    pub ends : IsEnding ending (record_trees records)
    pub fit : AllByRecursion (RecordFits net) records
    pub few : refuted_count records < 2 ^ 64
    pub utf8 : IsUtf8 (records_text net (written_of sides records))

  -- the text is the report of such records
  pub record IsReport (ending : Ending) (whole : List ℕ) : Type 0 where
    pub records : List Record
    pub found : AreFound ending records
    pub line : whole ≡ line_of (said_by i) hops limit sides net ending records

  abbrev pub ReportsOf : Outcome → Type 0
  ReportsOf (text ending whole) = IsReport ending whole
  ReportsOf (refused fault) = ⊥

  -- the pieces of all records, and a beginning of the tail
  pub record IsCutInTail (part : List ℕ) : Type 0 where
    pub ending : Ending
    pub records : List Record
    pub found : AreFound ending records
    pub own : List ℕ
    pub begins : IsPrefix own (end_of ending records)
    pub pieces : part ≡ records_text net (written_of sides records) ++ own

  -- where the sink failed: in the head, in the piece of a record, or in the tail
  abbrev pub IsCut : List ℕ → Type 0
  IsCut part =
      IsPrefix part (head_text (said_by i) hops limit) ⊎ BehindHead (said_by i) hops limit (λ own. IsCutInRecord own ⊎ IsCutInTail own) part

  -- where memory ended: nothing was put, or whole pieces
  abbrev pub IsLeft : List ℕ → Type 0
  IsLeft part = (part ≡ []) ⊎ BehindHead (said_by i) hops limit IsSoFar part

-- a fact of the net and the injection of a job, with this bound on choices of cases
abbrev pub OfJob : ℕ → List Given → (Network → Entry → Type 0) → Type 0
OfJob most (a_net net i asks ∷ []) Fact = Fact net (with_choices most i)
OfJob most _ Fact = ⊥

-- `explore` of a job
abbrev pub explore_work : ℕ → ℕ → ℕ → RefutedSides → OwnWork
explore_work most hops limit sides = record {
  comes = λ given outcome. OfJob most given (λ net i. ReportsOf hops limit sides net i outcome);
  cut = λ given part. OfJob most given (λ net i. IsCut hops limit sides net i part);
  left = λ given part. OfJob most given (λ net i. IsLeft hops limit sides net i part);
}
