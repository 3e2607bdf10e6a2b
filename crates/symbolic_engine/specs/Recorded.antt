-- Records that stand for what was handed over.
use Rattle.std.specs.Prelude.{ℕ, ◌≡◌, List, map}
use Rattle.path_records.specs.declared.records.Record.{Record}
use Rattle.exact_records.specs.View.{record_trees}
use Rattle.path_exec.specs.Handing.{Handed}
use Rattle.path_exec.specs.Receiving.{Receiving}
use Rattle.symbolic_engine.specs.declared.found.Found.{Found}
use Rattle.symbolic_engine.specs.Finds.{handed_tree}

-- the records of what was handed over are such
pub record ByRecords (Are : List Record → Type 0) (items : List (Handed Found)) : Type 0 where
  pub records : List Record
  pub same : record_trees records ≡ map handed_tree items
  pub are : Are records

-- what makes records for a receiver of them, which puts them into this
abbrev pub recording_of : Receiving Record → ℕ → ℕ → Receiving (Handed Found)
recording_of m known name = record {
  StandsFor = ByRecords (λ records. m.StandsFor records × (m.target ≡ known));
  StoppedIn = ByRecords (λ records. m.StoppedIn records × (m.target ≡ known));
  stops = m.stops;
  target = name;
  Takes = λ item. (made : Record) → m.Takes made;
}
