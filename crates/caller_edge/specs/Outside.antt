-- The files and the output of a call, and what they tell: no load and no put fails outside.
use Rattle.std.specs.Prelude.{ℕ, ◌≡◌, ◌+◌, ◌++◌, List, Some}
use Rattle.sn_edge.specs.declared.folder.Loaded.{Loaded}
use Rattle.sn_edge.specs.declared.folder.Loaded.TheVariants.{Bytes, Absent, TooBig, Failed, NoMemory}
use Rattle.sn_edge.specs.declared.sink.Put.{Put}
use Rattle.sn_edge.specs.declared.sink.Put.TheVariants as put
use Rattle.sn_edge.specs.MemFolder.{IsAnswerAt, file_at}
use Rattle.sn_edge.specs.Told.{FolderTold, SinkTold}

-- the files in order, each with its name; how often a file was absent, and how often one was larger than its limit
pub record GivenState : Type 0 where
  pub entries : List (List ℕ × List ℕ)
  pub misses : ℕ
  pub excesses : ℕ

abbrev pub files_told : GivenState → FolderTold
files_told g = record { files = Some (file_at g.entries); faults = 0; misses = g.misses; excesses = g.excesses }

abbrev pub output_told : List ℕ → SinkTold
output_told bytes = record { taken = Some bytes; faults = 0 }

-- a load counts what it answers, and none fails
abbrev pub given_after : GivenState → Loaded → GivenState
given_after g Absent = record g { misses = g.misses + 1 }
given_after g TooBig = record g { excesses = g.excesses + 1 }
given_after g _ = g

abbrev pub IsGivenLoad : GivenState → List ℕ → ℕ → Loaded → GivenState → Type 0
IsGivenLoad old name limit Failed new = ⊥
IsGivenLoad old name limit answer new = IsAnswerAt (file_at old.entries name) limit answer × (new ≡ given_after old answer)

-- a put takes its piece, or there is no memory, and none fails
abbrev pub IsKeptPut : List ℕ → List ℕ → Put → List ℕ → Type 0
IsKeptPut old piece put.All new = new ≡ old ++ piece
IsKeptPut old piece put.Failed new = ⊥
IsKeptPut old piece put.NoMemory new = new ≡ old
