-- The files of the system.
use Rattle.std.specs.Prelude.{ℕ, ◌≡◌, ◌+◌, ◌-◌, ◌^◌, ◌⊎◌, Option, None, Some}
use Rattle.sn_edge.specs.declared.folder.Loaded.{Loaded}
use Rattle.sn_edge.specs.declared.folder.Loaded.TheVariants.{Bytes, Absent, TooBig, Failed, NoMemory}

-- how often the outside failed, a file was absent, a file passed its limit
pub record FolderCounts : Type 0 where
  pub faults : ℕ
  pub misses : ℕ
  pub excesses : ℕ

-- an answer is counted, and nothing else changes
abbrev pub after_answer : FolderCounts → Loaded → FolderCounts
after_answer old (Bytes bytes) = old
after_answer old Absent = record old { misses = old.misses + 1 }
after_answer old TooBig = record old { excesses = old.excesses + 1 }
after_answer old Failed = record old { faults = old.faults + 1 }
after_answer old NoMemory = old

-- the count that an answer raises, where it raises one
abbrev pub count_for : FolderCounts → Loaded → Option ℕ
count_for counts (Bytes bytes) = None
count_for counts Absent = Some counts.misses
count_for counts TooBig = Some counts.excesses
count_for counts Failed = Some counts.faults
count_for counts NoMemory = None

-- what is answered where this was found: NoMemory where its count is full
abbrev pub IsCounted : FolderCounts → Loaded → Loaded → Type 0
IsCounted old found answer = (answer ≡ found) ⊎ ((answer ≡ NoMemory) × (count_for old found ≡ Some (2 ^ 64 - 1)))
