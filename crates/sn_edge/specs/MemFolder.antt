-- Files in memory.
use Rattle.std.specs.Prelude.{ℕ, ◌+◌, ◌-◌, ◌^◌, ◌↔◌, Contains, List, String, Vec, Option, option_map, string_bytes, IsSomeAnd, length, ◌≡◌, ◌<◌, ◌≤◌, None, Some}
use Rattle.std.specs.List.{find}
use Rattle.std.specs.Str.{bytes_eq}
use Rattle.sn_edge.specs.declared.folder.Loaded.{Loaded}
use Rattle.sn_edge.specs.declared.folder.Loaded.TheVariants.{Bytes, Absent, TooBig, Failed, NoMemory}

-- the files in order, each with its name, the numbers of the calls that fail, and the counts
pub record FolderState : Type 0 where
  pub entries : List (List ℕ × List ℕ)
  pub failing : List ℕ
  pub calls : ℕ
  pub faults : ℕ
  pub misses : ℕ
  pub excesses : ℕ

-- the bytes of a name and those of its file
abbrev pub entry_of : {A B : Type 0} → String A × Vec ℕ B → List ℕ × List ℕ
entry_of (name, file) = (string_bytes name, file.items)

-- the first file under the name
abbrev pub file_at : List (List ℕ × List ℕ) → List ℕ → Option (List ℕ)
file_at entries name = option_map (λ entry. entry.1) (find (λ entry. bytes_eq entry.0 name) entries)

-- A load counts itself and what it answers; without memory it leaves all as it was.
abbrev pub after_load : FolderState → Loaded → FolderState
after_load old (Bytes bytes) = record old { calls = old.calls + 1 }
after_load old Absent = record old { calls = old.calls + 1; misses = old.misses + 1 }
after_load old TooBig = record old { calls = old.calls + 1; excesses = old.excesses + 1 }
after_load old Failed = record old { calls = old.calls + 1; faults = old.faults + 1 }
after_load old NoMemory = old

-- What a load that is not stopped answers of the entry under the name.
abbrev pub IsAnswerAt : Option (List ℕ) → ℕ → Loaded → Type 0
IsAnswerAt entry limit (Bytes bytes) = (entry ≡ Some bytes.items) × (length bytes.items ≤ limit)
IsAnswerAt entry limit Absent = entry ≡ None
IsAnswerAt entry limit TooBig = IsSomeAnd entry (λ bytes. limit < length bytes)
IsAnswerAt entry limit Failed = Unit {0}
IsAnswerAt entry limit NoMemory = Unit {0}

-- a load of a name, with a limit, answers so and leaves this
pub record IsLoad (old : FolderState) (name : List ℕ) (limit : ℕ) (answer : Loaded) (new : FolderState) : Type 0 where
  pub failing : (answer ≡ Failed) ↔ (Contains old.failing old.calls × (old.calls < 2 ^ 64 - 1))
  pub next : new ≡ after_load old answer
  pub answered : IsAnswerAt (file_at old.entries name) limit answer
