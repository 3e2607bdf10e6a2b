-- A file that is loaded, and why it is not.
use Rattle.std.specs.Prelude.{ℕ, ◌≡◌, ◌⊎◌, ◌≤◌, ◌<◌, List, length, Option, Some, None, IsSomeAnd, Result, Ok, Err, Vec}
use Rattle.std.specs.Option.{ForSome}
use Rattle.std.specs.declared.alloc.Global.{Global}
use Rattle.sn_edge.specs.declared.folder.Loaded.{Loaded}
use Rattle.sn_edge.specs.declared.folder.Loaded.TheVariants.{Bytes, Absent, TooBig as Longer, Failed, NoMemory as NoRoom}
use Rattle.sn_edge.specs.Told.{FolderKept, FolderTold, PatternsTold}
use Rattle.command_edge.specs.declared.fault.InputFault.{InputFault}
use Rattle.command_edge.specs.declared.fault.InputFault.TheVariants.{NoFile, ReadFault, TooBig, BadPattern, NoMemory}

-- the bytes of each file by its name, where a folder tells its files
abbrev pub Files : Type 0
Files = Option (List ℕ → Option (List ℕ))

-- the file under the name has these bytes, no more than the limit
abbrev pub HasFile : Files → ℕ → List ℕ → List ℕ → Type 0
HasFile files limit name bytes = (length bytes ≤ limit) × ForSome files (λ at. at name ≡ Some bytes)

-- why the file under the name is not loaded
abbrev pub LoadFails : Files → ℕ → List ℕ → InputFault → Type 0
LoadFails files limit name (NoFile own) = (own ≡ name) × ForSome files (λ at. at name ≡ None)
LoadFails files limit name (ReadFault own) = own ≡ name
LoadFails files limit name (TooBig own) = (own ≡ name) × ForSome files (λ at. IsSomeAnd (at name) (λ bytes. limit < length bytes))
LoadFails files limit name NoMemory = Unit {0}
LoadFails files limit name _ = ⊥

-- one load, by what folders tell, and by what it may answer and leave
module _ {S : Type 0} (told : S → FolderTold) (gives : S → List ℕ → ℕ → Loaded → S → Type 0) (limit : ℕ) (name : List ℕ) where
  -- the file under the name was loaded once, and had these bytes
  pub record IsLoaded (u : S) (bytes : List ℕ) (v : S) : Type 0 where
    pub answer : Vec ℕ Global
    pub answered : gives u name limit (Bytes answer) v
    pub is : answer.items ≡ bytes
    pub file : HasFile (told u).files limit name bytes
    pub kept : FolderKept (told u) (told v)

  -- the answer that tells why it has none; for want of memory no load may have been begun
  abbrev pub IsAnswerOf : S → InputFault → S → Type 0
  IsAnswerOf u (NoFile own) v = gives u name limit Absent v
  IsAnswerOf u (ReadFault own) v = gives u name limit Failed v
  IsAnswerOf u (TooBig own) v = gives u name limit Longer v
  IsAnswerOf u NoMemory v = (v ≡ u) ⊎ gives u name limit NoRoom v
  IsAnswerOf u _ v = ⊥

  -- a load of it was made, and gave none
  pub record IsNotLoaded (u : S) (fault : InputFault) (v : S) : Type 0 where
    pub answered : IsAnswerOf u fault v
    pub fails : LoadFails (told u).files limit name fault

-- what comes of a load of the file under the name
abbrev pub bytes_of : Loaded → List ℕ → Result (Vec ℕ Global) InputFault
bytes_of (Bytes bytes) name = Ok bytes
bytes_of Absent name = Err (NoFile name)
bytes_of Longer name = Err (TooBig name)
bytes_of Failed name = Err (ReadFault name)
bytes_of NoRoom name = Err NoMemory

-- which counts rose, by the refusal: of the folder faults, misses and excesses; of the patterns refusals
abbrev pub Rose : (failed missed passed raised : Type 0) → InputFault → Type 0
Rose failed missed passed raised (NoFile name) = missed
Rose failed missed passed raised (ReadFault name) = failed
Rose failed missed passed raised (TooBig name) = passed
Rose failed missed passed raised (BadPattern site) = raised
Rose failed missed passed raised _ = Unit {0}

-- the same of a folder alone, of patterns alone, and of both
abbrev pub FolderShows : FolderTold → FolderTold → InputFault → Type 0
FolderShows old new fault = Rose (old.faults < new.faults) (old.misses < new.misses) (old.excesses < new.excesses) ⊥ fault

abbrev pub PatternsShow : PatternsTold → PatternsTold → InputFault → Type 0
PatternsShow before after fault = Rose ⊥ ⊥ ⊥ (before.refusals < after.refusals) fault

abbrev pub InputShows : FolderTold → FolderTold → PatternsTold → PatternsTold → InputFault → Type 0
InputShows old new before after fault =
    Rose (old.faults < new.faults) (old.misses < new.misses) (old.excesses < new.excesses) (before.refusals < after.refusals) fault
