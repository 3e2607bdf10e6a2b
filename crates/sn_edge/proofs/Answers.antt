-- Facts of each answer, by its cases.
use Rattle.std.proofs.Common.{◌<◌, ◌≤◌, ℕ, List, None, arith}
use Rattle.std.specs.Option.{ForSome}
use Rattle.sn_edge.specs.Loaded.{IfBytes, OnAbsent, OnTooBig, OnFailed}
use Rattle.sn_edge.specs.DirFolder.{FolderCounts, after_answer}
use Rattle.sn_edge.specs.declared.folder.Loaded.{Loaded}
use Rattle.sn_edge.specs.declared.folder.Loaded.TheVariants.{Bytes, Absent, TooBig, Failed, NoMemory}

-- nothing is told, so each fact of it holds
pub untold : {A : Type 0} (P : A → Type 0) → ForSome None P
untold P x is = cc

pub at_bytes : (answer : Loaded) {P : List ℕ → Type 0} → ((bytes : List ℕ) → P bytes) → IfBytes answer P
at_bytes (Bytes bytes) p = p bytes.items
at_bytes Absent p = tt
at_bytes TooBig p = tt
at_bytes Failed p = tt
at_bytes NoMemory p = tt

pub at_absent : (answer : Loaded) {P : Type 0} → P → OnAbsent answer P
at_absent (Bytes bytes) p = tt
at_absent Absent p = p
at_absent TooBig p = tt
at_absent Failed p = tt
at_absent NoMemory p = tt

pub at_too_big : (answer : Loaded) {P : Type 0} → P → OnTooBig answer P
at_too_big (Bytes bytes) p = tt
at_too_big Absent p = tt
at_too_big TooBig p = p
at_too_big Failed p = tt
at_too_big NoMemory p = tt

-- what an answer does to the counts
pub record Counts (old : FolderCounts) (answer : Loaded) (new : FolderCounts) : Type 0 where
  pub faults_stay : old.faults ≤ new.faults
  pub misses_stay : old.misses ≤ new.misses
  pub excesses_stay : old.excesses ≤ new.excesses
  pub failed : OnFailed answer (old.faults < new.faults)
  pub absent : OnAbsent answer (old.misses < new.misses)
  pub too_big : OnTooBig answer (old.excesses < new.excesses)

pub counts : (old : FolderCounts) (answer : Loaded) → Counts old answer (after_answer old answer)
counts old (Bytes bytes) =
    record { faults_stay = omega arith; misses_stay = omega arith; excesses_stay = omega arith; failed = tt; absent = tt; too_big = tt }
counts old Absent =
    record { faults_stay = omega arith; misses_stay = omega arith; excesses_stay = omega arith; failed = tt; absent = omega arith; too_big = tt }
counts old TooBig =
    record { faults_stay = omega arith; misses_stay = omega arith; excesses_stay = omega arith; failed = tt; absent = tt; too_big = omega arith }
counts old Failed =
    record { faults_stay = omega arith; misses_stay = omega arith; excesses_stay = omega arith; failed = omega arith; absent = tt; too_big = tt }
counts old NoMemory =
    record { faults_stay = omega arith; misses_stay = omega arith; excesses_stay = omega arith; failed = tt; absent = tt; too_big = tt }
