-- Files that are read line by line.
use Rattle.std.specs.Prelude.{ℕ, suc, ◌≡◌, List, [], ◌∷◌, Result, Ok, Err}
use Rattle.table_lines.specs.declared.fault.TableFault.{TableFault}
use Rattle.table_lines.specs.declared.fault.TableFault.TheVariants.{BadLine, Conflict, Limit, NoMemory}

-- one step and then the other, or the first fault
abbrev pub and_then : {A B E : Type 0} → Result A E → (A → Result B E) → Result B E
and_then (Ok x) next = next x
and_then (Err e) next = Err e

-- what comes of lines, one after another, from a state: the state behind the last one, or the fault of the first that has one
abbrev pub read_from : {S : Type 0} → (S → ℕ → List ℕ → Result S TableFault) → ℕ → S → List (List ℕ) → Result S TableFault
read_from step number s [] = Ok s
read_from step number s (line ∷ later) = and_then (step s number line) (λ s. read_from step (suc number) s later)

-- what a call answers and leaves: the state, or the fault, or want of memory
abbrev pub Leaves : {S : Type 0} → Result S TableFault → Result (Unit {0}) TableFault → S → Type 0
Leaves step (Ok done) new = step ≡ Ok new
Leaves step (Err (BadLine line)) new = step ≡ Err (BadLine line)
Leaves step (Err (Conflict line earlier)) new = step ≡ Err (Conflict line earlier)
Leaves step (Err (Limit line)) new = step ≡ Err (Limit line)
Leaves step (Err NoMemory) new = Unit {0}

-- what a call answers: exactly this, or want of memory
abbrev pub Answers : {A : Type 0} → Result A TableFault → Result A TableFault → Type 0
Answers is (Ok x) = is ≡ Ok x
Answers is (Err (BadLine line)) = is ≡ Err (BadLine line)
Answers is (Err (Conflict line earlier)) = is ≡ Err (Conflict line earlier)
Answers is (Err (Limit line)) = is ≡ Err (Limit line)
Answers is (Err NoMemory) = Unit {0}
