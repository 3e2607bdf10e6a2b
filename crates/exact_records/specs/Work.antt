-- How many instructions the runs of records begin, what is shared counted once.
use Rattle.std.specs.Prelude.{ℕ, ◌+◌, ◌-◌, ◌==◌, List, [], ◌∷◌, Option, None, Some, if◌then◌else◌}
use Rattle.sefl_meaning.specs.declared.walk.Decision.{Decision}
use Rattle.sefl_meaning.specs.Order.{rank}
use Rattle.sefl_meaning.specs.Routes.{Route, route}
use Rattle.sefl_meaning.specs.Start.{progress_of}
use Rattle.sefl_meaning.specs.Trees.{Tree}
use Rattle.exact_records.specs.Records.{RecordTree, SymStart, decisions_of, path, pruned, unexplored}

-- what two lists begin with
abbrev pub common : List Decision → List Decision → List Decision
common [] ds = []
common (c ∷ cs) [] = []
common (c ∷ cs) (d ∷ ds) = if rank c == rank d then c ∷ common cs ds else []

abbrev pub without_last : List Decision → List Decision
without_last [] = []
without_last (d ∷ []) = []
without_last (d ∷ e ∷ ds) = d ∷ without_last (e ∷ ds)

-- how many instructions have begun where a route waits, or is over
abbrev pub begun_on : {V F : Type 0} → Option (Route V F) → ℕ
begun_on None = 0
begun_on (Some r) = (progress_of r.left).begun

-- where these decisions lead: up to and with the instruction that asks for the next one, or all of them
abbrev pub begun_at : {V F : Type 0} → Tree V F → List Decision → ℕ
begun_at t ds = begun_on (route t ds)

-- over any number of instructions where decisions lead
module _ (at : List Decision → ℕ) where
  -- up to and with the instruction that takes the last decision, and none where there is no decision
  abbrev pub at_last : List Decision → ℕ
  at_last [] = 0
  at_last (d ∷ ds) = at (without_last (d ∷ ds))

  -- how many instructions the run of a record begins
  abbrev pub count_of : RecordTree → ℕ
  count_of (path ds places end' fields verdict) = at ds
  count_of (pruned ds before refutation) = at_last ds
  count_of (unexplored ds) = at_last ds

  -- of records behind this one: what each shares with the record before it is not counted again
  abbrev pub work_after : RecordTree → List RecordTree → ℕ
  work_after before [] = 0
  work_after before (x ∷ xs) = (count_of x - at (common (decisions_of before) (decisions_of x))) + work_after x xs

  abbrev pub work_by : List RecordTree → ℕ
  work_by [] = 0
  work_by (x ∷ xs) = count_of x + work_after x xs

-- the work of a list of records
abbrev pub work_of : SymStart → List RecordTree → ℕ
work_of s rs = work_by (begun_at s.tree) rs
