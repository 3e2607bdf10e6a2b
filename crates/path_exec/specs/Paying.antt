-- The steps that were taken, against the work of the records.
use Rattle.std.specs.Prelude.{ℕ, ◌≡◌, ◌≤◌, ◌+◌, List, [], ◌∷◌, ◌++◌}
use Rattle.std.specs.List.{AllByRecursion}
use Rattle.sefl_meaning.specs.declared.walk.Decision.{Decision}
use Rattle.exact_records.specs.Records.{RecordTree, SymStart, decisions_of}
use Rattle.exact_records.specs.Points.{Stands, Obligation}
use Rattle.exact_records.specs.Work.{at_last, begun_at, common, work_by, work_of}

-- what was raised is at most the work of the records that are done, and what the next piece of work adds to it
pub record Paid (at : List Decision → ℕ) (done : List RecordTree) (next : List Decision) (before raised : ℕ) : Type 0 where
  pub none_done : done ≡ [] → raised ≤ before
  pub some_done : (front : List RecordTree) (last : RecordTree) → done ≡ front ++ last ∷ []
      → raised + at (common (decisions_of last) next) ≤ work_by at done + before

module _ (s : SymStart) where
  -- how many had begun at the node that an obligation is behind
  abbrev pub begun_before : Obligation → ℕ
  begun_before obligation = at_last (begun_at s.tree) obligation.0.decisions

  -- on the way to the obligation no more had begun
  abbrev pub HasGrown : Obligation → Type 0
  HasGrown obligation = (p : List Decision) (d : Decision) (rest : List Decision) → obligation.0.decisions ≡ p ++ d ∷ rest
      → begun_at s.tree p ≤ begun_before obligation

  abbrev pub PaidBy : List RecordTree → List Obligation → ℕ → Type 0
  PaidBy done [] raised = raised ≤ work_of s done
  PaidBy done (obligation ∷ obligations) raised = Paid (begun_at s.tree) done obligation.0.decisions (begun_before obligation) raised

  -- the records and the obligations stand for the whole, and `raised` steps were taken for the records
  pub record Holds (limit : ℕ) (done : List RecordTree) (obligations : List Obligation) (raised : ℕ) : Type 0 where
    pub stands : Stands s limit done obligations
    pub paid : PaidBy done obligations raised
    pub grown : AllByRecursion HasGrown obligations
