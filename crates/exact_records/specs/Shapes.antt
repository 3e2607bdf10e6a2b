-- Which records stand for a part of a tree, by their decisions alone.
use Rattle.std.specs.Prelude.{ℕ, suc, ◌≡◌, ◌<◌, ◌⊎◌, true, false, List, [], ◌∷◌, ◌++◌, length}
use Rattle.sefl_meaning.specs.declared.walk.Decision.{Decision}
use Rattle.sefl_meaning.specs.declared.walk.Decision.TheVariants.{Copy}
use Rattle.sefl_meaning.specs.Trees.{Tree, over, arrives, tests, splits, Copies, no_copies, copy_and}
use Rattle.sefl_meaning.specs.Taken.{decision_at}
use Rattle.exact_records.specs.Records.{RecordTree, path, pruned, unexplored}
use Rattle.exact_records.specs.Exact.{IsTried}

-- the path of these decisions
abbrev pub IsPathAt : List Decision → RecordTree → Type 0
IsPathAt ds (path es places end' fields verdict) = es ≡ ds
IsPathAt ds (pruned es before refutation) = ⊥
IsPathAt ds (unexplored es) = ⊥

-- a record of these decisions, which were not run
abbrev pub IsNotRun : List Decision → RecordTree → Type 0
IsNotRun ds (path es places end' fields verdict) = ⊥
IsNotRun ds (pruned es before refutation) = es ≡ ds
IsNotRun ds (unexplored es) = es ≡ ds

-- one record, with the property
pub record One (P : RecordTree → Type 0) (rs : List RecordTree) : Type 0 where
  pub it : RecordTree
  pub is : rs ≡ it ∷ []
  pub has : P it

-- some records, and then some others
pub record Joined (P Q : List RecordTree → Type 0) (rs : List RecordTree) : Type 0 where
  pub first : List RecordTree
  pub later : List RecordTree
  pub is : rs ≡ first ++ later
  pub firsts : P first
  pub laters : Q later

-- the first one is tried, or there is none
abbrev pub BeginsTried : List RecordTree → Type 0
BeginsTried [] = Unit {0}
BeginsTried (x ∷ xs) = IsTried x

-- a side that was not run, or was run and has something tried first
abbrev pub Side : List Decision → List RecordTree → Type 0 → Type 0
Side ds rs Covered = One (IsNotRun ds) rs ⊎ (BeginsTried rs × Covered)

-- a part of the tree that is left, behind its decisions
pub record Piece (V F : Type 0) : Type 0 where
  pub decisions : List Decision
  pub tree : Tree V F

module _ {V F : Type 0} where
  abbrev mutual
    -- the records stand for the tree behind the decisions
    pub Covers : Tree V F → List Decision → List RecordTree → Type 0
    Covers (over p end') ds rs = One (IsPathAt ds) rs
    Covers (arrives place p t) ds rs = Covers t ds rs
    Covers (tests asking p test held broken) ds rs =
        Joined (λ xs. Side (ds ++ decision_at asking true ∷ []) xs (Covers held (ds ++ decision_at asking true ∷ []) xs))
        (λ xs. Side (ds ++ decision_at asking false ∷ []) xs (Covers broken (ds ++ decision_at asking false ∷ []) xs)) rs
    Covers (splits p branches) ds rs = CoverCopies branches 0 ds rs

    -- for copies, numbered from a number on
    pub CoverCopies : Copies V F → ℕ → List Decision → List RecordTree → Type 0
    CoverCopies no_copies number ds rs = rs ≡ []
    CoverCopies (copy_and t branches) number ds rs =
        Joined (λ xs. Side (ds ++ Copy number ∷ []) xs (Covers t (ds ++ Copy number ∷ []) xs))
        (λ xs. CoverCopies branches (suc number) ds xs) rs

  abbrev pub SideOf : Tree V F → List Decision → List RecordTree → Type 0
  SideOf t ds rs = Side ds rs (Covers t ds rs)

  -- the records stand for the pieces, one after another
  abbrev pub CoverAll : List (Piece V F) → List RecordTree → Type 0
  CoverAll [] rs = rs ≡ []
  CoverAll (piece ∷ pieces) rs = Joined (SideOf piece.tree piece.decisions) (CoverAll pieces) rs

  -- whatever records stand for the pieces that are left, those that are done and they stand for the tree; below the
  -- limit the next one is tried
  pub record Continues (t : Tree V F) (limit : ℕ) (done : List RecordTree) (left : List (Piece V F)) : Type 0 where
    pub goes_on : (rest : List RecordTree) → CoverAll left rest → (length done < limit → BeginsTried rest) → SideOf t [] (done ++ rest)
