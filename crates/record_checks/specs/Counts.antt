-- How many records of each kind there are.
use Rattle.std.specs.Prelude.{ℕ, suc, ◌≡◌, ◌+◌, ◌≤◌, Bool, true, false, List, [], ◌∷◌}
use Rattle.refutation_check.specs.declared.outcome.Verdict.{Verdict}
use Rattle.refutation_check.specs.declared.outcome.Verdict.TheVariants.{Sat, Undecided}
use Rattle.exact_records.specs.Records.{RecordTree, path, pruned, unexplored}
use Rattle.record_checks.specs.declared.counts.Confirmed.{Confirmed}

abbrev pub has_values : Verdict → Bool
has_values (Sat values) = true
has_values (Undecided cause) = false

abbrev pub has_cause : Verdict → Bool
has_cause (Sat values) = false
has_cause (Undecided cause) = true

abbrev pub is_sat : RecordTree → Bool
is_sat (path ds places end' fields verdict) = has_values verdict
is_sat (pruned ds before refutation) = false
is_sat (unexplored ds) = false

abbrev pub is_undecided : RecordTree → Bool
is_undecided (path ds places end' fields verdict) = has_cause verdict
is_undecided (pruned ds before refutation) = false
is_undecided (unexplored ds) = false

abbrev pub is_pruned : RecordTree → Bool
is_pruned (path ds places end' fields verdict) = false
is_pruned (pruned ds before refutation) = true
is_pruned (unexplored ds) = false

abbrev pub is_unexplored : RecordTree → Bool
is_unexplored (path ds places end' fields verdict) = false
is_unexplored (pruned ds before refutation) = false
is_unexplored (unexplored ds) = true

-- one more where the test holds
abbrev pub one_more : Bool → ℕ → ℕ
one_more true n = suc n
one_more false n = n

abbrev pub count_where : (RecordTree → Bool) → List RecordTree → ℕ
count_where test [] = 0
count_where test (x ∷ xs) = one_more (test x) (count_where test xs)

abbrev pub counts_of : List RecordTree → Confirmed
counts_of xs = record {
  sat = count_where is_sat xs;
  undecided = count_where is_undecided xs;
  pruned = count_where is_pruned xs;
  unexplored = count_where is_unexplored xs;
}

-- with one record more
abbrev pub with_record : RecordTree → Confirmed → Confirmed
with_record x c = record {
  sat = one_more (is_sat x) c.sat;
  undecided = one_more (is_undecided x) c.undecided;
  pruned = one_more (is_pruned x) c.pruned;
  unexplored = one_more (is_unexplored x) c.unexplored;
}

-- no count exceeds this number
pub record AreAtMost (most : ℕ) (c : Confirmed) : Type 0 where
  pub sat : c.sat ≤ most
  pub undecided : c.undecided ≤ most
  pub pruned : c.pruned ≤ most
  pub unexplored : c.unexplored ≤ most

-- the counts so far, and those of what is left, are those of the whole
pub record AreCountedSo (c : Confirmed) (left whole : List RecordTree) : Type 0 where
  pub sat : c.sat + count_where is_sat left ≡ count_where is_sat whole
  pub undecided : c.undecided + count_where is_undecided left ≡ count_where is_undecided whole
  pub pruned : c.pruned + count_where is_pruned left ≡ count_where is_pruned whole
  pub unexplored : c.unexplored + count_where is_unexplored left ≡ count_where is_unexplored whole
