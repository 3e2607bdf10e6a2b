-- How many records there are of each kind.
use Rattle.std.specs.Prelude.{ℕ, suc, Bool, true, false, List, [], ◌∷◌}
use Rattle.refutation_check.specs.declared.outcome.Verdict.{Verdict}
use Rattle.refutation_check.specs.declared.outcome.Verdict.TheVariants.{Sat, Undecided}
use Rattle.sefl_meaning.specs.declared.walk.End.{End}
use Rattle.sefl_meaning.specs.declared.walk.End.TheVariants.{Stopped, Delivered, Failed, Cut}
use Rattle.exact_records.specs.Records.{RecordTree, path, pruned, unexplored}
use Rattle.grow_command.specs.declared.counts.Counts.{Counts}

abbrev pub is_stopped : End → Bool
is_stopped Stopped = true
is_stopped Delivered = false
is_stopped (Failed failure site) = false
is_stopped Cut = false

abbrev pub is_delivered : End → Bool
is_delivered Stopped = false
is_delivered Delivered = true
is_delivered (Failed failure site) = false
is_delivered Cut = false

abbrev pub is_failed : End → Bool
is_failed Stopped = false
is_failed Delivered = false
is_failed (Failed failure site) = true
is_failed Cut = false

abbrev pub is_cut : End → Bool
is_cut Stopped = false
is_cut Delivered = false
is_cut (Failed failure site) = false
is_cut Cut = true

abbrev pub has_values : Verdict → Bool
has_values (Sat values) = true
has_values (Undecided cause) = false

abbrev pub has_cause : Verdict → Bool
has_cause (Sat values) = false
has_cause (Undecided cause) = true

-- a path whose end is so
abbrev pub ends_so : (End → Bool) → RecordTree → Bool
ends_so test (path ds places end' fields verdict) = test end'
ends_so test (pruned ds before refutation) = false
ends_so test (unexplored ds) = false

-- a path whose verdict is so
abbrev pub judged_so : (Verdict → Bool) → RecordTree → Bool
judged_so test (path ds places end' fields verdict) = test verdict
judged_so test (pruned ds before refutation) = false
judged_so test (unexplored ds) = false

abbrev pub is_pruned : RecordTree → Bool
is_pruned (path ds places end' fields verdict) = false
is_pruned (pruned ds before refutation) = true
is_pruned (unexplored ds) = false

abbrev pub is_unexplored : RecordTree → Bool
is_unexplored (path ds places end' fields verdict) = false
is_unexplored (pruned ds before refutation) = false
is_unexplored (unexplored ds) = true

-- one more where the test holds
abbrev pub one_more : Bool → ℕ → ℕ
one_more true n = suc n
one_more false n = n

abbrev pub count_where : (RecordTree → Bool) → List RecordTree → ℕ
count_where test [] = 0
count_where test (r ∷ rs) = one_more (test r) (count_where test rs)

-- how many of the records are of each kind: paths by their ends, and by their verdicts; refuted sides; decisions not tried
abbrev pub counts_of : List RecordTree → Counts
counts_of rs = record {
  stopped = count_where (ends_so is_stopped) rs;
  delivered = count_where (ends_so is_delivered) rs;
  failed = count_where (ends_so is_failed) rs;
  cut = count_where (ends_so is_cut) rs;
  sat = count_where (judged_so has_values) rs;
  undecided = count_where (judged_so has_cause) rs;
  pruned = count_where is_pruned rs;
  unexplored = count_where is_unexplored rs;
}

abbrev pub no_counts : Counts
no_counts = record { stopped = 0; delivered = 0; failed = 0; cut = 0; sat = 0; undecided = 0; pruned = 0; unexplored = 0 }

-- ---- with one record more

abbrev pub with_end : End → Counts → Counts
with_end e c = record c {
  stopped = one_more (is_stopped e) c.stopped;
  delivered = one_more (is_delivered e) c.delivered;
  failed = one_more (is_failed e) c.failed;
  cut = one_more (is_cut e) c.cut;
}

abbrev pub with_verdict : Verdict → Counts → Counts
with_verdict v c = record c { sat = one_more (has_values v) c.sat; undecided = one_more (has_cause v) c.undecided }

abbrev pub with_record : RecordTree → Counts → Counts
with_record (path ds places end' fields verdict) c = with_verdict verdict (with_end end' c)
with_record (pruned ds before refutation) c = record c { pruned = suc c.pruned }
with_record (unexplored ds) c = record c { unexplored = suc c.unexplored }
