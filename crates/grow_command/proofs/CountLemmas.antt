-- The counts of one record more.
use Rattle.std.proofs.Common.{◌≡◌, ◌∙◌, refl, sym, ap, ℕ, Bool, true, false, List, [], ◌∷◌, ◌++◌, map}
use Rattle.std.proofs.lemmas.List.{map-append}
use Rattle.refutation_check.specs.declared.outcome.Verdict.{Verdict}
use Rattle.refutation_check.specs.declared.outcome.Verdict.TheVariants.{Sat, Undecided}
use Rattle.exact_records.specs.Records.{RecordTree, path, pruned, unexplored}
use Rattle.exact_records.specs.Points.{filled_verdict}
use Rattle.path_exec.specs.Handing.{Handed}
use Rattle.symbolic_engine.specs.declared.found.Found.{Found}
use Rattle.symbolic_engine.specs.Finds.{handed_tree}
use Rattle.grow_command.specs.Counted.{count_where, counts_of, ends_so, has_cause, has_values, is_cut, is_delivered, is_failed, is_pruned, is_stopped, is_unexplored, judged_so, one_more, with_record, with_verdict}
use Rattle.grow_command.specs.declared.counts.Counts.{Counts}

swapped : (a b : Bool) (n : ℕ) → one_more a (one_more b n) ≡ one_more b (one_more a n)
swapped true true n = refl
swapped true false n = refl
swapped false true n = refl
swapped false false n = refl

count_more : (test : RecordTree → Bool) (rs : List RecordTree) (r : RecordTree) → count_where test (rs ++ r ∷ []) ≡ one_more (test r) (count_where test rs)
count_more test [] r = refl
count_more test (x ∷ rs) r = ap (one_more (test x)) (count_more test rs r) ∙ swapped (test x) (test r) (count_where test rs)

one_record_more : (rs : List RecordTree) (r : RecordTree) → counts_of (rs ++ r ∷ []) ≡ with_record r (counts_of rs)
one_record_more rs (path ds places end' fields verdict) =
    let r = path ds places end' fields verdict in
    λ k. record {
      stopped = count_more (ends_so is_stopped) rs r k;
      delivered = count_more (ends_so is_delivered) rs r k;
      failed = count_more (ends_so is_failed) rs r k;
      cut = count_more (ends_so is_cut) rs r k;
      sat = count_more (judged_so has_values) rs r k;
      undecided = count_more (judged_so has_cause) rs r k;
      pruned = count_more is_pruned rs r k;
      unexplored = count_more is_unexplored rs r k;
    }
one_record_more rs (pruned ds before refutation) =
    let r = pruned ds before refutation in
    λ k. record {
      stopped = count_more (ends_so is_stopped) rs r k;
      delivered = count_more (ends_so is_delivered) rs r k;
      failed = count_more (ends_so is_failed) rs r k;
      cut = count_more (ends_so is_cut) rs r k;
      sat = count_more (judged_so has_values) rs r k;
      undecided = count_more (judged_so has_cause) rs r k;
      pruned = count_more is_pruned rs r k;
      unexplored = count_more is_unexplored rs r k;
    }
one_record_more rs (unexplored ds) =
    let r = unexplored ds in
    λ k. record {
      stopped = count_more (ends_so is_stopped) rs r k;
      delivered = count_more (ends_so is_delivered) rs r k;
      failed = count_more (ends_so is_failed) rs r k;
      cut = count_more (ends_so is_cut) rs r k;
      sat = count_more (judged_so has_values) rs r k;
      undecided = count_more (judged_so has_cause) rs r k;
      pruned = count_more is_pruned rs r k;
      unexplored = count_more is_unexplored rs r k;
    }

-- the counts with one record more are those of the longer list
pub counts_more : (old new : Counts) (items : List (Handed Found)) (item : Handed Found) → new ≡ with_record (handed_tree item) old → old ≡ counts_of (map handed_tree items)
    → new ≡ counts_of (map handed_tree (items ++ item ∷ []))
counts_more old new items item is stands =
    is ∙ (ap (with_record (handed_tree item)) stands
    ∙ (sym (one_record_more (map handed_tree items) (handed_tree item)) ∙ ap counts_of (sym (map-append handed_tree items (item ∷ [])))))

-- a verdict is counted as one with a value for each symbol
pub filled_is_counted : (count : ℕ) (verdict : Verdict) (c : Counts) → with_verdict verdict c ≡ with_verdict (filled_verdict count verdict) c
filled_is_counted count (Sat values) c = refl
filled_is_counted count (Undecided cause) c = refl
