-- The answer for records that are handed over one by one.
use Rattle.std.proofs.Common.{◌≡◌, ◌∙◌, ℕ, suc, ◌+◌, ◌≤◌, Bool, true, false, List, [], ◌∷◌, ◌++◌, length, Option, None, Some, Result, Ok, Err, IfOk, refl, sym, ap, subst, append_assoc}
use Rattle.std.proofs.lemmas.List.{length-append, map-append}
use Rattle.path_records.specs.declared.records.Record.{Record}
use Rattle.exact_records.specs.Records.{HasMeaning, RecordTree, SymStart}
use Rattle.exact_records.specs.View.{record_tree, record_trees}
use Rattle.record_checks.specs.Confirming.{Confirms, ConfirmsNext, IsFirstBroken}
use Rattle.record_checks.specs.Counts.{AreAtMost, count_where, counts_of, is_pruned, is_sat, is_undecided, is_unexplored, one_more, with_record}
use Rattle.record_checks.specs.Supplies.{ConfirmsAll, ConfirmsMore, HandsOver}
use Rattle.record_checks.specs.declared.counts.Confirmed.{Confirmed}
use Rattle.record_checks.specs.declared.fault.ReplayFault.{ReplayFault}
use Rattle.record_checks.specs.declared.fault.ReplayFault.TheVariants.{NotConfirmed, NoMemory}
use Rattle.record_checks.specs.declared.part.Part.{Part}
use Rattle.record_checks.proofs.Counting.{at_most_more, counts_raised}
use Rattle.record_checks.proofs.OneAnswer.{all_pushed}

swapped : (a b : Bool) (n : ℕ) → one_more a (one_more b n) ≡ one_more b (one_more a n)
swapped true true n = refl
swapped true false n = refl
swapped false true n = refl
swapped false false n = refl

count_with : (test : RecordTree → Bool) (xs : List RecordTree) (x : RecordTree) → one_more (test x) (count_where test xs) ≡ count_where test (xs ++ x ∷ [])
count_with test [] x = refl
count_with test (y ∷ xs) x = swapped (test x) (test y) (count_where test xs) ∙ ap (one_more (test y)) (count_with test xs x)

counts_with : (xs : List RecordTree) (x : RecordTree) → with_record x (counts_of xs) ≡ counts_of (xs ++ x ∷ [])
counts_with xs x = λ i. record {
  sat = count_with is_sat xs x i;
  undecided = count_with is_undecided xs x i;
  pruned = count_with is_pruned xs x i;
  unexplored = count_with is_unexplored xs x i;
}

module _ (s : SymStart) (xs : List RecordTree) (x : RecordTree) (number : ℕ) where
  behind_broken : (at : ℕ) (part : Part) → IsFirstBroken s at part xs → IsFirstBroken s at part (xs ++ x ∷ [])
  behind_broken at part h = record {
    front = h.front;
    it = h.it;
    later = h.later ++ x ∷ [];
    is = ap (λ ys. ys ++ x ∷ []) h.is ∙ append_assoc h.front (h.it ∷ h.later) (x ∷ []);
    at = h.at;
    before = h.before;
    broken = h.broken;
  }

  next_confirmed : length xs ≡ number → (counts : Confirmed) (result : Result Confirmed ReplayFault) → Confirms s xs (Ok counts)
      → ConfirmsNext s x number counts result → Confirms s (xs ++ x ∷ []) result
  next_confirmed numbered counts (Ok new) h k =
      (all_pushed (HasMeaning s) xs x h.0 k.0, k.1 ∙ (ap (with_record x) h.1 ∙ counts_with xs x))
  next_confirmed numbered counts (Err (NotConfirmed at part)) h k = record {
    front = xs;
    it = x;
    later = [];
    is = refl;
    at = numbered ∙ sym k.0;
    before = h.0;
    broken = k.1;
  }
  next_confirmed numbered counts (Err NoMemory) h k = tt

  -- the answer with one record more
  pub confirmed_more : length xs ≡ number → (answer result : Result Confirmed ReplayFault) → Confirms s xs answer → ConfirmsMore s x number answer result
      → Confirms s (xs ++ x ∷ []) result
  confirmed_more numbered (Ok counts) result h k = next_confirmed numbered counts result h k
  confirmed_more numbered (Err (NotConfirmed at part)) result h k = subst (Confirms s (xs ++ x ∷ [])) (sym k) (behind_broken at part h)
  confirmed_more numbered (Err NoMemory) result h k = subst (Confirms s (xs ++ x ∷ [])) (sym k) tt

  next_few : (counts : Confirmed) (result : Result Confirmed ReplayFault) → AreAtMost number counts → ConfirmsNext s x number counts result
      → IfOk result (AreAtMost (suc number))
  next_few counts (Ok new) few k = subst (AreAtMost (suc number)) (sym k.1) (counts_raised counts x number few)
  next_few counts (Err fault) few k = tt

  -- its counts are no more than the records
  pub few_more : (answer result : Result Confirmed ReplayFault) → IfOk answer (AreAtMost number) → ConfirmsMore s x number answer result
      → IfOk result (AreAtMost (suc number))
  few_more (Ok counts) result few k = next_few counts result few k
  few_more (Err fault) result few k = subst (λ r. IfOk r (AreAtMost (suc number))) (sym k) tt

pub few_within : (answer : Result Confirmed ReplayFault) (few many : ℕ) → few ≤ many → IfOk answer (AreAtMost few) → IfOk answer (AreAtMost many)
few_within (Ok counts) few many within h = at_most_more counts few many within h
few_within (Err fault) few many within h = tt

module _ {S : Type 0} (steps : S → Option Record → S → Type 0) where
  -- one record further
  pub handed_more : (u : S) (xs : List Record) (v : S) (x : Record) (w : S) → HandsOver steps u xs v → steps v (Some x) w → HandsOver steps u (xs ++ x ∷ []) w
  handed_more u [] v x w is step = (w, subst (λ a. steps a (Some x) w) is step, refl)
  handed_more u (y ∷ xs) v x w (m, first, rest) step = (m, first, handed_more m xs v x w rest step)

  -- the answer at the end
  pub all_confirmed : (s : SymStart) (u : S) (xs : List Record) (v w : S) (answer : Result Confirmed ReplayFault) → HandsOver steps u xs v → steps v None w
      → Confirms s (record_trees xs) answer → ConfirmsAll steps s u w answer
  all_confirmed s u xs v w (Ok counts) over last h = (xs, record { before = v; over = over; last = last }, h)
  all_confirmed s u xs v w (Err (NotConfirmed number part)) over last h = (xs, record { before = v; over = over; last = last }, h)
  all_confirmed s u xs v w (Err NoMemory) over last h = tt

-- records and their trees, with one more
pub trees_with : (xs : List Record) (x : Record) → record_trees xs ++ record_tree x ∷ [] ≡ record_trees (xs ++ x ∷ [])
trees_with xs x = sym (map-append record_tree xs (x ∷ []))

pub length_with : {A : Type 0} (xs : List A) (x : A) (n : ℕ) → length xs ≡ n → length (xs ++ x ∷ []) ≡ n + 1
length_with xs x n is = length-append xs (x ∷ []) ∙ ap (λ m. m + 1) is
