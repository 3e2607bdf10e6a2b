-- A grown job has one outcome.
use Rattle.std.proofs.Common.{◌≡◌, ◌∙◌, ℕ, Bool, List, [], ◌∷◌, map, refl, sym, ap}
use Rattle.refutation_check.specs.declared.outcome.Verdict.{Verdict}
use Rattle.sefl_meaning.specs.declared.walk.End.{End}
use Rattle.net_check.specs.Network.{Network, Entry}
use Rattle.exact_records.specs.Exact.{IsTried, IsUnexplored}
use Rattle.exact_records.specs.Records.{RecordTree, path, pruned, unexplored}
use Rattle.exact_records.proofs.Lists.{some_not}
use Rattle.one_list.specs.Same.{RecordsAreOne}
use Rattle.one_list.specs.Told.{AlikeTellTheSame, SeesNoRefutation, TellTheSame}
use Rattle.command_edge.specs.Puts.{Outcome, text, refused}
use Rattle.command_edge.specs.declared.ending.Ending.{Ending}
use Rattle.command_edge.specs.declared.ending.Ending.TheVariants.{Done, Partial}
use Rattle.grow_command.specs.Counted.{count_where, counts_of, ends_so, has_cause, has_values, is_cut, is_delivered, is_failed, is_pruned, is_stopped, is_unexplored, judged_so, one_more}
use Rattle.grow_command.specs.Grows.{IsEnding, SummaryOf}
use Rattle.grow_command.specs.Summary.{summary_text}
use Rattle.grow_command.specs.declared.grow.TheConstants.{LIMIT}

-- ---- numbers

abbrev trues : List Bool → ℕ
trues [] = 0
trues (b ∷ bs) = one_more b (trues bs)

counted : (test : RecordTree → Bool) (rs : List RecordTree) → count_where test rs ≡ trues (map test rs)
counted test [] = refl
counted test (x ∷ rs) = ap (one_more (test x)) (counted test rs)

ends_see : (test : End → Bool) → SeesNoRefutation (ends_so test)
ends_see test (path ds places end' fields verdict) = refl
ends_see test (pruned ds before refutation) = refl
ends_see test (unexplored ds) = refl

judged_see : (test : Verdict → Bool) → SeesNoRefutation (judged_so test)
judged_see test (path ds places end' fields verdict) = refl
judged_see test (pruned ds before refutation) = refl
judged_see test (unexplored ds) = refl

pruned_sees : SeesNoRefutation is_pruned
pruned_sees (path ds places end' fields verdict) = refl
pruned_sees (pruned ds before refutation) = refl
pruned_sees (unexplored ds) = refl

untried_sees : SeesNoRefutation is_unexplored
untried_sees (path ds places end' fields verdict) = refl
untried_sees (pruned ds before refutation) = refl
untried_sees (unexplored ds) = refl

module _ (rs qs : List RecordTree) (same : TellTheSame rs qs) where
  same_count : (test : RecordTree → Bool) → SeesNoRefutation test → count_where test rs ≡ count_where test qs
  same_count test sees = counted test rs ∙ (ap trues (same.places test sees) ∙ sym (counted test qs))

  same_counts : counts_of rs ≡ counts_of qs
  same_counts = λ i. record {
    stopped = same_count (ends_so is_stopped) (ends_see is_stopped) i;
    delivered = same_count (ends_so is_delivered) (ends_see is_delivered) i;
    failed = same_count (ends_so is_failed) (ends_see is_failed) i;
    cut = same_count (ends_so is_cut) (ends_see is_cut) i;
    sat = same_count (judged_so has_values) (judged_see has_values) i;
    undecided = same_count (judged_so has_cause) (judged_see has_cause) i;
    pruned = same_count is_pruned pruned_sees i;
    unexplored = same_count is_unexplored untried_sees i;
  }

  same_ending : (a b : Ending) → IsEnding a rs → IsEnding b qs → a ≡ b
  same_ending Done Done h k = refl
  same_ending Done Partial h k = absurd (some_not IsUnexplored IsTried qs (λ x un tried. tried un) k (same.whole.0 h))
  same_ending Partial Done h k = absurd (some_not IsUnexplored IsTried rs (λ x un tried. tried un) h (same.whole.1 k))
  same_ending Partial Partial h k = refl

-- ---- the summary

pub grows_once : AlikeTellTheSame → ((net : Network) (i : Entry) (hops : ℕ) → RecordsAreOne net i hops) → (seed boxes : ℕ) (net : Network) (i : Entry) (a b : Outcome)
    → SummaryOf seed boxes net i a → SummaryOf seed boxes net i b → a ≡ b
grows_once tell one seed boxes net i (text ending whole) (text other line) h k =
    let same = tell h.1.records k.1.records (one net i _ LIMIT h.1.records k.1.records h.1.exact k.1.exact) in
    let ends = same_ending h.1.records k.1.records same ending other h.1.ends k.1.ends in
    let counts = h.1.counted ∙ (same_counts h.1.records k.1.records same ∙ sym k.1.counted) in
    let lines = h.2 ∙ (ap (summary_text seed boxes) counts ∙ sym k.2) in
    λ j. text (ends j) (lines j)
grows_once tell one seed boxes net i (text ending whole) (refused fault) h k = absurd k
grows_once tell one seed boxes net i (refused fault) b h k = absurd h
