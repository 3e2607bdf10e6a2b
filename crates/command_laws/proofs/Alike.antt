-- Lists of records that are the same except for their refutations have the same counts.
use Rattle.std.proofs.Common.{◌≡◌, ◌∙◌, ℕ, Bool, List, [], ◌∷◌, map, refl, sym, ap}
use Rattle.net_check.specs.Network.{Network, Entry}
use Rattle.exact_records.specs.Packets.{AreExactFor}
use Rattle.exact_records.specs.Records.{RecordTree, path, pruned, unexplored}
use Rattle.one_list.specs.Same.{RecordsAreOne}
use Rattle.one_list.specs.Told.{AlikeTellTheSame, SeesNoRefutation, TellTheSame}
use Rattle.record_checks.specs.Counts.{count_where, counts_of, is_pruned, is_sat, is_undecided, is_unexplored, one_more}

abbrev trues : List Bool → ℕ
trues [] = 0
trues (b ∷ bs) = one_more b (trues bs)

counted : (test : RecordTree → Bool) (rs : List RecordTree) → count_where test rs ≡ trues (map test rs)
counted test [] = refl
counted test (x ∷ rs) = ap (one_more (test x)) (counted test rs)

sat_sees : SeesNoRefutation is_sat
sat_sees (path ds places end' fields verdict) = refl
sat_sees (pruned ds before refutation) = refl
sat_sees (unexplored ds) = refl

undecided_sees : SeesNoRefutation is_undecided
undecided_sees (path ds places end' fields verdict) = refl
undecided_sees (pruned ds before refutation) = refl
undecided_sees (unexplored ds) = refl

pruned_sees : SeesNoRefutation is_pruned
pruned_sees (path ds places end' fields verdict) = refl
pruned_sees (pruned ds before refutation) = refl
pruned_sees (unexplored ds) = refl

untried_sees : SeesNoRefutation is_unexplored
untried_sees (path ds places end' fields verdict) = refl
untried_sees (pruned ds before refutation) = refl
untried_sees (unexplored ds) = refl

module _ (rs qs : List RecordTree) (same : TellTheSame rs qs) where
  same_count : (test : RecordTree → Bool) → SeesNoRefutation test → count_where test rs ≡ count_where test qs
  same_count test sees = counted test rs ∙ (ap trues (same.places test sees) ∙ sym (counted test qs))

  same_counts : counts_of rs ≡ counts_of qs
  same_counts = λ i. record {
    sat = same_count is_sat sat_sees i;
    undecided = same_count is_undecided undecided_sees i;
    pruned = same_count is_pruned pruned_sees i;
    unexplored = same_count is_unexplored untried_sees i;
  }

-- of exact records of one job
pub count_alike : AlikeTellTheSame → (net : Network) (i : Entry) (hops : ℕ) → RecordsAreOne net i hops → (limit : ℕ) (rs qs : List RecordTree)
    → AreExactFor net i hops limit rs → AreExactFor net i hops limit qs → counts_of rs ≡ counts_of qs
count_alike tell net i hops one limit rs qs exact other = same_counts rs qs (tell rs qs (one limit rs qs exact other))
