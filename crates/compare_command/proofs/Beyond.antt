-- A comparison over records of which none is cut holds under every larger bound of hops.
use Rattle.std.proofs.Common.{◌≡◌, ◌∙◌, ℕ, Bool, true, false, if◌then◌else◌, suc, List, [], ◌∷◌, map, refl, sym, ap, subst, arith}
use Rattle.std.specs.List.{AllByRecursion}
use Rattle.net_check.specs.Network.{Network, Entry}
use Rattle.sefl_meaning.specs.declared.walk.End.TheVariants.{Cut}
use Rattle.sefl_meaning.specs.Order.{Has}
use Rattle.sefl_meaning.specs.Walks.{Passage, Trail, shown}
use Rattle.exact_records.specs.Exact.{IsTried}
use Rattle.exact_records.specs.Packets.{IsWalkOf}
use Rattle.exact_records.specs.Records.{RecordTree, path, pruned, unexplored}
use Rattle.hop_bounds.specs.Beyond.{AllUncut, HasSameWalks, IsUncut, UncutRecordsGoBeyond}
use Rattle.compare_meaning.specs.Answers.{IsMissedBy, IsTrueOf}
use Rattle.compare_meaning.specs.Comparing.{Comparison, same, other, unknown}
use Rattle.compare_meaning.specs.Outputs.{Delivers, Output}
use Rattle.compare_meaning.specs.Paths.{Half}
use Rattle.net_compare.specs.Halves.{half_of}
use Rattle.compare_command.specs.Beyond.{UncutComparisonsGoBeyond}
use Rattle.compare_command.specs.Compares.{cut_count, is_cut, is_cut_end}

-- ---- none is cut

not_both : (b : Bool) → b ≡ true → b ≡ false → ⊥
not_both b holds fails = clash (sym holds ∙ fails)
  where
    clash : true ≡ false → ⊥
    clash e = cc e

uncut : (x : RecordTree) → IsTried x → is_cut x ≡ false → IsUncut x
uncut (path ds places end' fields verdict) tried not_cut = λ (is : end' ≡ Cut). not_both (is_cut_end end') (ap is_cut_end is) not_cut
uncut (pruned ds before refutation) tried not_cut = tt
uncut (unexplored ds) tried not_cut = absurd (tried tt)

first_uncut : (b : Bool) (n : ℕ) → (if b then suc n else n) ≡ 0 → b ≡ false
first_uncut true n none = absurd (omega (arith, none))
first_uncut false n none = refl

rest_uncut : (b : Bool) (n : ℕ) → (if b then suc n else n) ≡ 0 → n ≡ 0
rest_uncut true n none = absurd (omega (arith, none))
rest_uncut false n none = none

all_uncut : (xs : List RecordTree) → AllByRecursion IsTried xs → cut_count xs ≡ 0 → AllUncut xs
all_uncut [] tried none = tt
all_uncut (x ∷ xs) tried none =
    (uncut x tried.0 (first_uncut (is_cut x) (cut_count xs) none), all_uncut xs tried.1 (rest_uncut (is_cut x) (cut_count xs) none))

-- ---- so walks are the same

module _ (net : Network) (i : Entry) (hops more : ℕ) (same_walks : HasSameWalks net i hops more) where
  further : (v : List ℕ) (w : Trail) → IsWalkOf net i hops v w → IsWalkOf net i more v w
  further v w (s, starts, has) = (s, starts, subst (λ (us : List Passage). Has (map shown us) w) (sym (same_walks v s starts)) has)

  before : (v : List ℕ) (w : Trail) → IsWalkOf net i more v w → IsWalkOf net i hops v w
  before v w (s, starts, has) = (s, starts, subst (λ (us : List Passage). Has (map shown us) w) (same_walks v s starts) has)

  delivers_further : (v : List ℕ) (seen : Output) → Delivers net i hops v seen → Delivers net i more v seen
  delivers_further v seen d = record { walk = d.walk; is = further v d.walk d.is; delivered = d.delivered; output = d.output }

  delivers_before : (v : List ℕ) (seen : Output) → Delivers net i more v seen → Delivers net i hops v seen
  delivers_before v seen d = record { walk = d.walk; is = before v d.walk d.is; delivered = d.delivered; output = d.output }

module _ (hops more : ℕ) where
  missed_further : (l r : Half) (number : ℕ) (values : List ℕ) → HasSameWalks l.net l.entry hops more → HasSameWalks r.net r.entry hops more
      → IsMissedBy hops l r number values → IsMissedBy more l r number values
  missed_further l r number values left right h = record {
    shower = h.shower;
    numbered = h.numbered;
    walk = h.walk;
    is = further l.net l.entry hops more left values h.walk h.is;
    decisions = h.decisions;
    delivered = h.delivered;
    meets = h.meets;
    missed = λ d. h.missed (delivers_before r.net r.entry hops more right values _ d);
  }

  true_further : (l r : Half) → HasSameWalks l.net l.entry hops more → HasSameWalks r.net r.entry hops more → (answer : Comparison)
      → IsTrueOf hops l r answer → IsTrueOf more l r answer
  true_further l r left right same h = λ v seen. (
    λ d. delivers_further r.net r.entry hops more right v seen ((h v seen).0 (delivers_before l.net l.entry hops more left v seen d)),
    λ d. delivers_further l.net l.entry hops more left v seen ((h v seen).1 (delivers_before r.net r.entry hops more right v seen d)),
  )
  true_further l r left right (other true number values) h = missed_further l r number values left right h
  true_further l r left right (other false number values) h = missed_further r l number values right left h
  true_further l r left right (unknown ns ms) h = tt

-- nothing of it speaks of what is explored
same_truth : (hops more : ℕ) (ln : Network) (li : Entry) (rn : Network) (ri : Entry) (lefts rights : List RecordTree) (answer : Comparison)
    → IsTrueOf more (half_of hops ln li lefts) (half_of hops rn ri rights) answer → IsTrueOf more (half_of more ln li lefts) (half_of more rn ri rights) answer
same_truth hops more ln li rn ri lefts rights same h = h
same_truth hops more ln li rn ri lefts rights (other true number values) h = record {
  shower = h.shower;
  numbered = h.numbered;
  walk = h.walk;
  is = h.is;
  decisions = h.decisions;
  delivered = h.delivered;
  meets = h.meets;
  missed = h.missed;
}
same_truth hops more ln li rn ri lefts rights (other false number values) h = record {
  shower = h.shower;
  numbered = h.numbered;
  walk = h.walk;
  is = h.is;
  decisions = h.decisions;
  delivered = h.delivered;
  meets = h.meets;
  missed = h.missed;
}
same_truth hops more ln li rn ri lefts rights (unknown ns ms) h = tt

pub uncut_beyond : ((net : Network) (i : Entry) (hops : ℕ) → UncutRecordsGoBeyond net i hops) → (hops limit : ℕ) (ln : Network) (li : Entry) (rn : Network) (ri : Entry)
    → UncutComparisonsGoBeyond hops limit ln li rn ri
uncut_beyond beyond hops limit ln li rn ri lefts rights left right none nothing answer h more least =
    let one = (beyond ln li hops limit lefts left.exact (all_uncut lefts left.ends none) more least).walks in
    let two = (beyond rn ri hops limit rights right.exact (all_uncut rights right.ends nothing) more least).walks in
    same_truth hops more ln li rn ri lefts rights answer
    (true_further hops more (half_of hops ln li lefts) (half_of hops rn ri rights) one two answer h)
