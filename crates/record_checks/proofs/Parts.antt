-- The parts of a record make its meaning.
use Rattle.std.proofs.Common.{◌≡◌, List, Some, refl, sym, subst, ◌∙◌}
use Rattle.lin_term.specs.Terms.{LinearTerm}
use Rattle.path_cond.specs.Seen.{itself}
use Rattle.refutation_check.specs.Seen.{IsLicensed}
use Rattle.refutation_check.specs.declared.outcome.Verdict.{Verdict}
use Rattle.refutation_check.specs.declared.outcome.Verdict.TheVariants.{Sat, Undecided}
use Rattle.sefl_meaning.specs.declared.walk.Decision.{Decision}
use Rattle.sefl_meaning.specs.declared.walk.End.{End}
use Rattle.sefl_meaning.specs.declared.walk.Place.{Place}
use Rattle.sefl_meaning.specs.Fields.{Fields}
use Rattle.exact_records.specs.Records.{HasMeaning, IsPath, Leads, MayBe, RecordTree, SymRoute, SymStart, condition_on, path, pruned, unexplored}
use Rattle.record_checks.specs.Parts.{AreTakenBy, EndSo, HasCause, HasEnd, IsBroken, IsRefutedSide, IsTaken, MayBeLeftBy, PartsMakeTheMeaning}
use Rattle.record_checks.specs.declared.part.Part.{Part}
use Rattle.record_checks.specs.declared.part.Part.TheVariants.{NotTaken, NotRefuted, OtherEnd, NotUndecided}

pub some_same : {A : Type 0} {a b : A} → Some a ≡ Some b → a ≡ b
some_same e = cc

module _ (s : SymStart) where
  -- decisions lead along one route
  pub one_way : (ds : List Decision) (p q : SymRoute) → Leads s ds p → Leads s ds q → p ≡ q
  one_way ds p q h k = some_same (sym h ∙ k)

  path_may : (ds : List Decision) (way : SymRoute) (verdict : Verdict) → Leads s ds way → AreTakenBy s ds verdict → MayBeLeftBy s ds verdict
      → MayBe s ds (condition_on s way) verdict
  path_may ds way (Sat values) leads taken left = taken
  path_may ds way (Undecided cause) leads taken left =
      subst (λ (r : SymRoute). IsLicensed itself (condition_on s r) cause) (one_way ds left.way way left.leads leads) left.licensed

  path_taken : (ds : List Decision) (way : SymRoute) (verdict : Verdict) → MayBe s ds (condition_on s way) verdict → AreTakenBy s ds verdict
  path_taken ds way (Sat values) may = may
  path_taken ds way (Undecided cause) may = tt

  path_left : (ds : List Decision) (way : SymRoute) (verdict : Verdict) → Leads s ds way → MayBe s ds (condition_on s way) verdict → MayBeLeftBy s ds verdict
  path_left ds way (Sat values) leads may = tt
  path_left ds way (Undecided cause) leads may = record { way = way; leads = leads; licensed = may }

  -- of a path
  path_whole : (ds : List Decision) (places : List Place) (end' : End) (fields : Fields LinearTerm) (verdict : Verdict)
      → AreTakenBy s ds verdict → EndSo s ds places end' fields → MayBeLeftBy s ds verdict → IsPath s ds places end' fields verdict
  path_whole ds places end' fields verdict taken ends left = record {
    way = ends.way;
    progress = ends.progress;
    leads = ends.leads;
    ended = ends.ended;
    places_are = ends.places_are;
    fields_are = ends.fields_are;
    verdict_may = path_may ds ends.way verdict ends.leads taken left;
  }

  pub all_parts : (x : RecordTree) → IsTaken s x → IsRefutedSide s x → HasEnd s x → HasCause s x → HasMeaning s x
  all_parts (path ds places end' fields verdict) taken side ends cause = path_whole ds places end' fields verdict taken.1 ends cause
  all_parts (pruned ds before refutation) taken side ends cause = side
  all_parts (unexplored ds) taken side ends cause = taken

  parts_of : (x : RecordTree) → HasMeaning s x → IsTaken s x × IsRefutedSide s x × HasEnd s x × HasCause s x
  parts_of (path ds places end' fields verdict) h =
      let taken : IsTaken s (path ds places end' fields verdict) =
      (record { way = h.way; progress = h.progress; end' = end'; leads = h.leads; ended = h.ended }, path_taken ds h.way verdict h.verdict_may) in
      let ends : EndSo s ds places end' fields =
      record { way = h.way; progress = h.progress; leads = h.leads; ended = h.ended; places_are = h.places_are; fields_are = h.fields_are } in
      (taken, tt, ends, path_left ds h.way verdict h.leads h.verdict_may)
  parts_of (pruned ds before refutation) h = (tt, h, tt, tt)
  parts_of (unexplored ds) h = (h, tt, tt, tt)

  not_whole : (part : Part) (x : RecordTree) → IsBroken s part x → HasMeaning s x → ⊥
  not_whole NotTaken x broken h = broken (parts_of x h).0
  not_whole NotRefuted x broken h = broken (parts_of x h).1
  not_whole OtherEnd x broken h = broken.1 (parts_of x h).2
  not_whole NotUndecided x broken h = broken.2 (parts_of x h).3

  -- of one record at most one of these is broken
  not_taken_or_refuted : (x : RecordTree) → (IsTaken s x → ⊥) → (IsRefutedSide s x → ⊥) → ⊥
  not_taken_or_refuted (path ds places end' fields verdict) h k = k tt
  not_taken_or_refuted (pruned ds before refutation) h k = h tt
  not_taken_or_refuted (unexplored ds) h k = k tt

  not_refuted_or_ended : (x : RecordTree) → (IsRefutedSide s x → ⊥) → (HasEnd s x → ⊥) → ⊥
  not_refuted_or_ended (path ds places end' fields verdict) h k = h tt
  not_refuted_or_ended (pruned ds before refutation) h k = k tt
  not_refuted_or_ended (unexplored ds) h k = h tt

  not_refuted_or_caused : (x : RecordTree) → (IsRefutedSide s x → ⊥) → (HasCause s x → ⊥) → ⊥
  not_refuted_or_caused (path ds places end' fields verdict) h k = h tt
  not_refuted_or_caused (pruned ds before refutation) h k = k tt
  not_refuted_or_caused (unexplored ds) h k = h tt

  one_broken : (a b : Part) (x : RecordTree) → IsBroken s a x → IsBroken s b x → a ≡ b
  one_broken NotTaken NotTaken x h k = refl
  one_broken NotTaken NotRefuted x h k = absurd (not_taken_or_refuted x h k)
  one_broken NotTaken OtherEnd x h k = absurd (h k.0)
  one_broken NotTaken NotUndecided x h k = absurd (h k.0)
  one_broken NotRefuted NotTaken x h k = absurd (not_taken_or_refuted x k h)
  one_broken NotRefuted NotRefuted x h k = refl
  one_broken NotRefuted OtherEnd x h k = absurd (not_refuted_or_ended x h k.1)
  one_broken NotRefuted NotUndecided x h k = absurd (not_refuted_or_caused x h k.2)
  one_broken OtherEnd NotTaken x h k = absurd (k h.0)
  one_broken OtherEnd NotRefuted x h k = absurd (not_refuted_or_ended x k h.1)
  one_broken OtherEnd OtherEnd x h k = refl
  one_broken OtherEnd NotUndecided x h k = absurd (h.1 k.1)
  one_broken NotUndecided NotTaken x h k = absurd (k h.0)
  one_broken NotUndecided NotRefuted x h k = absurd (not_refuted_or_caused x k h.2)
  one_broken NotUndecided OtherEnd x h k = absurd (k.1 h.1)
  one_broken NotUndecided NotUndecided x h k = refl

  pub parts_make_it : PartsMakeTheMeaning s
  parts_make_it = record {
    whole = λ x. (parts_of x, λ (taken, side, ends, cause). all_parts x taken side ends cause);
    broken = not_whole;
    one = one_broken;
  }
