-- What lists of records tell that are the same except for their refutations.
use Rattle.std.proofs.Common.{◌≡◌, ◌∙◌, ℕ, ◌+◌, inl, inr, Bool, List, [], ◌∷◌, length, map, cond, fold, count_by, refl, sym, ap, subst}
use Rattle.std.proofs.lemmas.List.{length-map}
use Rattle.std.specs.List.{AllByRecursion}
use Rattle.exact_records.specs.Exact.{IsTried, IsUnexplored, SomeOne}
use Rattle.exact_records.specs.Records.{RecordTree, path, pruned, unexplored}
use Rattle.one_list.specs.Same.{AreAlike, without_refutation}
use Rattle.one_list.specs.Told.{AlikeTellTheSame, SeesNoRefutation}

-- ---- what sees no refutation

module _ {B : Type 0} (f : RecordTree → B) (sees : (x : RecordTree) → f (without_refutation x) ≡ f x) where
  without_mapped : (rs : List RecordTree) → map f (map without_refutation rs) ≡ map f rs
  without_mapped [] = refl
  without_mapped (x ∷ rs) = λ i. sees x i ∷ without_mapped rs i

  pub same_mapped : (rs qs : List RecordTree) → AreAlike rs qs → map f rs ≡ map f qs
  same_mapped rs qs e = sym (without_mapped rs) ∙ (ap (map f) e ∙ without_mapped qs)

module _ (P : RecordTree → Type 0) (to : (x : RecordTree) → P x → P (without_refutation x)) (back : (x : RecordTree) → P (without_refutation x) → P x) where
  all_to : (rs : List RecordTree) → AllByRecursion P rs → AllByRecursion P (map without_refutation rs)
  all_to [] h = tt
  all_to (x ∷ rs) h = (to x h.0, all_to rs h.1)

  all_back : (rs : List RecordTree) → AllByRecursion P (map without_refutation rs) → AllByRecursion P rs
  all_back [] h = tt
  all_back (x ∷ rs) h = (back x h.0, all_back rs h.1)

  pub same_all : (rs qs : List RecordTree) → AreAlike rs qs → AllByRecursion P rs → AllByRecursion P qs
  same_all rs qs e h = all_back qs (subst (AllByRecursion P) e (all_to rs h))

  some_to : (rs : List RecordTree) → SomeOne P rs → SomeOne P (map without_refutation rs)
  some_to [] h = absurd h
  some_to (x ∷ rs) (inl h) = inl (to x h)
  some_to (x ∷ rs) (inr h) = inr (some_to rs h)

  some_back : (rs : List RecordTree) → SomeOne P (map without_refutation rs) → SomeOne P rs
  some_back [] h = absurd h
  some_back (x ∷ rs) (inl h) = inl (back x h)
  some_back (x ∷ rs) (inr h) = inr (some_back rs h)

  pub same_some : (rs qs : List RecordTree) → AreAlike rs qs → SomeOne P rs → SomeOne P qs
  same_some rs qs e h = some_back qs (subst (SomeOne P) e (some_to rs h))

-- ---- whether anything was left

untried_to : (x : RecordTree) → IsUnexplored x → IsUnexplored (without_refutation x)
untried_to (path ds places end' fields verdict) h = h
untried_to (pruned ds before refutation) h = h
untried_to (unexplored ds) h = h

untried_back : (x : RecordTree) → IsUnexplored (without_refutation x) → IsUnexplored x
untried_back (path ds places end' fields verdict) h = h
untried_back (pruned ds before refutation) h = h
untried_back (unexplored ds) h = h

tried_same : (rs qs : List RecordTree) → AreAlike rs qs → AllByRecursion IsTried rs → AllByRecursion IsTried qs
tried_same rs qs e h = same_all IsTried (λ x tried un. tried (untried_back x un)) (λ x tried un. tried (untried_to x un)) rs qs e h

untried_same : (rs qs : List RecordTree) → AreAlike rs qs → SomeOne IsUnexplored rs → SomeOne IsUnexplored qs
untried_same rs qs e h = same_some IsUnexplored untried_to untried_back rs qs e h

-- ---- numbers

-- how many pass is how many of the answers are true
counted : (p : RecordTree → Bool) (n : ℕ) (rs : List RecordTree)
    → fold (λ (a : ℕ) x. a + cond (p x) 1 0) n rs ≡ fold (λ (a : ℕ) (b : Bool). a + cond b 1 0) n (map p rs)
counted p n [] = refl
counted p n (x ∷ rs) = counted p (n + cond (p x) 1 0) rs

same_number : (p : RecordTree → Bool) → SeesNoRefutation p → (rs qs : List RecordTree) → AreAlike rs qs → count_by p rs ≡ count_by p qs
same_number p sees rs qs e =
    counted p 0 rs ∙ (ap (λ (bs : List Bool). fold (λ (a : ℕ) (b : Bool). a + cond b 1 0) 0 bs) (same_mapped p sees rs qs e) ∙ sym (counted p 0 qs))

pub alike_tell : AlikeTellTheSame
alike_tell rs qs e = record {
  count = sym (length-map rs without_refutation) ∙ (ap length e ∙ length-map qs without_refutation);
  whole = (tried_same rs qs e, tried_same qs rs (sym e));
  partial = (untried_same rs qs e, untried_same qs rs (sym e));
  places = λ p sees. same_mapped p sees rs qs e;
  numbers = λ p sees. same_number p sees rs qs e;
}
