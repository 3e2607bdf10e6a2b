-- A question has one right answer over the records that are exact for one limit.
use Rattle.std.proofs.Common.{◌≡◌, ◌∙◌, ℕ, suc, inl, inr, List, [], ◌∷◌, ◌++◌, length, map, refl, sym, ap, subst}
use Rattle.std.specs.List.{AllByRecursion}
use Rattle.path_cond.specs.Seen.{itself}
use Rattle.path_solver.specs.Judged.{AreExact as VerdictsAreExact}
use Rattle.sefl_meaning.specs.Network.{Network, Entry}
use Rattle.exact_records.specs.Records.{RecordTree, SymCondition, SymRoute, path, pruned, unexplored}
use Rattle.exact_records.proofs.Arriving.{only_way}
use Rattle.path_questions.specs.Formulas.{conditions_on, explored}
use Rattle.path_questions.specs.Questions.{Question}
use Rattle.path_questions.specs.Telling.{AreOpenBy, FirstMet, IsOutcome, IsUnmet, LeavesItOpen, Outcome, ShowsHit, ShowsNoHit, found, left_open, saying}
use Rattle.one_list.specs.Same.{AreAlike, RecordsAreOne, without_refutation}
use Rattle.one_list.specs.Told.{RightAnswersAreOne}
use Rattle.one_list.proofs.Judged.{one_values}
use Rattle.one_list.proofs.Telling.{same_all}

module _ (verdicts : VerdictsAreExact itself) where
  one_met : (cs : List SymCondition) (vs ws : List ℕ) → FirstMet cs vs → FirstMet cs ws → vs ≡ ws
  one_met [] vs ws h k = absurd h
  one_met (c ∷ cs) vs ws (inl h) (inl k) = one_values verdicts c vs ws h k
  one_met (c ∷ cs) vs ws (inl h) (inr k) = absurd (k.0 vs h)
  one_met (c ∷ cs) vs ws (inr h) (inl k) = absurd (h.0 ws k)
  one_met (c ∷ cs) vs ws (inr h) (inr k) = one_met cs vs ws h.1 k.1

  met_not_none : (cs : List SymCondition) (vs : List ℕ) → FirstMet cs vs → AllByRecursion IsUnmet cs → ⊥
  met_not_none [] vs h k = h
  met_not_none (c ∷ cs) vs (inl h) k = k.0 vs h
  met_not_none (c ∷ cs) vs (inr h) k = met_not_none cs vs h.1 k.1

  module _ (net : Network) (i : Entry) (hops : ℕ) (q : Question) where
    -- ---- of one record

    one_hit : (x : RecordTree) (vs ws : List ℕ) → ShowsHit net i hops q x vs → ShowsHit net i hops q x ws → vs ≡ ws
    one_hit (path ds places end' fields verdict) vs ws h k =
        let same = only_way (explored net i hops) ds k.0 h.0 k.1 h.1 in
        one_met (conditions_on net i hops q h.0) vs ws h.2 (subst (λ (way : SymRoute). FirstMet (conditions_on net i hops q way) ws) same k.2)
    one_hit (pruned ds before refutation) vs ws h k = absurd h
    one_hit (unexplored ds) vs ws h k = absurd h

    hit_not_none : (x : RecordTree) (vs : List ℕ) → ShowsHit net i hops q x vs → ShowsNoHit net i hops q x → ⊥
    hit_not_none (path ds places end' fields verdict) vs h k = met_not_none (conditions_on net i hops q h.0) vs h.2 (k h.0 h.1)
    hit_not_none (pruned ds before refutation) vs h k = h
    hit_not_none (unexplored ds) vs h k = h

    -- ---- of a record, whatever its refutation is

    hit_to : (x : RecordTree) (vs : List ℕ) → ShowsHit net i hops q x vs → ShowsHit net i hops q (without_refutation x) vs
    hit_to (path ds places end' fields verdict) vs h = h
    hit_to (pruned ds before refutation) vs h = h
    hit_to (unexplored ds) vs h = h

    hit_back : (x : RecordTree) (vs : List ℕ) → ShowsHit net i hops q (without_refutation x) vs → ShowsHit net i hops q x vs
    hit_back (path ds places end' fields verdict) vs h = h
    hit_back (pruned ds before refutation) vs h = h
    hit_back (unexplored ds) vs h = h

    none_to : (x : RecordTree) → ShowsNoHit net i hops q x → ShowsNoHit net i hops q (without_refutation x)
    none_to (path ds places end' fields verdict) h = h
    none_to (pruned ds before refutation) h = h
    none_to (unexplored ds) h = h

    none_back : (x : RecordTree) → ShowsNoHit net i hops q (without_refutation x) → ShowsNoHit net i hops q x
    none_back (path ds places end' fields verdict) h = h
    none_back (pruned ds before refutation) h = h
    none_back (unexplored ds) h = h

    open_to : (x : RecordTree) → LeavesItOpen net i hops q x → LeavesItOpen net i hops q (without_refutation x)
    open_to (path ds places end' fields verdict) h = h
    open_to (pruned ds before refutation) h = h
    open_to (unexplored ds) h = h

    open_back : (x : RecordTree) → LeavesItOpen net i hops q (without_refutation x) → LeavesItOpen net i hops q x
    open_back (path ds places end' fields verdict) h = h
    open_back (pruned ds before refutation) h = h
    open_back (unexplored ds) h = h

    abbrev Same : RecordTree → RecordTree → Type 0
    Same x y = without_refutation x ≡ without_refutation y

    same_hit : (x y : RecordTree) (vs : List ℕ) → Same x y → ShowsHit net i hops q x vs → ShowsHit net i hops q y vs
    same_hit x y vs e h = hit_back y vs (subst (λ z. ShowsHit net i hops q z vs) e (hit_to x vs h))

    same_none : (x y : RecordTree) → Same x y → ShowsNoHit net i hops q x → ShowsNoHit net i hops q y
    same_none x y e h = none_back y (subst (ShowsNoHit net i hops q) e (none_to x h))

    same_open : (x y : RecordTree) → Same x y → LeavesItOpen net i hops q x → LeavesItOpen net i hops q y
    same_open x y e h = open_back y (subst (LeavesItOpen net i hops q) e (open_to x h))

    -- ---- of two lists

    first_same : (x y : RecordTree) (rs qs : List RecordTree) → map without_refutation (x ∷ rs) ≡ map without_refutation (y ∷ qs) → Same x y
    first_same x y rs qs e = cc

    rest_same : (x y : RecordTree) (rs qs : List RecordTree) → map without_refutation (x ∷ rs) ≡ map without_refutation (y ∷ qs) → AreAlike rs qs
    rest_same x y rs qs e = cc

    -- the first hit, with the records before it
    abbrev Hits : List RecordTree → RecordTree → List RecordTree → List ℕ → Type 0
    Hits front x rest vs = AllByRecursion (ShowsNoHit net i hops q) front × ShowsHit net i hops q x vs

    hits_one : (front : List RecordTree) (x : RecordTree) (rest others : List RecordTree) (y : RecordTree) (back : List RecordTree) (vs ws : List ℕ)
        → AreAlike (front ++ x ∷ rest) (others ++ y ∷ back) → Hits front x rest vs → Hits others y back ws → (length front ≡ length others) × (vs ≡ ws)
    hits_one [] x rest [] y back vs ws e h k =
        (refl, one_hit y vs ws (same_hit x y vs (first_same x y rest back e) h.1) k.1)
    hits_one [] x rest (z ∷ others) y back vs ws e h k =
        absurd (hit_not_none z vs (same_hit x z vs (first_same x z rest (others ++ y ∷ back) e) h.1) k.0.0)
    hits_one (z ∷ front) x rest [] y back vs ws e h k =
        absurd (hit_not_none z ws (same_hit y z ws (sym (first_same z y (front ++ x ∷ rest) back e)) k.1) h.0.0)
    hits_one (z ∷ front) x rest (a ∷ others) y back vs ws e h k =
        let m = hits_one front x rest others y back vs ws (rest_same z a (front ++ x ∷ rest) (others ++ y ∷ back) e) (h.0.1, h.1) (k.0.1, k.1) in
        (ap suc m.0, m.1)

    none_of : (front : List RecordTree) (x : RecordTree) (rest qs : List RecordTree) (vs : List ℕ) → AreAlike (front ++ x ∷ rest) qs
        → ShowsHit net i hops q x vs → AllByRecursion (ShowsNoHit net i hops q) qs → ⊥
    none_of front x rest qs vs e h k =
        at front (same_all (ShowsNoHit net i hops q) none_to none_back qs (front ++ x ∷ rest) (sym e) k)
      where
        at : (front : List RecordTree) → AllByRecursion (ShowsNoHit net i hops q) (front ++ x ∷ rest) → ⊥
        at [] m = hit_not_none x vs h m.0
        at (z ∷ front) m = at front m.1

    abbrev Closed : RecordTree → Type 0
    Closed x = LeavesItOpen net i hops q x → ⊥

    open_one : (n : ℕ) (rs qs : List RecordTree) (ns ms : List ℕ) → AreAlike rs qs → AreOpenBy (saying net i hops q) Closed n rs ns
        → AreOpenBy (saying net i hops q) Closed n qs ms → ns ≡ ms
    open_one n [] [] ns ms e h k = h ∙ sym k
    open_one n [] (y ∷ qs) ns ms e h k = let bad : [] ≡ without_refutation y ∷ map without_refutation qs = e in cc
    open_one n (x ∷ rs) [] ns ms e h k = let bad : without_refutation x ∷ map without_refutation rs ≡ [] = e in cc
    open_one n (x ∷ rs) (y ∷ qs) ns ms e (inl h) (inl k) =
        let rest = open_one (suc n) rs qs h.1 k.1 (rest_same x y rs qs e) h.3 k.3 in
        h.2 ∙ (ap (λ xs. n ∷ xs) rest ∙ sym k.2)
    open_one n (x ∷ rs) (y ∷ qs) ns ms e (inl h) (inr k) = absurd (k.0 (same_open x y (first_same x y rs qs e) h.0))
    open_one n (x ∷ rs) (y ∷ qs) ns ms e (inr h) (inl k) = absurd (h.0 (same_open y x (sym (first_same x y rs qs e)) k.0))
    open_one n (x ∷ rs) (y ∷ qs) ns ms e (inr h) (inr k) = open_one (suc n) rs qs ns ms (rest_same x y rs qs e) h.1 k.1

    pub one_outcome : (rs qs : List RecordTree) (a b : Outcome) → AreAlike rs qs → IsOutcome (saying net i hops q) rs a → IsOutcome (saying net i hops q) qs b → a ≡ b
    one_outcome rs qs (found n vs) (found m ws) e h k =
        let joined = sym (ap (map without_refutation) h.joined) ∙ (e ∙ ap (map without_refutation) k.joined) in
        let one = hits_one h.front h.shower h.rest k.front k.shower k.rest vs ws joined (h.none, h.shows) (k.none, k.shows) in
        let number = h.numbered ∙ (one.0 ∙ sym k.numbered) in
        λ i. found (number i) (one.1 i)
    one_outcome rs qs (found n vs) (left_open ms) e h k =
        absurd (none_of h.front h.shower h.rest qs vs (sym (ap (map without_refutation) h.joined) ∙ e) h.shows k.0)
    one_outcome rs qs (left_open ns) (found m ws) e h k =
        absurd (none_of k.front k.shower k.rest rs ws (sym (ap (map without_refutation) k.joined) ∙ sym e) k.shows h.0)
    one_outcome rs qs (left_open ns) (left_open ms) e h k = ap (λ (xs : List ℕ). left_open xs) (open_one 0 rs qs ns ms e h.1 k.1)

  pub one_answer : (net : Network) (i : Entry) (hops : ℕ) → RecordsAreOne net i hops → RightAnswersAreOne net i hops
  one_answer net i hops one limit rs qs h k q a b first second =
      one_outcome net i hops q rs qs a b (one limit rs qs h k) first.told second.told
