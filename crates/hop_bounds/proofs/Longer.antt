-- A tree that goes on where another one is cut: every route that is not cut is a route of both.
use Rattle.std.proofs.Common.{◌≡◌, ◌≤◌, ◌⊎◌, ℕ, zero, suc, inl, inr, Bool, true, false, List, [], ◌∷◌, ◌++◌, refl, sym, ap, subst, arith, Option, Some, None, option_map}
use Rattle.sn_width.specs.declared.ids.NodeId.{NodeId}
use Rattle.sefl_syntax.specs.declared.net.Side.TheVariants.{Inward, Outward}
use Rattle.sefl_meaning.specs.declared.walk.Decision.{Decision}
use Rattle.sefl_meaning.specs.declared.walk.Place.{Place}
use Rattle.sefl_meaning.specs.declared.walk.End.{End}
use Rattle.sefl_meaning.specs.declared.walk.End.TheVariants.{Cut}
use Rattle.sefl_meaning.specs.Values.{Values}
use Rattle.sefl_meaning.specs.Network.{Network, link_of}
use Rattle.sefl_meaning.specs.Runs.{Exit, off, go, forked, failed}
use Rattle.sefl_meaning.specs.Courses.{Asking, Course, Progress, ends, asks}
use Rattle.sefl_meaning.specs.Trees.{Copies, Onward, Tree, over, arrives, tests, splits, no_copies, copy_and, copies, crossed, enter, leave, passed, port_course, then_tree}
use Rattle.sefl_meaning.specs.Routes.{IsOpen, Route, arriving, by_number, by_truth, copy_route, number_of, route, taking, truth_of, waiting}
use Rattle.sefl_meaning.specs.Start.{progress_of}
use Rattle.hop_bounds.proofs.Same.{mapped_some, not_some, some_same}

module _ {V F : Type 0} where
  abbrev mutual
    -- the second is the first, but where that is cut
    pub Longer : Tree V F → Tree V F → Type 0
    Longer (over p end') u = (end' ≡ Cut) ⊎ (u ≡ over p end')
    Longer (arrives place p t) u = (below : Tree V F) × (u ≡ arrives place p below) × Longer t below
    Longer (tests asking p test held broken) u =
        (h : Tree V F) × (b : Tree V F) × (u ≡ tests asking p test h b) × Longer held h × Longer broken b
    Longer (splits p branches) u = (others : Copies V F) × (u ≡ splits p others) × LongerCopies branches others

    pub LongerCopies : Copies V F → Copies V F → Type 0
    LongerCopies no_copies others = others ≡ no_copies
    LongerCopies (copy_and t branches) others =
        (u : Tree V F) × (us : Copies V F) × (others ≡ copy_and u us) × Longer t u × LongerCopies branches us

  -- ---- what is left of a route

  abbrev pub IsAtCut : Tree V F → Type 0
  IsAtCut (over p end') = end' ≡ Cut
  IsAtCut (arrives place p t) = ⊥
  IsAtCut (tests asking p test held broken) = ⊥
  IsAtCut (splits p branches) = ⊥

  pub same_progress : (t u : Tree V F) → Longer t u → (IsAtCut t → ⊥) → progress_of u ≡ progress_of t
  same_progress (over p end') u (inl cut) uncut = absurd (uncut cut)
  same_progress (over p end') u (inr same) uncut = ap progress_of same
  same_progress (arrives place p t) u h uncut = ap progress_of h.1
  same_progress (tests asking p test held broken) u h uncut = ap progress_of h.2
  same_progress (splits p branches) u h uncut = ap progress_of h.1

  pub same_over : (t u : Tree V F) (p : Progress V) (end' : End) → Longer t u → t ≡ over p end' → (end' ≡ Cut → ⊥) → u ≡ over p end'
  same_over t u p end' h is uncut = at_over u p end' (subst (λ (x : Tree V F). Longer x u) is h) uncut
    where
      at_over : (u : Tree V F) (p : Progress V) (end' : End) → Longer (over p end') u → (end' ≡ Cut → ⊥) → u ≡ over p end'
      at_over u p end' (inl cut) uncut = absurd (uncut cut)
      at_over u p end' (inr same) uncut = same

  -- ---- routes

  -- a way of the longer tree that goes as this one of the shorter one
  pub record SameWay (way : Option (Route V F)) (r : Route V F) : Type 0 where
    pub same : Route V F
    pub leads : way ≡ Some same
    pub arrivals : same.arrivals ≡ r.arrivals
    pub tests : same.tests ≡ r.tests
    pub left : Longer r.left same.left

  abbrev GoesSo : Option (Route V F) → Option (Route V F) → Type 0
  GoesSo way other = (r : Route V F) → way ≡ Some r → (IsAtCut r.left → ⊥) → SameWay other r

  waits : (t u : Tree V F) → Longer t u → route u [] ≡ Some (waiting u) → GoesSo (Some (waiting t)) (route u [])
  waits t u h here r e uncut =
      subst (λ (x : Route V F). SameWay (route u []) x) (some_same e)
      (record { same = waiting u; leads = here; arrivals = refl; tests = refl; left = h })

  ends_so : (p : Progress V) (end' : End) (u : Tree V F) → Longer (over p end') u → GoesSo (Some (waiting (over p end'))) (route u [])
  ends_so p end' u (inl cut) r e uncut = absurd (uncut (subst (λ (x : Route V F). IsAtCut x.left) (some_same e) cut))
  ends_so p end' u (inr same) r e uncut =
      waits (over p end') u (inr same) (subst (λ (x : Tree V F). route x [] ≡ Some (waiting x)) (sym same) refl) r e uncut

  arrives_so : (place : Place) (p : Progress V) (way other : Option (Route V F)) → GoesSo way other
      → GoesSo (option_map (arriving place p) way) (option_map (arriving place p) other)
  arrives_so place p way other next r e uncut =
      let m = mapped_some (arriving place p) way r e in
      let w = next m.0 m.1 (λ cut. uncut (subst (λ (x : Route V F). IsAtCut x.left) m.2 cut)) in
      subst (λ (x : Route V F). SameWay (option_map (arriving place p) other) x) m.2
      (record {
        same = arriving place p w.same;
        leads = ap (option_map (arriving place p)) w.leads;
        arrivals = ap (λ (arrivals : List (Place × Progress V)). (place, p) ∷ arrivals) w.arrivals;
        tests = w.tests;
        left = w.left;
      })

  takes_so : (test : F) (truth : Bool) (way other : Option (Route V F)) → GoesSo way other
      → GoesSo (option_map (taking test truth) way) (option_map (taking test truth) other)
  takes_so test truth way other next r e uncut =
      let m = mapped_some (taking test truth) way r e in
      let w = next m.0 m.1 (λ cut. uncut (subst (λ (x : Route V F). IsAtCut x.left) m.2 cut)) in
      subst (λ (x : Route V F). SameWay (option_map (taking test truth) other) x) m.2
      (record {
        same = taking test truth w.same;
        leads = ap (option_map (taking test truth)) w.leads;
        arrivals = w.arrivals;
        tests = ap (λ (tests : List (F × Bool)). (test, truth) ∷ tests) w.tests;
        left = w.left;
      })

  by_truth_so : (o : Option Bool) (test : F) (held broken h b : Option (Route V F)) → GoesSo held h → GoesSo broken b
      → GoesSo (by_truth o test held broken) (by_truth o test h b)
  by_truth_so None test held broken h b k_held k_broken r e uncut = not_some r e
  by_truth_so (Some true) test held broken h b k_held k_broken r e uncut = takes_so test true held h k_held r e uncut
  by_truth_so (Some false) test held broken h b k_held k_broken r e uncut = takes_so test false broken b k_broken r e uncut

  by_number_so : (o : Option ℕ) (copy other : ℕ → Option (Route V F)) → ((n : ℕ) → GoesSo (copy n) (other n))
      → GoesSo (by_number o copy) (by_number o other)
  by_number_so None copy other next r e uncut = not_some r e
  by_number_so (Some n) copy other next r e uncut = next n r e uncut

  mutual
    pub same_way : (t u : Tree V F) → Longer t u → (ds : List Decision) → GoesSo (route t ds) (route u ds)
    same_way (over p end') u h [] r e uncut = ends_so p end' u h r e uncut
    same_way (over p end') u h (d ∷ ds) r e uncut = not_some r e
    same_way (arrives place p t) u h ds r e uncut =
        subst (λ (x : Tree V F). SameWay (route x ds) r) (sym h.1)
        (arrives_so place p (route t ds) (route h.0 ds) (same_way t h.0 h.2 ds) r e uncut)
    same_way (tests asking p test held broken) u h [] r e uncut =
        waits (tests asking p test held broken) u h (subst (λ (x : Tree V F). route x [] ≡ Some (waiting x)) (sym h.2) refl) r e uncut
    same_way (tests asking p test held broken) u h (d ∷ ds) r e uncut =
        subst (λ (x : Tree V F). SameWay (route x (d ∷ ds)) r) (sym h.2)
        (by_truth_so (truth_of asking d) test (route held ds) (route broken ds) (route h.0 ds) (route h.1 ds)
        (same_way held h.0 h.3 ds) (same_way broken h.1 h.4 ds) r e uncut)
    same_way (splits p branches) u h [] r e uncut =
        waits (splits p branches) u h (subst (λ (x : Tree V F). route x [] ≡ Some (waiting x)) (sym h.1) refl) r e uncut
    same_way (splits p branches) u h (d ∷ ds) r e uncut =
        subst (λ (x : Tree V F). SameWay (route x (d ∷ ds)) r) (sym h.1)
        (by_number_so (number_of d) (λ n. copy_route branches n ds) (λ n. copy_route h.0 n ds)
        (λ n. same_copy branches h.0 h.2 n ds) r e uncut)

    same_copy : (branches others : Copies V F) → LongerCopies branches others → (n : ℕ) (ds : List Decision)
        → GoesSo (copy_route branches n ds) (copy_route others n ds)
    same_copy no_copies others h n ds r e uncut = not_some r e
    same_copy (copy_and t branches) others h zero ds r e uncut =
        subst (λ (x : Copies V F). SameWay (copy_route x zero ds) r) (sym h.2) (same_way t h.0 h.3 ds r e uncut)
    same_copy (copy_and t branches) others h (suc n) ds r e uncut =
        subst (λ (x : Copies V F). SameWay (copy_route x (suc n) ds) r) (sym h.2) (same_copy branches h.1 h.4 n ds r e uncut)

  -- ---- which decisions are offered

  abbrev Is : Option (Route V F) → Type 0
  Is way = (r : Route V F) × (way ≡ Some r)

  is_mapped : (f : Route V F → Route V F) (way : Option (Route V F)) → Is way → Is (option_map f way)
  is_mapped f way h = (f h.0, ap (option_map f) h.1)

  mapped_is : (f : Route V F → Route V F) (way : Option (Route V F)) → Is (option_map f way) → Is way
  mapped_is f way h =
      let m = mapped_some f way h.0 h.1 in
      (m.0, m.1)

  -- no decision leads along the empty route
  pub begins_open : (t : Tree V F) → IsOpen t []
  begins_open (over p end') = (waiting (over p end'), refl)
  begins_open (arrives place p t) = is_mapped (arriving place p) (route t []) (begins_open t)
  begins_open (tests asking p test held broken) = (waiting (tests asking p test held broken), refl)
  begins_open (splits p branches) = (waiting (splits p branches), refl)

  truth_offered : (o : Option Bool) (test : F) (held broken h b : Option (Route V F)) → Is held → Is broken
      → Is (by_truth o test h b) → Is (by_truth o test held broken)
  truth_offered None test held broken h b is_held is_broken is = not_some is.0 is.1
  truth_offered (Some true) test held broken h b is_held is_broken is = is_mapped (taking test true) held is_held
  truth_offered (Some false) test held broken h b is_held is_broken is = is_mapped (taking test false) broken is_broken

  copy_offered : (branches others : Copies V F) → LongerCopies branches others → (n : ℕ) → Is (copy_route others n []) → Is (copy_route branches n [])
  copy_offered no_copies others h n is = subst (λ (x : Copies V F). Is (copy_route x n [])) h is
  copy_offered (copy_and t branches) others h zero is = begins_open t
  copy_offered (copy_and t branches) others h (suc n) is =
      copy_offered branches h.1 h.4 n (subst (λ (x : Copies V F). Is (copy_route x (suc n) [])) h.2 is)

  number_offered : (o : Option ℕ) (branches others : Copies V F) → LongerCopies branches others
      → Is (by_number o (λ n. copy_route others n [])) → Is (by_number o (λ n. copy_route branches n []))
  number_offered None branches others h is = is
  number_offered (Some n) branches others h is = copy_offered branches others h n is

  truth_along : (o : Option Bool) (test : F) (held broken held_on broken_on h b : Option (Route V F))
      → (Is held → Is h → Is held_on) → (Is broken → Is b → Is broken_on)
      → Is (by_truth o test held broken) → Is (by_truth o test h b) → Is (by_truth o test held_on broken_on)
  truth_along None test held broken held_on broken_on h b k l first other = first
  truth_along (Some true) test held broken held_on broken_on h b k l first other =
      is_mapped (taking test true) held_on (k (mapped_is (taking test true) held first) (mapped_is (taking test true) h other))
  truth_along (Some false) test held broken held_on broken_on h b k l first other =
      is_mapped (taking test false) broken_on (l (mapped_is (taking test false) broken first) (mapped_is (taking test false) b other))

  number_along : (o : Option ℕ) (first other along : ℕ → Option (Route V F)) → ((n : ℕ) → Is (first n) → Is (other n) → Is (along n))
      → Is (by_number o first) → Is (by_number o other) → Is (by_number o along)
  number_along None first other along k is also = is
  number_along (Some n) first other along k is also = k n is also

  mutual
    -- where the shorter tree goes on behind some decisions, it offers what the longer one does
    pub also_open : (t u : Tree V F) → Longer t u → (p : List Decision) (c d : Decision) (rest : List Decision)
        → IsOpen t (p ++ c ∷ rest) → IsOpen u (p ++ d ∷ []) → IsOpen t (p ++ d ∷ [])
    also_open (over q end') u h [] c d rest first other = not_some first.0 first.1
    also_open (over q end') u h (x ∷ p) c d rest first other = not_some first.0 first.1
    also_open (arrives place q t) u h p c d rest first other =
        is_mapped (arriving place q) (route t (p ++ d ∷ []))
        (also_open t h.0 h.2 p c d rest (mapped_is (arriving place q) (route t (p ++ c ∷ rest)) first)
        (mapped_is (arriving place q) (route h.0 (p ++ d ∷ [])) (subst (λ (x : Tree V F). IsOpen x (p ++ d ∷ [])) h.1 other)))
    also_open (tests asking q test held broken) u h [] c d rest first other =
        truth_offered (truth_of asking d) test (route held []) (route broken []) (route h.0 []) (route h.1 [])
        (begins_open held) (begins_open broken) (subst (λ (x : Tree V F). IsOpen x (d ∷ [])) h.2 other)
    also_open (tests asking q test held broken) u h (x ∷ p) c d rest first other =
        truth_along (truth_of asking x) test (route held (p ++ c ∷ rest)) (route broken (p ++ c ∷ rest)) (route held (p ++ d ∷ [])) (route broken (p ++ d ∷ []))
        (route h.0 (p ++ d ∷ [])) (route h.1 (p ++ d ∷ []))
        (λ is also. also_open held h.0 h.3 p c d rest is also) (λ is also. also_open broken h.1 h.4 p c d rest is also)
        first (subst (λ (y : Tree V F). IsOpen y (x ∷ (p ++ d ∷ []))) h.2 other)
    also_open (splits q branches) u h [] c d rest first other =
        number_offered (number_of d) branches h.0 h.2 (subst (λ (x : Tree V F). IsOpen x (d ∷ [])) h.1 other)
    also_open (splits q branches) u h (x ∷ p) c d rest first other =
        number_along (number_of x) (λ n. copy_route branches n (p ++ c ∷ rest)) (λ n. copy_route h.0 n (p ++ d ∷ [])) (λ n. copy_route branches n (p ++ d ∷ []))
        (λ n is also. also_copy branches h.0 h.2 n p c d rest is also)
        first (subst (λ (y : Tree V F). IsOpen y (x ∷ (p ++ d ∷ []))) h.1 other)

    also_copy : (branches others : Copies V F) → LongerCopies branches others → (n : ℕ) (p : List Decision) (c d : Decision) (rest : List Decision)
        → Is (copy_route branches n (p ++ c ∷ rest)) → Is (copy_route others n (p ++ d ∷ [])) → Is (copy_route branches n (p ++ d ∷ []))
    also_copy no_copies others h n p c d rest first other = not_some first.0 first.1
    also_copy (copy_and t branches) others h zero p c d rest first other =
        also_open t h.0 h.3 p c d rest first (subst (λ (x : Copies V F). Is (copy_route x zero (p ++ d ∷ []))) h.2 other)
    also_copy (copy_and t branches) others h (suc n) p c d rest first other =
        also_copy branches h.1 h.4 n p c d rest first (subst (λ (x : Copies V F). Is (copy_route x (suc n) (p ++ d ∷ []))) h.2 other)

  -- ---- decisions with some left are no end

  pub record Waits (t : Tree V F) (p : List Decision) : Type 0 where
    pub way : Route V F
    pub leads : route t p ≡ Some way
    pub uncut : IsAtCut way.left → ⊥

  waits_mapped : (f : Route V F → Route V F) → ((r : Route V F) → (f r).left ≡ r.left) → (way : Option (Route V F))
      → (r : Route V F) × (way ≡ Some r) × (IsAtCut r.left → ⊥) → (r : Route V F) × (option_map f way ≡ Some r) × (IsAtCut r.left → ⊥)
  waits_mapped f same way h =
      (f h.0, ap (option_map f) h.1, λ cut. h.2 (subst IsAtCut (same h.0) cut))

  abbrev Halts : Option (Route V F) → Type 0
  Halts way = (r : Route V F) × (way ≡ Some r) × (IsAtCut r.left → ⊥)

  truth_halts : (o : Option Bool) (test : F) (held broken h b : Option (Route V F)) → (Is held → Halts h) → (Is broken → Halts b)
      → Is (by_truth o test held broken) → Halts (by_truth o test h b)
  truth_halts None test held broken h b k l is = not_some is.0 is.1
  truth_halts (Some true) test held broken h b k l is = waits_mapped (taking test true) (λ r. refl) h (k (mapped_is (taking test true) held is))
  truth_halts (Some false) test held broken h b k l is = waits_mapped (taking test false) (λ r. refl) b (l (mapped_is (taking test false) broken is))

  number_halts : (o : Option ℕ) (first other : ℕ → Option (Route V F)) → ((n : ℕ) → Is (first n) → Halts (other n))
      → Is (by_number o first) → Halts (by_number o other)
  number_halts None first other k is = not_some is.0 is.1
  number_halts (Some n) first other k is = k n is

  mutual
    halts : (t : Tree V F) (p : List Decision) (d : Decision) (rest : List Decision) → IsOpen t (p ++ d ∷ rest) → Halts (route t p)
    halts (over q end') [] d rest is = not_some is.0 is.1
    halts (over q end') (x ∷ p) d rest is = not_some is.0 is.1
    halts (arrives place q t) p d rest is =
        waits_mapped (arriving place q) (λ r. refl) (route t p) (halts t p d rest (mapped_is (arriving place q) (route t (p ++ d ∷ rest)) is))
    halts (tests asking q test held broken) [] d rest is = (waiting (tests asking q test held broken), refl, λ cut. cut)
    halts (tests asking q test held broken) (x ∷ p) d rest is =
        truth_halts (truth_of asking x) test (route held (p ++ d ∷ rest)) (route broken (p ++ d ∷ rest)) (route held p) (route broken p)
        (halts held p d rest) (halts broken p d rest) is
    halts (splits q branches) [] d rest is = (waiting (splits q branches), refl, λ cut. cut)
    halts (splits q branches) (x ∷ p) d rest is =
        number_halts (number_of x) (λ n. copy_route branches n (p ++ d ∷ rest)) (λ n. copy_route branches n p)
        (λ n. copy_halts branches n p d rest) is

    copy_halts : (branches : Copies V F) (n : ℕ) (p : List Decision) (d : Decision) (rest : List Decision)
        → Is (copy_route branches n (p ++ d ∷ rest)) → Halts (copy_route branches n p)
    copy_halts no_copies n p d rest is = not_some is.0 is.1
    copy_halts (copy_and t branches) zero p d rest is = halts t p d rest is
    copy_halts (copy_and t branches) (suc n) p d rest is = copy_halts branches n p d rest is

  pub waits_before : (t : Tree V F) (p : List Decision) (d : Decision) (rest : List Decision) → IsOpen t (p ++ d ∷ rest) → Waits t p
  waits_before t p d rest is =
      let h = halts t p d rest is in
      record { way = h.0; leads = h.1; uncut = h.2 }

  -- ---- a test takes its decision

  truth_taken : (o : Option Bool) (truth : Bool) (test : F) (held broken : Option (Route V F)) → Is held → Is broken → o ≡ Some truth
      → Is (by_truth o test held broken)
  truth_taken None truth test held broken is_held is_broken e = not_some truth e
  truth_taken (Some true) truth test held broken is_held is_broken e = is_mapped (taking test true) held is_held
  truth_taken (Some false) truth test held broken is_held is_broken e = is_mapped (taking test false) broken is_broken

  abbrev Takes : Tree V F → Decision → Type 0
  Takes (over p end') d = ⊥
  Takes (arrives place p t) d = ⊥
  Takes (tests asking p test held broken) d = (truth : Bool) × (truth_of asking d ≡ Some truth)
  Takes (splits p branches) d = ⊥

  -- a route that is so has the decision behind it
  abbrev GoesOn : Decision → Option (Route V F) → Option (Route V F) → Type 0
  GoesOn d way on = (r : Route V F) → way ≡ Some r → Takes r.left d → Is on

  goes_mapped : (d : Decision) (f : Route V F → Route V F) → ((r : Route V F) → (f r).left ≡ r.left) → (way on : Option (Route V F))
      → GoesOn d way on → GoesOn d (option_map f way) (option_map f on)
  goes_mapped d f same way on k r e takes =
      let m = mapped_some f way r e in
      is_mapped f on (k m.0 m.1 (subst (λ (t : Tree V F). Takes t d) (same m.0) (subst (λ (x : Route V F). Takes x.left d) (sym m.2) takes)))

  truth_goes : (d : Decision) (o : Option Bool) (test : F) (held broken h b : Option (Route V F)) → GoesOn d held h → GoesOn d broken b
      → GoesOn d (by_truth o test held broken) (by_truth o test h b)
  truth_goes d None test held broken h b k l r e takes = not_some r e
  truth_goes d (Some true) test held broken h b k l r e takes = goes_mapped d (taking test true) (λ x. refl) held h k r e takes
  truth_goes d (Some false) test held broken h b k l r e takes = goes_mapped d (taking test false) (λ x. refl) broken b l r e takes

  number_goes : (d : Decision) (o : Option ℕ) (first other : ℕ → Option (Route V F)) → ((n : ℕ) → GoesOn d (first n) (other n))
      → GoesOn d (by_number o first) (by_number o other)
  number_goes d None first other k r e takes = not_some r e
  number_goes d (Some n) first other k r e takes = k n r e takes

  mutual
    goes_on : (t : Tree V F) (p : List Decision) (d : Decision) → GoesOn d (route t p) (route t (p ++ d ∷ []))
    goes_on (over q end') [] d r e takes = absurd (subst (λ (x : Route V F). Takes x.left d) (sym (some_same e)) takes)
    goes_on (over q end') (x ∷ p) d r e takes = not_some r e
    goes_on (arrives place q t) p d r e takes =
        goes_mapped d (arriving place q) (λ x. refl) (route t p) (route t (p ++ d ∷ [])) (goes_on t p d) r e takes
    goes_on (tests asking q test held broken) [] d r e takes =
        let there = subst (λ (x : Route V F). Takes x.left d) (sym (some_same e)) takes in
        truth_taken (truth_of asking d) there.0 test (route held []) (route broken []) (begins_open held) (begins_open broken) there.1
    goes_on (tests asking q test held broken) (x ∷ p) d r e takes =
        truth_goes d (truth_of asking x) test (route held p) (route broken p) (route held (p ++ d ∷ [])) (route broken (p ++ d ∷ []))
        (goes_on held p d) (goes_on broken p d) r e takes
    goes_on (splits q branches) [] d r e takes = absurd (subst (λ (x : Route V F). Takes x.left d) (sym (some_same e)) takes)
    goes_on (splits q branches) (x ∷ p) d r e takes =
        number_goes d (number_of x) (λ n. copy_route branches n p) (λ n. copy_route branches n (p ++ d ∷ []))
        (λ n. copy_goes branches n p d) r e takes

    copy_goes : (branches : Copies V F) (n : ℕ) (p : List Decision) (d : Decision) → GoesOn d (copy_route branches n p) (copy_route branches n (p ++ d ∷ []))
    copy_goes no_copies n p d r e takes = not_some r e
    copy_goes (copy_and t branches) zero p d r e takes = goes_on t p d r e takes
    copy_goes (copy_and t branches) (suc n) p d r e takes = copy_goes branches n p d r e takes

  pub side_open : (t : Tree V F) (p : List Decision) (d : Decision) (r : Route V F) (asking : Asking) (q : Progress V) (test : F) (held broken : Tree V F) (truth : Bool)
      → route t p ≡ Some r → r.left ≡ tests asking q test held broken → truth_of asking d ≡ Some truth → IsOpen t (p ++ d ∷ [])
  side_open t p d r asking q test held broken truth leads is offered =
      goes_on t p d r leads (subst (λ (x : Tree V F). Takes x d) (sym is) (truth, offered))

  -- ---- the trees of a net

  longer_then : (course : Course V F) (next further : Exit → Progress V → Tree V F) → ((exit : Exit) (p : Progress V) → Longer (next exit p) (further exit p))
      → Longer (then_tree course next) (then_tree course further)
  longer_then (ends p exit) next further h = h exit p
  longer_then (asks asking p test held broken) next further h =
      (then_tree held further, then_tree broken further, refl, longer_then held next further h, longer_then broken next further h)

  module _ (o : Values V F) (net : Network) where
    abbrev AreLonger : Onward V F → Onward V F → Type 0
    AreLonger onward further = (node : NodeId) (port : ℕ) (p : Progress V) → Longer (onward node port p) (further node port p)

    longer_crossed : (onward further : Onward V F) → AreLonger onward further → (link : Option (NodeId × ℕ)) (exit : Exit) (p : Progress V)
        → Longer (crossed o net onward link exit p) (crossed o net further link exit p)
    longer_crossed onward further h None off p = inr refl
    longer_crossed onward further h None (go port) p = inr refl
    longer_crossed onward further h None (forked ports) p = inr refl
    longer_crossed onward further h None (failed failure site) p = inr refl
    longer_crossed onward further h (Some to) off p = h to.0 to.1 p
    longer_crossed onward further h (Some to) (go port) p = inr refl
    longer_crossed onward further h (Some to) (forked ports) p = inr refl
    longer_crossed onward further h (Some to) (failed failure site) p = inr refl

    longer_leave : (onward further : Onward V F) → AreLonger onward further → AreLonger (leave o net onward) (leave o net further)
    longer_leave onward further h node port p = (
      then_tree (port_course o net node Outward port p) (crossed o net further (link_of net node port)),
      refl,
      longer_then (port_course o net node Outward port p) (crossed o net onward (link_of net node port)) (crossed o net further (link_of net node port))
          (longer_crossed onward further h (link_of net node port)),
    )

    longer_copies : (onward further : Onward V F) → AreLonger onward further → (node : NodeId) (ports : List ℕ) (p : Progress V)
        → LongerCopies (copies o net onward node ports p) (copies o net further node ports p)
    longer_copies onward further h node [] p = refl
    longer_copies onward further h node (port ∷ ports) p =
        (leave o net further node port p, copies o net further node ports p, refl, longer_leave onward further h node port p, longer_copies onward further h node ports p)

    longer_passed : (onward further : Onward V F) → AreLonger onward further → (node : NodeId) (exit : Exit) (p : Progress V)
        → Longer (passed o net onward node exit p) (passed o net further node exit p)
    longer_passed onward further h node off p = inr refl
    longer_passed onward further h node (go port) p = longer_leave onward further h node port p
    longer_passed onward further h node (forked ports) p = (copies o net further node ports p, refl, longer_copies onward further h node ports p)
    longer_passed onward further h node (failed failure site) p = inr refl

    pub longer_enter : (hops more : ℕ) → hops ≤ more → AreLonger (enter o net hops) (enter o net more)
    longer_enter zero zero least node port p = (over p Cut, refl, inl refl)
    longer_enter zero (suc more) least node port p =
        (then_tree (port_course o net node Inward port p) (passed o net (enter o net more) node), refl, inl refl)
    longer_enter (suc hops) zero least node port p = absurd (omega (arith, least))
    longer_enter (suc hops) (suc more) least node port p = (
      then_tree (port_course o net node Inward port p) (passed o net (enter o net more) node),
      refl,
      longer_then (port_course o net node Inward port p) (passed o net (enter o net hops) node) (passed o net (enter o net more) node)
          (longer_passed (enter o net hops) (enter o net more) (longer_enter hops more (omega (arith, least))) node),
    )
