-- Walks are the ways through the tree of their packet, and functions of values commute with routes.
use Rattle.std.proofs.Common.{◌≡◌, ℕ, zero, suc, ◌+◌, inl, inr, Bool, true, false, List, [], ◌∷◌, ◌++◌, map, refl, sym, ap, subst, ◌∙◌, arith, Option, None, Some, option_map}
use Rattle.std.specs.List.{AllByRecursion}
use Rattle.sefl_meaning.specs.declared.walk.Decision.{Decision}
use Rattle.sefl_meaning.specs.declared.walk.Decision.TheVariants.{Then, Else, Pass, Broken, Copy}
use Rattle.sefl_meaning.specs.declared.walk.Place.{Place}
use Rattle.sefl_meaning.specs.declared.walk.End.{End}
use Rattle.sefl_meaning.specs.Courses.{Asking, at_if, at_constrain, Progress}
use Rattle.sefl_meaning.specs.Trees.{Tree, over, arrives, tests, splits, Copies, no_copies, copy_and}
use Rattle.sefl_meaning.specs.Valued.{tree_valued, copies_valued, progress_valued}
use Rattle.sefl_meaning.specs.Walks.{Passage, Trail, shown, by_way_of, decided}
use Rattle.sefl_meaning.specs.Taken.{decision_at, walks_of, walks_of_copies}
use Rattle.sefl_meaning.specs.Routes.{truth_of, number_of, Route, waiting, arriving, taking, by_truth, by_number, route, copy_route, route_valued, Holds, IsWay, Has}
use Rattle.sefl_meaning.proofs.AllLemmas.{all_append, all_map, all_weaker}

-- ---- functions of values

module _ {V F W G : Type 0} (f : V → W) (g : F → G) where
  arriving_valued : (place : Place) (p : Progress V) (r : Option (Route V F)) →
      option_map (arriving place (progress_valued f p)) (option_map (route_valued f g) r)
      ≡ option_map (route_valued f g) (option_map (arriving place p) r)
  arriving_valued place p None = refl
  arriving_valued place p (Some r) = refl

  taking_valued : (test : F) (truth : Bool) (r : Option (Route V F)) →
      option_map (taking (g test) truth) (option_map (route_valued f g) r)
      ≡ option_map (route_valued f g) (option_map (taking test truth) r)
  taking_valued test truth None = refl
  taking_valued test truth (Some r) = refl

  truth_valued : (truth : Option Bool) (test : F) (held broken : Option (Route V F)) →
      by_truth truth (g test) (option_map (route_valued f g) held) (option_map (route_valued f g) broken)
      ≡ option_map (route_valued f g) (by_truth truth test held broken)
  truth_valued None test held broken = refl
  truth_valued (Some true) test held broken = taking_valued test true held
  truth_valued (Some false) test held broken = taking_valued test false broken

  number_valued : (number : Option ℕ) (copy : ℕ → Option (Route V F)) (other : ℕ → Option (Route W G)) →
      ((n : ℕ) → other n ≡ option_map (route_valued f g) (copy n)) →
      by_number number other ≡ option_map (route_valued f g) (by_number number copy)
  number_valued None copy other same = refl
  number_valued (Some n) copy other same = same n

  mutual
    pub routes_commute : (t : Tree V F) (ds : List Decision) →
        route (tree_valued f g t) ds ≡ option_map (route_valued f g) (route t ds)
    routes_commute (over p end') [] = refl
    routes_commute (over p end') (d ∷ ds) = refl
    routes_commute (arrives place p t) ds =
        ap (option_map (arriving place (progress_valued f p))) (routes_commute t ds) ∙ arriving_valued place p (route t ds)
    routes_commute (tests asking p test held broken) [] = refl
    routes_commute (tests asking p test held broken) (d ∷ ds) =
        (λ i. by_truth (truth_of asking d) (g test) (routes_commute held ds i) (routes_commute broken ds i))
        ∙ truth_valued (truth_of asking d) test (route held ds) (route broken ds)
    routes_commute (splits p branches) [] = refl
    routes_commute (splits p branches) (d ∷ ds) =
        number_valued (number_of d) (λ number. copy_route branches number ds)
        (λ number. copy_route (copies_valued f g branches) number ds)
        (λ number. copies_commute branches number ds)

    copies_commute : (branches : Copies V F) (number : ℕ) (ds : List Decision) →
        copy_route (copies_valued f g branches) number ds
        ≡ option_map (route_valued f g) (copy_route branches number ds)
    copies_commute no_copies number ds = refl
    copies_commute (copy_and t branches) zero ds = routes_commute t ds
    copies_commute (copy_and t branches) (suc number) ds = copies_commute branches number ds

-- ---- walks are ways

pub offered : (asking : Asking) (truth : Bool) → truth_of asking (decision_at asking truth) ≡ Some truth
offered at_if true = refl
offered at_if false = refl
offered at_constrain true = refl
offered at_constrain false = refl

arriving_way : (place : Place) (p : Progress ℕ) (t : Tree ℕ Bool) (w : Passage) → IsWay (route t) w →
    IsWay (route (arrives place p t)) (by_way_of place p w)
arriving_way place p t w h = record {
  way = arriving place p h.way;
  found = ap (option_map (arriving place p)) h.found;
  arrivals = ap (λ (arrivals : List (Place × Progress ℕ)). (place, p) ∷ arrivals) h.arrivals;
  holds = h.holds;
  left = h.left;
}

held_way : (asking : Asking) (p : Progress ℕ) (held broken : Tree ℕ Bool) (w : Passage) → IsWay (route held) w →
    IsWay (route (tests asking p true held broken)) (decided (decision_at asking true ∷ []) w)
held_way asking p held broken w h = record {
  way = taking true true h.way;
  found =
      ap (λ truth. by_truth truth true (route held w.decisions) (route broken w.decisions)) (offered asking true)
      ∙ ap (option_map (taking true true)) h.found;
  arrivals = h.arrivals;
  holds = (refl, h.holds);
  left = h.left;
}

broken_way : (asking : Asking) (p : Progress ℕ) (held broken : Tree ℕ Bool) (w : Passage) → IsWay (route broken) w →
    IsWay (route (tests asking p false held broken)) (decided (decision_at asking false ∷ []) w)
broken_way asking p held broken w h = record {
  way = taking false false h.way;
  found =
      ap (λ truth. by_truth truth false (route held w.decisions) (route broken w.decisions)) (offered asking false)
      ∙ ap (option_map (taking false false)) h.found;
  arrivals = h.arrivals;
  holds = (refl, h.holds);
  left = h.left;
}

-- a walk of one of these copies, which are numbered from a number on
record IsCopy (branches : Copies ℕ Bool) (number : ℕ) (w : Passage) : Type 0 where
  pub place : ℕ
  pub walk : Passage
  pub same : w ≡ decided (Copy (number + place) ∷ []) walk
  pub way : IsWay (copy_route branches place) walk

later_copy : (t : Tree ℕ Bool) (branches : Copies ℕ Bool) (number : ℕ) (w : Passage) → IsCopy branches (suc number) w →
    IsCopy (copy_and t branches) number w
later_copy t branches number w h =
    let e : suc number + h.place ≡ number + suc h.place = omega arith in
    record {
      place = suc h.place;
      walk = h.walk;
      same = h.same ∙ ap (λ (n : ℕ). decided (Copy n ∷ []) h.walk) e;
      way =
          h.way;
    }

first_copy : (t : Tree ℕ Bool) (branches : Copies ℕ Bool) (number : ℕ) (w : Passage) → IsWay (route t) w →
    IsCopy (copy_and t branches) number (decided (Copy number ∷ []) w)
first_copy t branches number w h =
    let e : number ≡ number + 0 = omega arith in
    record { place = 0; walk = w; same = ap (λ (n : ℕ). decided (Copy n ∷ []) w) e; way = h }

split_way : (p : Progress ℕ) (branches : Copies ℕ Bool) (w : Passage) → IsCopy branches 0 w →
    IsWay (route (splits p branches)) w
split_way p branches w h =
    let e : h.place ≡ 0 + h.place = omega arith in
    let walk : Passage = decided (Copy h.place ∷ []) h.walk in
    let way : IsWay (route (splits p branches)) walk = record {
      way = h.way.way;
      found = h.way.found;
      arrivals = h.way.arrivals;
      holds = h.way.holds;
      left = h.way.left;
    } in
    subst (IsWay (route (splits p branches))) (ap (λ (n : ℕ). decided (Copy n ∷ []) h.walk) e ∙ sym h.same) way

mutual
  pub walks_are_ways : (t : Tree ℕ Bool) → AllByRecursion (IsWay (route t)) (walks_of t)
  walks_are_ways (over p end') = (
    record {
      way = waiting (over p end');
      found = refl;
      arrivals = refl;
      holds = tt;
      left = refl;
    },
    tt,
  )
  walks_are_ways (arrives place p t) =
      all_map _ _ (by_way_of place p) (walks_of t) (arriving_way place p t) (walks_are_ways t)
  walks_are_ways (tests asking p true held broken) =
      all_map _ _ (decided (decision_at asking true ∷ [])) (walks_of held) (held_way asking p held broken)
      (walks_are_ways held)
  walks_are_ways (tests asking p false held broken) =
      all_map _ _ (decided (decision_at asking false ∷ [])) (walks_of broken) (broken_way asking p held broken)
      (walks_are_ways broken)
  walks_are_ways (splits p branches) =
      all_weaker _ _ (walks_of_copies 0 branches) (split_way p branches) (copies_are_ways branches 0)

  copies_are_ways : (branches : Copies ℕ Bool) (number : ℕ) →
      AllByRecursion (IsCopy branches number) (walks_of_copies number branches)
  copies_are_ways no_copies number = tt
  copies_are_ways (copy_and t branches) number =
      all_append _ (map (decided (Copy number ∷ [])) (walks_of t)) (walks_of_copies (suc number) branches)
      (all_map _ _ (decided (Copy number ∷ [])) (walks_of t) (first_copy t branches number) (walks_are_ways t))
      (all_weaker _ _ (walks_of_copies (suc number) branches) (later_copy t branches number)
      (copies_are_ways branches (suc number)))

-- ---- ways are walks

has_mapped : (f : Passage → Passage) (ws : List Passage) (w : Passage) → Has ws w → Has (map f ws) (f w)
has_mapped f [] w h = h
has_mapped f (u ∷ ws) w h = elim h [ inl same ↦ inl (ap f same) | inr later ↦ inr (has_mapped f ws w later) ]

has_before : (ws us : List Passage) (w : Passage) → Has ws w → Has (ws ++ us) w
has_before [] us w h = absurd h
has_before (v ∷ ws) us w h = elim h [ inl same ↦ inl same | inr later ↦ inr (has_before ws us w later) ]

has_after : (ws us : List Passage) (w : Passage) → Has us w → Has (ws ++ us) w
has_after [] us w h = h
has_after (v ∷ ws) us w h = inr (has_after ws us w h)

-- the parts of a way
record Way (r : Option (Route ℕ Bool)) (w : Passage) : Type 0 where
  pub way : Route ℕ Bool
  pub found : r ≡ Some way
  pub arrivals : way.arrivals ≡ w.arrivals
  pub holds : Holds way
  pub left : way.left ≡ over w.progress w.end'

pub only_offered : (asking : Asking) (d : Decision) (truth : Bool) → truth_of asking d ≡ Some truth →
    d ≡ decision_at asking truth
only_offered at_if Then truth e = let same : true ≡ truth = cc in ap (decision_at at_if) same
only_offered at_if Else truth e = let same : false ≡ truth = cc in ap (decision_at at_if) same
only_offered at_if Pass truth e = cc
only_offered at_if Broken truth e = cc
only_offered at_if (Copy number) truth e = cc
only_offered at_constrain Then truth e = cc
only_offered at_constrain Else truth e = cc
only_offered at_constrain Pass truth e = let same : true ≡ truth = cc in ap (decision_at at_constrain) same
only_offered at_constrain Broken truth e = let same : false ≡ truth = cc in ap (decision_at at_constrain) same
only_offered at_constrain (Copy number) truth e = cc

over_is_walk : (p : Progress ℕ) (end' : End) (ds : List Decision) (w : Passage) → w.decisions ≡ ds →
    Way (route (over p end') ds) w →
    Has (walks_of (over p end')) w
over_is_walk p end' [] w e h =
    let same : waiting (over p end') ≡ h.way = cc in
    let left : over p end' ≡ over w.progress w.end' = ap (λ (r : Route ℕ Bool). r.left) same ∙ h.left in
    let progress : p ≡ w.progress = cc in
    let ends : end' ≡ w.end' = cc in
    inl (λ i. record {
      decisions = sym e i;
      arrivals = (ap (λ (r : Route ℕ Bool). r.arrivals) same ∙ h.arrivals) i;
      end' = ends i;
      progress = progress i;
    })
over_is_walk p end' (d ∷ ds) w e h = let no_way : None ≡ Some h.way = h.found in cc

arriving_walk : (place : Place) (p : Progress ℕ) (t : Tree ℕ Bool) (w : Passage) (r : Option (Route ℕ Bool)) →
    route t w.decisions ≡ r →
    ((u : Passage) → IsWay (route t) u → Has (walks_of t) u) → Way (option_map (arriving place p) r) w →
    Has (walks_of (arrives place p t)) w
arriving_walk place p t w None e walks h = let no_way : None ≡ Some h.way = h.found in cc
arriving_walk place p t w (Some inner) e walks h =
    let same : arriving place p inner ≡ h.way = cc in
    let u : Passage = record w { arrivals = inner.arrivals } in
    let way : IsWay (route t) u = record {
      way = inner;
      found = e;
      arrivals = refl;
      holds = subst (λ (r : Route ℕ Bool). Holds r) (sym same) h.holds;
      left = ap (λ (r : Route ℕ Bool). r.left) same ∙ h.left;
    } in
    let whole : by_way_of place p u ≡ w =
    λ i. record w { arrivals = (ap (λ (r : Route ℕ Bool). r.arrivals) same ∙ h.arrivals) i } in
    subst (Has (map (by_way_of place p) (walks_of t))) whole (has_mapped (by_way_of place p) (walks_of t) u (walks u way))

-- a side that a test takes
taken_walk : (side : Tree ℕ Bool) (test truth : Bool) (d : Decision) (ds : List Decision) (w : Passage)
    (r : Option (Route ℕ Bool)) →
    w.decisions ≡ d ∷ ds → route side ds ≡ r → ((u : Passage) → IsWay (route side) u → Has (walks_of side) u) →
    Way (option_map (taking test truth) r) w → (test ≡ truth) × Has (map (decided (d ∷ [])) (walks_of side)) w
taken_walk side test truth d ds w None decisions e walks h = let no_way : None ≡ Some h.way = h.found in cc
taken_walk side test truth d ds w (Some inner) decisions e walks h =
    let same : taking test truth inner ≡ h.way = cc in
    let holds : Holds (taking test truth inner) = subst (λ (r : Route ℕ Bool). Holds r) (sym same) h.holds in
    let u : Passage = record w { decisions = ds } in
    let way : IsWay (route side) u = record {
      way = inner;
      found = e;
      arrivals = ap (λ (r : Route ℕ Bool). r.arrivals) same ∙ h.arrivals;
      holds = holds.1;
      left = ap (λ (r : Route ℕ Bool). r.left) same ∙ h.left;
    } in
    let whole : decided (d ∷ []) u ≡ w = λ i. record w { decisions = sym decisions i } in (
      holds.0,
      subst (Has (map (decided (d ∷ [])) (walks_of side))) whole
          (has_mapped (decided (d ∷ [])) (walks_of side) u (walks u way)),
    )

asked_walk : (asking : Asking) (p : Progress ℕ) (test : Bool) (held broken : Tree ℕ Bool) (d : Decision)
    (ds : List Decision) (w : Passage)
    (truth : Option Bool) → w.decisions ≡ d ∷ ds → truth_of asking d ≡ truth →
    ((u : Passage) → IsWay (route held) u → Has (walks_of held) u) →
    ((u : Passage) → IsWay (route broken) u → Has (walks_of broken) u) →
    Way (by_truth truth test (route held ds) (route broken ds)) w → Has (walks_of (tests asking p test held broken)) w
asked_walk asking p test held broken d ds w None decisions e walks others h = let no_way : None ≡ Some h.way =
    h.found in cc
asked_walk asking p true held broken d ds w (Some true) decisions e walks others h =
    let side = taken_walk held true true d ds w (route held ds) decisions refl walks
    (record {
      way = h.way;
      found = h.found;
      arrivals = h.arrivals;
      holds = h.holds;
      left = h.left;
    }) in
    subst (λ (c : Decision). Has (map (decided (c ∷ [])) (walks_of held)) w) (only_offered asking d true e) side.1
asked_walk asking p false held broken d ds w (Some true) decisions e walks others h =
    let side = taken_walk held false true d ds w (route held ds) decisions refl walks
    (record {
      way = h.way;
      found = h.found;
      arrivals = h.arrivals;
      holds = h.holds;
      left = h.left;
    }) in
    let wrong : false ≡ true = side.0 in cc
asked_walk asking p true held broken d ds w (Some false) decisions e walks others h =
    let side = taken_walk broken true false d ds w (route broken ds) decisions refl others
    (record {
      way = h.way;
      found = h.found;
      arrivals = h.arrivals;
      holds = h.holds;
      left = h.left;
    }) in
    let wrong : true ≡ false = side.0 in cc
asked_walk asking p false held broken d ds w (Some false) decisions e walks others h =
    let side = taken_walk broken false false d ds w (route broken ds) decisions refl others
    (record {
      way = h.way;
      found = h.found;
      arrivals = h.arrivals;
      holds = h.holds;
      left = h.left;
    }) in
    subst (λ (c : Decision). Has (map (decided (c ∷ [])) (walks_of broken)) w) (only_offered asking d false e) side.1

tested_walk : (asking : Asking) (p : Progress ℕ) (test : Bool) (held broken : Tree ℕ Bool) (ds : List Decision)
    (w : Passage) → w.decisions ≡ ds →
    ((u : Passage) → IsWay (route held) u → Has (walks_of held) u) →
    ((u : Passage) → IsWay (route broken) u → Has (walks_of broken) u) →
    Way (route (tests asking p test held broken) ds) w → Has (walks_of (tests asking p test held broken)) w
tested_walk asking p test held broken [] w e walks others h =
    let same : waiting (tests asking p test held broken) ≡ h.way = cc in
    let left : tests asking p test held broken ≡ over w.progress w.end' =
    ap (λ (r : Route ℕ Bool). r.left) same ∙ h.left in
    cc
tested_walk asking p test held broken (d ∷ ds) w e walks others h =
    asked_walk asking p test held broken d ds w (truth_of asking d) e refl walks others h

numbered_walk : (branches : Copies ℕ Bool) (d : Decision) (ds : List Decision) (w : Passage) → w.decisions ≡ d ∷ ds →
    ((n : ℕ) (u : Passage) → IsWay (copy_route branches n) u →
    Has (walks_of_copies 0 branches) (decided (Copy (0 + n) ∷ []) u)) →
    Way (by_number (number_of d) (λ number. copy_route branches number ds)) w → Has (walks_of_copies 0 branches) w
numbered_walk branches Then ds w e walks h = let no_way : None ≡ Some h.way = h.found in cc
numbered_walk branches Else ds w e walks h = let no_way : None ≡ Some h.way = h.found in cc
numbered_walk branches Pass ds w e walks h = let no_way : None ≡ Some h.way = h.found in cc
numbered_walk branches Broken ds w e walks h = let no_way : None ≡ Some h.way = h.found in cc
numbered_walk branches (Copy n) ds w e walks h =
    let u : Passage = record w { decisions = ds } in
    let way : IsWay (copy_route branches n) u =
    record {
      way = h.way;
      found = h.found;
      arrivals = h.arrivals;
      holds = h.holds;
      left = h.left;
    } in
    let zero_first : 0 + n ≡ n = omega arith in
    let whole : decided (Copy (0 + n) ∷ []) u ≡ w =
    ap (λ (m : ℕ). decided (Copy m ∷ []) u) zero_first ∙ (λ i. record w { decisions = sym e i }) in
    subst (Has (walks_of_copies 0 branches)) whole (walks n u way)

split_walk : (p : Progress ℕ) (branches : Copies ℕ Bool) (ds : List Decision) (w : Passage) → w.decisions ≡ ds →
    ((n : ℕ) (u : Passage) → IsWay (copy_route branches n) u →
    Has (walks_of_copies 0 branches) (decided (Copy (0 + n) ∷ []) u)) →
    Way (route (splits p branches) ds) w → Has (walks_of (splits p branches)) w
split_walk p branches [] w e walks h =
    let same : waiting (splits p branches) ≡ h.way = cc in
    let left : splits p branches ≡ over w.progress w.end' = ap (λ (r : Route ℕ Bool). r.left) same ∙ h.left in
    cc
split_walk p branches (d ∷ ds) w e walks h = numbered_walk branches d ds w e walks h

way_of : (find : List Decision → Option (Route ℕ Bool)) (w : Passage) → IsWay find w → Way (find w.decisions) w
way_of find w h =
    record {
      way = h.way;
      found = h.found;
      arrivals = h.arrivals;
      holds = h.holds;
      left = h.left;
    }

mutual
  pub ways_are_walks : (t : Tree ℕ Bool) (w : Passage) → IsWay (route t) w → Has (walks_of t) w
  ways_are_walks (over p end') w h = over_is_walk p end' w.decisions w refl (way_of (route (over p end')) w h)
  ways_are_walks (arrives place p t) w h =
      arriving_walk place p t w (route t w.decisions) refl (ways_are_walks t) (way_of (route (arrives place p t)) w h)
  ways_are_walks (tests asking p test held broken) w h =
      tested_walk asking p test held broken w.decisions w refl (ways_are_walks held) (ways_are_walks broken)
      (way_of (route (tests asking p test held broken)) w h)
  ways_are_walks (splits p branches) w h =
      split_walk p branches w.decisions w refl (copy_ways_are_walks branches 0) (way_of (route (splits p branches)) w h)

  copy_ways_are_walks : (branches : Copies ℕ Bool) (number n : ℕ) (w : Passage) → IsWay (copy_route branches n) w →
      Has (walks_of_copies number branches) (decided (Copy (number + n) ∷ []) w)
  copy_ways_are_walks no_copies number n w h = let no_way : None ≡ Some h.way = h.found in cc
  copy_ways_are_walks (copy_and t branches) number zero w h =
      let same : number ≡ number + 0 = omega arith in
      subst (λ (m : ℕ). Has (walks_of_copies number (copy_and t branches)) (decided (Copy m ∷ []) w)) same
      (has_before (map (decided (Copy number ∷ [])) (walks_of t)) (walks_of_copies (suc number) branches)
      (decided (Copy number ∷ []) w)
      (has_mapped (decided (Copy number ∷ [])) (walks_of t) w (ways_are_walks t w (record {
        way = h.way;
        found = h.found;
        arrivals = h.arrivals;
        holds = h.holds;
        left = h.left;
      }))))
  copy_ways_are_walks (copy_and t branches) number (suc n) w h =
      let same : suc number + n ≡ number + suc n = omega arith in
      subst (λ (m : ℕ). Has (walks_of_copies number (copy_and t branches)) (decided (Copy m ∷ []) w)) same
      (has_after (map (decided (Copy number ∷ [])) (walks_of t)) (walks_of_copies (suc number) branches)
      (decided (Copy (suc number + n) ∷ []) w)
      (copy_ways_are_walks branches (suc number) n w (record {
        way = h.way;
        found = h.found;
        arrivals = h.arrivals;
        holds = h.holds;
        left = h.left;
      })))

-- ---- what walks show

pub shown_of_one : (ws : List Passage) (t : Trail) → Has (map shown ws) t → (w : Passage) × Has ws w × (shown w ≡ t)
shown_of_one [] t h = absurd h
shown_of_one (w ∷ ws) t (inl e) = (w, inl refl, e)
shown_of_one (w ∷ ws) t (inr h) =
    let one = shown_of_one ws t h in
    (one.0, inr one.1, one.2)

pub one_is_shown : (ws : List Passage) (w : Passage) (t : Trail) → Has ws w → shown w ≡ t → Has (map shown ws) t
one_is_shown [] w t h e = absurd h
one_is_shown (v ∷ ws) w t (inl same) e = inl (ap shown same ∙ e)
one_is_shown (v ∷ ws) w t (inr h) e = inr (one_is_shown ws w t h e)
