-- Routes compose, and go on exactly by what is offered.
use Rattle.std.proofs.Common.{◌≡◌, ℕ, zero, suc, ◌+◌, ◌<◌, inl, inr, Bool, true, false, List, [], ◌∷◌, ◌++◌, length, refl, sym, ap, subst, ◌∙◌, append_assoc, arith, Option, Some, None, option_map}
use Rattle.std.proofs.lemmas.List.{append-nil}
use Rattle.std.specs.List.{AllByRecursion}
use Rattle.sefl_meaning.specs.declared.walk.Decision.{Decision}
use Rattle.sefl_meaning.specs.declared.walk.Decision.TheVariants.{Then, Else, Pass, Broken, Copy}
use Rattle.sefl_meaning.specs.declared.walk.Place.{Place}
use Rattle.sefl_meaning.specs.Courses.{Asking, at_if, at_constrain, Progress}
use Rattle.sefl_meaning.specs.Trees.{Tree, over, arrives, tests, splits, Copies, no_copies, copy_and}
use Rattle.sefl_meaning.specs.Taken.{decision_at}
use Rattle.sefl_meaning.specs.Order.{rank, Ascend, Has, Parts}
use Rattle.sefl_meaning.specs.Routes.{Route, route, copy_route, waiting, arriving, taking, behind, truth_of, by_truth, by_number, number_of, IsOpen, IsFirstClosed, offered_copies, offers}
use Rattle.sefl_meaning.proofs.RouteLemmas.{offered, only_offered}
use Rattle.sefl_meaning.proofs.OrderLemmas.{less_same_more}

mapped_some : {A B : Type 0} (f : A → B) (x : Option A) (b : B) → option_map f x ≡ Some b →
    (a : A) × (x ≡ Some a) × (b ≡ f a)
mapped_some f None b e = cc
mapped_some f (Some a) b e = (a, refl, cc)

only_number : (d : Decision) (n : ℕ) → number_of d ≡ Some n → d ≡ Copy n
only_number Then n e = cc
only_number Else n e = cc
only_number Pass n e = cc
only_number Broken n e = cc
only_number (Copy m) n e = let same : m ≡ n = cc in ap (λ (k : ℕ). Copy k) same

less_asked : (asking : Asking) → rank (decision_at asking true) < rank (decision_at asking false)
less_asked at_if = omega arith
less_asked at_constrain = omega arith

-- the longer of two lists that begin the same list
longer : (first second : List Decision) (d : Decision) (later rest : List Decision) → first ++ d ∷ later ≡ second ++ rest →
    length first < length second → (more : List Decision) × (second ≡ (first ++ d ∷ []) ++ more)
longer [] [] d later rest e h = absurd (omega (arith, h))
longer [] (x ∷ second) d later rest e h =
    let same : d ≡ x = cc in
    (second, ap (λ (y : Decision). y ∷ second) (sym same))
longer (y ∷ first) [] d later rest e h = absurd (omega (arith, h))
longer (y ∷ first) (x ∷ second) d later rest e h =
    let same : y ≡ x = cc in
    let tails : first ++ d ∷ later ≡ second ++ rest = cc in
    let m = longer first second d later rest tails (omega (arith, h)) in
    (m.0, λ i. sym same i ∷ m.1 i)

module _ {V F : Type 0} where
  arriving_behind : (place : Place) (p : Progress V) (before : List (Place × Progress V)) (us : List (F × Bool)) (r : Option (Route V F)) →
      option_map (arriving place p) (option_map (behind before us) r) ≡ option_map (behind ((place, p) ∷ before) us) r
  arriving_behind place p before us None = refl
  arriving_behind place p before us (Some r) = refl

  taking_behind : (test : F) (truth : Bool) (before : List (Place × Progress V)) (us : List (F × Bool)) (r : Option (Route V F)) →
      option_map (taking test truth) (option_map (behind before us) r) ≡ option_map (behind before ((test, truth) ∷ us)) r
  taking_behind test truth before us None = refl
  taking_behind test truth before us (Some r) = refl

  behind_nothing : (r : Option (Route V F)) → r ≡ option_map (behind [] []) r
  behind_nothing None = refl
  behind_nothing (Some r) = refl

  -- what is behind a route that is found
  abbrev Goes : (List Decision → Option (Route V F)) → List Decision → List Decision → Route V F → Type 0
  Goes find ds es r = find (ds ++ es) ≡ option_map (behind r.arrivals r.tests) (route r.left es)

  by_truth_goes : (truth : Option Bool) (test : F) (held broken : Tree V F) (ds es : List Decision) (r : Route V F) →
      ((q : Route V F) → route held ds ≡ Some q → Goes (route held) ds es q) →
      ((q : Route V F) → route broken ds ≡ Some q → Goes (route broken) ds es q) →
      by_truth truth test (route held ds) (route broken ds) ≡ Some r →
      by_truth truth test (route held (ds ++ es)) (route broken (ds ++ es))
      ≡ option_map (behind r.arrivals r.tests) (route r.left es)
  by_truth_goes None test held broken ds es r f g e = let bad : None ≡ Some r = e in cc
  by_truth_goes (Some true) test held broken ds es r f g e =
      let m = mapped_some (taking test true) (route held ds) r e in
      ap (option_map (taking test true)) (f m.0 m.1)
      ∙ (taking_behind test true m.0.arrivals m.0.tests (route m.0.left es)
      ∙ ap (λ (x : Route V F). option_map (behind x.arrivals x.tests) (route x.left es)) (sym m.2))
  by_truth_goes (Some false) test held broken ds es r f g e =
      let m = mapped_some (taking test false) (route broken ds) r e in
      ap (option_map (taking test false)) (g m.0 m.1)
      ∙ (taking_behind test false m.0.arrivals m.0.tests (route m.0.left es)
      ∙ ap (λ (x : Route V F). option_map (behind x.arrivals x.tests) (route x.left es)) (sym m.2))

  by_number_goes : (number : Option ℕ) (branches : Copies V F) (ds es : List Decision) (r : Route V F) →
      ((n : ℕ) → copy_route branches n ds ≡ Some r → Goes (copy_route branches n) ds es r) →
      by_number number (λ n. copy_route branches n ds) ≡ Some r →
      by_number number (λ n. copy_route branches n (ds ++ es)) ≡ option_map (behind r.arrivals r.tests) (route r.left es)
  by_number_goes None branches ds es r f e = let bad : None ≡ Some r = e in cc
  by_number_goes (Some n) branches ds es r f e = f n e

  waits_here : (t : Tree V F) (es : List Decision) (r : Route V F) → Some (waiting t) ≡ Some r →
      route t es ≡ option_map (behind r.arrivals r.tests) (route r.left es)
  waits_here t es r e =
      let same : waiting t ≡ r = cc in
      behind_nothing (route t es)
      ∙ ap (λ (x : Route V F). option_map (behind x.arrivals x.tests) (route x.left es)) same

  mutual
    pub composed : (t : Tree V F) (ds es : List Decision) (r : Route V F) → route t ds ≡ Some r → Goes (route t) ds es r
    composed (over p end') [] es r e = waits_here (over p end') es r e
    composed (over p end') (d ∷ ds) es r e = let bad : None ≡ Some r = e in cc
    composed (arrives place p t) ds es r e =
        let m = mapped_some (arriving place p) (route t ds) r e in
        ap (option_map (arriving place p)) (composed t ds es m.0 m.1)
        ∙ (arriving_behind place p m.0.arrivals m.0.tests (route m.0.left es)
        ∙ ap (λ (x : Route V F). option_map (behind x.arrivals x.tests) (route x.left es)) (sym m.2))
    composed (tests asking p test held broken) [] es r e = waits_here (tests asking p test held broken) es r e
    composed (tests asking p test held broken) (d ∷ ds) es r e =
        by_truth_goes (truth_of asking d) test held broken ds es r (composed held ds es) (composed broken ds es) e
    composed (splits p branches) [] es r e = waits_here (splits p branches) es r e
    composed (splits p branches) (d ∷ ds) es r e =
        by_number_goes (number_of d) branches ds es r (λ n. copies_composed branches n ds es r) e

    copies_composed : (branches : Copies V F) (n : ℕ) (ds es : List Decision) (r : Route V F) →
        copy_route branches n ds ≡ Some r → Goes (copy_route branches n) ds es r
    copies_composed no_copies n ds es r e = let bad : None ≡ Some r = e in cc
    copies_composed (copy_and t branches) zero ds es r e = composed t ds es r e
    copies_composed (copy_and t branches) (suc n) ds es r e = copies_composed branches n ds es r e

  -- ---- a prefix of open decisions

  abbrev Found : Option (Route V F) → Type 0
  Found x = (r : Route V F) × (x ≡ Some r)

  prefix_truth : (truth : Option Bool) (test : F) (held broken held_on broken_on : Option (Route V F)) (q : Route V F) →
      (Found held_on → Found held) → (Found broken_on → Found broken) → by_truth truth test held_on broken_on ≡ Some q →
      Found (by_truth truth test held broken)
  prefix_truth None test held broken held_on broken_on q f g e = let bad : None ≡ Some q = e in cc
  prefix_truth (Some true) test held broken held_on broken_on q f g e =
      let m = mapped_some (taking test true) held_on q e in
      let r = f (m.0, m.1) in
      (taking test true r.0, ap (option_map (taking test true)) r.1)
  prefix_truth (Some false) test held broken held_on broken_on q f g e =
      let m = mapped_some (taking test false) broken_on q e in
      let r = g (m.0, m.1) in
      (taking test false r.0, ap (option_map (taking test false)) r.1)

  prefix_number : (number : Option ℕ) (copy copy_on : ℕ → Option (Route V F)) (q : Route V F) →
      ((n : ℕ) → Found (copy_on n) → Found (copy n)) → by_number number copy_on ≡ Some q → Found (by_number number copy)
  prefix_number None copy copy_on q f e = let bad : None ≡ Some q = e in cc
  prefix_number (Some n) copy copy_on q f e = f n (q, e)

  mutual
    pub prefix_open : (t : Tree V F) (ds es : List Decision) → IsOpen t (ds ++ es) → IsOpen t ds
    prefix_open (over p end') [] es h = (waiting (over p end'), refl)
    prefix_open (over p end') (d ∷ ds) es h = let bad : None ≡ Some h.0 = h.1 in cc
    prefix_open (arrives place p t) ds es h =
        let m = mapped_some (arriving place p) (route t (ds ++ es)) h.0 h.1 in
        let r = prefix_open t ds es (m.0, m.1) in
        (arriving place p r.0, ap (option_map (arriving place p)) r.1)
    prefix_open (tests asking p test held broken) [] es h = (waiting (tests asking p test held broken), refl)
    prefix_open (tests asking p test held broken) (d ∷ ds) es h =
        prefix_truth (truth_of asking d) test (route held ds) (route broken ds) (route held (ds ++ es))
        (route broken (ds ++ es)) h.0 (prefix_open held ds es) (prefix_open broken ds es) h.1
    prefix_open (splits p branches) [] es h = (waiting (splits p branches), refl)
    prefix_open (splits p branches) (d ∷ ds) es h =
        prefix_number (number_of d) (λ n. copy_route branches n ds) (λ n. copy_route branches n (ds ++ es)) h.0
        (λ n. prefix_copy branches n ds es) h.1

    prefix_copy : (branches : Copies V F) (n : ℕ) (ds es : List Decision) → Found (copy_route branches n (ds ++ es)) →
        Found (copy_route branches n ds)
    prefix_copy no_copies n ds es h = let bad : None ≡ Some h.0 = h.1 in cc
    prefix_copy (copy_and t branches) zero ds es h = prefix_open t ds es h
    prefix_copy (copy_and t branches) (suc n) ds es h = prefix_copy branches n ds es h

  -- ---- what is offered

  open_nothing : (t : Tree V F) → IsOpen t []
  open_nothing (over p end') = (waiting (over p end'), refl)
  open_nothing (arrives place p t) =
      let r = open_nothing t in
      (arriving place p r.0, ap (option_map (arriving place p)) r.1)
  open_nothing (tests asking p test held broken) = (waiting (tests asking p test held broken), refl)
  open_nothing (splits p branches) = (waiting (splits p branches), refl)

  truth_offered : (asking : Asking) (d : Decision) (truth : Option Bool) (test : F) (held broken : Option (Route V F))
      (r : Route V F) → truth_of asking d ≡ truth → by_truth truth test held broken ≡ Some r →
      Has (decision_at asking true ∷ decision_at asking false ∷ []) d
  truth_offered asking d None test held broken r t e = let bad : None ≡ Some r = e in cc
  truth_offered asking d (Some true) test held broken r t e = inl (sym (only_offered asking d true t))
  truth_offered asking d (Some false) test held broken r t e = inr (inl (sym (only_offered asking d false t)))

  held_open : (asking : Asking) (p : Progress V) (test : F) (held broken : Tree V F) →
      IsOpen (tests asking p test held broken) (decision_at asking true ∷ [])
  held_open asking p test held broken =
      let h = open_nothing held in
      (taking test true h.0, ap (λ x. by_truth x test (route held []) (route broken [])) (offered asking true) ∙ ap (option_map (taking test true)) h.1)

  broken_open : (asking : Asking) (p : Progress V) (test : F) (held broken : Tree V F) →
      IsOpen (tests asking p test held broken) (decision_at asking false ∷ [])
  broken_open asking p test held broken =
      let h = open_nothing broken in
      (taking test false h.0, ap (λ x. by_truth x test (route held []) (route broken [])) (offered asking false) ∙ ap (option_map (taking test false)) h.1)

  side_open : (asking : Asking) (p : Progress V) (test : F) (held broken : Tree V F) (d : Decision) →
      Has (decision_at asking true ∷ decision_at asking false ∷ []) d → IsOpen (tests asking p test held broken) (d ∷ [])
  side_open asking p test held broken d (inl e) =
      subst (λ (x : Decision). IsOpen (tests asking p test held broken) (x ∷ [])) e (held_open asking p test held broken)
  side_open asking p test held broken d (inr (inl e)) =
      subst (λ (x : Decision). IsOpen (tests asking p test held broken) (x ∷ [])) e (broken_open asking p test held broken)
  side_open asking p test held broken d (inr (inr h)) = absurd h

  copy_offered : (branches : Copies V F) (first n : ℕ) → Found (copy_route branches n []) →
      Has (offered_copies first branches) (Copy (first + n))
  copy_offered no_copies first n h = let bad : None ≡ Some h.0 = h.1 in cc
  copy_offered (copy_and t branches) first zero h =
      let same : first ≡ first + 0 = omega arith in
      inl (ap (λ (k : ℕ). Copy k) same)
  copy_offered (copy_and t branches) first (suc n) h =
      let same : suc first + n ≡ first + suc n = omega arith in
      inr (subst (λ (k : ℕ). Has (offered_copies (suc first) branches) (Copy k)) same (copy_offered branches (suc first) n h))

  number_offered : (branches : Copies V F) (d : Decision) (number : Option ℕ) (r : Route V F) → number_of d ≡ number →
      by_number number (λ n. copy_route branches n []) ≡ Some r → Has (offered_copies 0 branches) d
  number_offered branches d None r is e = let bad : None ≡ Some r = e in cc
  number_offered branches d (Some n) r is e =
      let zero_first : 0 + n ≡ n = omega arith in
      subst (Has (offered_copies 0 branches)) (ap (λ (k : ℕ). Copy k) zero_first ∙ sym (only_number d n is))
      (copy_offered branches 0 n (r, e))

  -- the copy that an offer names
  record Named (branches : Copies V F) (first : ℕ) (d : Decision) : Type 0 where
    pub place : ℕ
    pub is : d ≡ Copy (first + place)
    pub goes : Found (copy_route branches place [])

  copy_named : (branches : Copies V F) (first : ℕ) (d : Decision) → Has (offered_copies first branches) d →
      Named branches first d
  copy_named no_copies first d h = absurd h
  copy_named (copy_and t branches) first d (inl e) =
      let same : first ≡ first + 0 = omega arith in
      record { place = 0; is = sym e ∙ ap (λ (k : ℕ). Copy k) same; goes = open_nothing t }
  copy_named (copy_and t branches) first d (inr h) =
      let m = copy_named branches (suc first) d h in
      let same : suc first + m.place ≡ first + suc m.place = omega arith in
      record { place = suc m.place; is = m.is ∙ ap (λ (k : ℕ). Copy k) same; goes = m.goes }

  copy_open : (p : Progress V) (branches : Copies V F) (d : Decision) → Has (offered_copies 0 branches) d →
      IsOpen (splits p branches) (d ∷ [])
  copy_open p branches d h =
      let m = copy_named branches 0 d h in
      let zero_first : 0 + m.place ≡ m.place = omega arith in
      let is : d ≡ Copy m.place = m.is ∙ ap (λ (k : ℕ). Copy k) zero_first in
      let goes : IsOpen (splits p branches) (Copy m.place ∷ []) = (m.goes.0, m.goes.1) in
      subst (λ (x : Decision). IsOpen (splits p branches) (x ∷ [])) (sym is) goes

  pub open_offered : (t : Tree V F) (d : Decision) → IsOpen t (d ∷ []) → Has (offers t) d
  open_offered (over p end') d h = let bad : None ≡ Some h.0 = h.1 in cc
  open_offered (arrives place p t) d h =
      let m = mapped_some (arriving place p) (route t (d ∷ [])) h.0 h.1 in
      open_offered t d (m.0, m.1)
  open_offered (tests asking p test held broken) d h =
      truth_offered asking d (truth_of asking d) test (route held []) (route broken []) h.0 refl h.1
  open_offered (splits p branches) d h = number_offered branches d (number_of d) h.0 refl h.1

  pub offered_open : (t : Tree V F) (d : Decision) → Has (offers t) d → IsOpen t (d ∷ [])
  offered_open (over p end') d h = absurd h
  offered_open (arrives place p t) d h =
      let r = offered_open t d h in
      (arriving place p r.0, ap (option_map (arriving place p)) r.1)
  offered_open (tests asking p test held broken) d h = side_open asking p test held broken d h
  offered_open (splits p branches) d h = copy_open p branches d h

  later_copies : (n first : ℕ) (branches : Copies V F) → n < first →
      AllByRecursion (λ d. Parts (Copy n ∷ []) (d ∷ [])) (offered_copies first branches)
  later_copies n first no_copies h = tt
  later_copies n first (copy_and t branches) h =
      (inl (omega (arith, h)), later_copies n (suc first) branches (omega (arith, h)))

  copies_offered_ascend : (first : ℕ) (branches : Copies V F) → Ascend (λ d. d ∷ []) (offered_copies first branches)
  copies_offered_ascend first no_copies = tt
  copies_offered_ascend first (copy_and t branches) =
      (later_copies first (suc first) branches (omega arith), copies_offered_ascend (suc first) branches)

  pub offers_ascend : (t : Tree V F) → Ascend (λ d. d ∷ []) (offers t)
  offers_ascend (over p end') = tt
  offers_ascend (arrives place p t) = offers_ascend t
  offers_ascend (tests asking p test held broken) = ((inl (less_asked asking), tt), (tt, tt))
  offers_ascend (splits p branches) = copies_offered_ascend 0 branches

  -- ---- one decision more

  pub more_offered : (t : Tree V F) (ds : List Decision) (d : Decision) (r : Route V F) → route t ds ≡ Some r →
      IsOpen t (ds ++ d ∷ []) → Has (offers r.left) d
  more_offered t ds d r e h =
      let m = mapped_some (behind r.arrivals r.tests) (route r.left (d ∷ [])) h.0 (sym (composed t ds (d ∷ []) r e) ∙ h.1) in
      open_offered r.left d (m.0, m.1)

  pub more_open : (t : Tree V F) (ds : List Decision) (d : Decision) (r : Route V F) → route t ds ≡ Some r →
      Has (offers r.left) d → IsOpen t (ds ++ d ∷ [])
  more_open t ds d r e h =
      let m = offered_open r.left d h in
      (behind r.arrivals r.tests m.0, composed t ds (d ∷ []) r e ∙ ap (option_map (behind r.arrivals r.tests)) m.1)

  -- ---- the first decision that is not offered

  abbrev Closes : Tree V F → List Decision → Type 0
  Closes t ds = (index : ℕ) × IsFirstClosed t ds index

  closed_here : (t : Tree V F) (before : List Decision) (d : Decision) (rest : List Decision) (way : Route V F) →
      route t before ≡ Some way → (x : Option (Route V F)) → route t (before ++ d ∷ []) ≡ x →
      ((next : Route V F) → x ≡ Some next → Closes t (before ++ d ∷ rest)) → Closes t (before ++ d ∷ rest)
  closed_here t before d rest way e None x k = (
    length before,
    record {
      before = before;
      closed = d;
      later = rest;
      is = refl;
      at = refl;
      way = way;
      leads = e;
      not_offered = λ offer.
          let o = more_open t before d way e offer in
          let bad : None ≡ Some o.0 = sym x ∙ o.1 in
          cc;
    },
  )
  closed_here t before d rest way e (Some next) x k = k next refl

  closed_behind : (t : Tree V F) (before rest : List Decision) (way : Route V F) → route t before ≡ Some way →
      route t (before ++ rest) ≡ None → Closes t (before ++ rest)
  closed_behind t before [] way e h =
      let same : route t (before ++ []) ≡ Some way = ap (route t) (append-nil before) ∙ e in
      let bad : None ≡ Some way = sym h ∙ same in
      cc
  closed_behind t before (d ∷ rest) way e h =
      let same : (before ++ d ∷ []) ++ rest ≡ before ++ d ∷ rest = append_assoc before (d ∷ []) rest in
      closed_here t before d rest way e (route t (before ++ d ∷ [])) refl
      (λ next x. subst (Closes t) same (closed_behind t (before ++ d ∷ []) rest next x (ap (route t) same ∙ h)))

  pub first_closed : (t : Tree V F) (ds : List Decision) → route t ds ≡ None → Closes t ds
  first_closed t ds h =
      let start = open_nothing t in
      closed_behind t [] ds start.0 start.1 h

  none_found : (x : Option (Route V F)) → (Found x → ⊥) → x ≡ None
  none_found None k = refl
  none_found (Some r) k = absurd (k (r, refl))

  -- no decisions that go on behind those before it and it lead along a route
  not_behind : (t : Tree V F) (ds : List Decision) (index : ℕ) (h : IsFirstClosed t ds index) (es rest : List Decision) →
      es ≡ (h.before ++ h.closed ∷ []) ++ rest → IsOpen t es → ⊥
  not_behind t ds index h es rest is o =
      h.not_offered (more_offered t h.before h.closed h.way h.leads
      (prefix_open t (h.before ++ h.closed ∷ []) rest (subst (IsOpen t) is o)))

  pub closed_route : (t : Tree V F) (ds : List Decision) (index : ℕ) → IsFirstClosed t ds index → route t ds ≡ None
  closed_route t ds index h =
      none_found (route t ds) (not_behind t ds index h ds h.later (h.is ∙ sym (append_assoc h.before (h.closed ∷ []) h.later)))

  not_earlier : (t : Tree V F) (ds : List Decision) (first second : ℕ) → IsFirstClosed t ds first →
      IsFirstClosed t ds second → first < second → ⊥
  not_earlier t ds first second h k less =
      let shorter : length h.before < length k.before = omega (arith, h.at, k.at, less) in
      let m = longer h.before k.before h.closed h.later (k.closed ∷ k.later) (sym h.is ∙ k.is) shorter in
      not_behind t ds first h k.before m.0 m.1 (k.way, k.leads)

  pub one_closed : (t : Tree V F) (ds : List Decision) (first second : ℕ) → IsFirstClosed t ds first →
      IsFirstClosed t ds second → first ≡ second
  one_closed t ds first second h k = elim (less_same_more first second) [
    | inl less ↦ absurd (not_earlier t ds first second h k less)
    | inr other ↦ elim other [ inl same ↦ same | inr more ↦ absurd (not_earlier t ds second first k h more) ]
  ]
