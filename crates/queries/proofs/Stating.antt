-- The states of a path that a question speaks of.
use Rattle.std.proofs.Common.{◌≡◌, ℕ, inl, inr, Bool, true, false, true≢false, List, [], ◌∷◌, ◌++◌, map, refl, sym, ap, subst, ◌∙◌, Some, None, Result, Ok, Err, IfOk, Vec, if◌then◌else◌}
use Rattle.std.specs.Global.{Global}
use Rattle.sefl_meaning.specs.declared.walk.Decision.{Decision}
use Rattle.sefl_meaning.specs.declared.walk.End.{End}
use Rattle.sefl_meaning.specs.declared.walk.End.TheVariants.{Stopped, Delivered, Failed, Cut}
use Rattle.sefl_meaning.specs.declared.walk.Place.{Place}
use Rattle.lin_term.specs.Terms.{LinearTerm}
use Rattle.net_check.specs.Network.{Network, Entry}
use Rattle.sefl_meaning.specs.Carried.{Carried}
use Rattle.sefl_meaning.specs.Courses.{Progress}
use Rattle.sefl_meaning.specs.Routes.{IsFirstClosed, places_on, route}
use Rattle.exact_records.specs.Records.{SymRoute, SymStart, SymTree}
use Rattle.path_exec.specs.Visiting.{AreVisits, Arrival}
use Rattle.sym_state.specs.Symbolic.{Symbolic}
use Rattle.symbolic_engine.specs.Exploring.{ArrivesBy, ArrivesIn, FollowsTo}
use Rattle.path_questions.specs.Formulas.{asked_left, asked_on, explored}
use Rattle.path_questions.specs.Questions.{Field, Question, reach, invariant, visible, ends_at, if_delivered, same_place, states_at}
use Rattle.path_questions.specs.Asked.{look_of}
use Rattle.path_questions.specs.declared.looking.Look.TheVariants.{AtEnd, OnArrivals}
use Rattle.queries.specs.declared.states.PathRun.{PathRun}
use Rattle.queries.specs.declared.states.Stop.{Stop}
use Rattle.queries.specs.Paths.{AreNoted, ArriveAt, AreStatesOf, IsBare, IsPathRun, StaysAt, delivered_at, ends_with, has_place, noted_at, state_at_end}
use Rattle.queries.proofs.Ending.{LastIs, over_as_it_arrives}
use Rattle.queries.proofs.PlaceLemmas.{by_test, else_false, is_same, not_true, same_is, then_false}
use Rattle.queries.proofs.Ways.{none_some, same_way, some_same, start_is}

-- ---- lists

nil_cons : {A : Type 0} {x : A} {xs : List A} → [] ≡ x ∷ xs → ⊥
nil_cons e = cc e

first_same : {A : Type 0} {x y : A} {xs ys : List A} → x ∷ xs ≡ y ∷ ys → x ≡ y
first_same e = cc e

rest_same : {A : Type 0} {x y : A} {xs ys : List A} → x ∷ xs ≡ y ∷ ys → xs ≡ ys
rest_same e = cc e

no_rest : {A : Type 0} (xs : List A) (x : A) → [] ≡ xs ++ x ∷ [] → ⊥
no_rest [] x e = nil_cons e
no_rest (y ∷ xs) x e = nil_cons e

-- ---- states on arrivals

module _ (place : Place) where
  abbrev carried_of : Symbolic → Carried LinearTerm
  carried_of x = x.carried

  kept_at : (b : Bool) (s : Carried LinearTerm) (more : List (Carried LinearTerm)) → b ≡ true → (if b then s ∷ more else more) ≡ s ∷ more
  kept_at true s more e = refl
  kept_at false s more e = absurd (true≢false (sym e))

  left_out : (b : Bool) (s : Carried LinearTerm) (more : List (Carried LinearTerm)) → b ≡ false → (if b then s ∷ more else more) ≡ more
  left_out true s more e = absurd (true≢false e)
  left_out false s more e = refl

  pub visits_are : (Stands : List Arrival → Arrival → Symbolic → Type 0) (before arrivals : List Arrival) (states : List Symbolic)
      → AreVisits (λ (x : Symbolic). x.carried) Stands place before arrivals states → map carried_of states ≡ states_at place arrivals
  visits_are Stands before [] states h = ap (map carried_of) h
  visits_are Stands before (a ∷ arrivals) states (inl v) =
      ap (map carried_of) v.is
      ∙ ((λ j. v.carries j ∷ visits_are Stands (before ++ a ∷ []) arrivals v.rest v.others j)
      ∙ sym (kept_at (same_place place a.0) a.1.state (states_at place arrivals) (is_same place a.0 (sym v.at))))
  visits_are Stands before (a ∷ arrivals) states (inr v) =
      visits_are Stands (before ++ a ∷ []) arrivals states v.1
      ∙ sym (left_out (same_place place a.0) a.1.state (states_at place arrivals)
      (not_true (same_place place a.0) (λ e. v.0 (sym (same_is place a.0 e)))))

  -- none, where the place is not among the ports
  pub none_there : (arrivals : List (Place × Progress LinearTerm)) → has_place place (map (λ a. a.0) arrivals) ≡ false → states_at place arrivals ≡ []
  none_there [] e = refl
  none_there (a ∷ arrivals) e =
      let rest : has_place place (map (λ x. x.0) arrivals) ≡ false = else_false (same_place place a.0) (has_place place (map (λ x. x.0) arrivals)) e in
      left_out (same_place place a.0) a.1.state (states_at place arrivals) (then_false (same_place place a.0) (has_place place (map (λ x. x.0) arrivals)) e)
      ∙ none_there arrivals rest

  -- one, where the place is the last of the ports, and none before it
  pub last_there : (before : List Place) (arrivals : List (Place × Progress LinearTerm)) (P : Place → Progress LinearTerm → Type 0) (q : Progress LinearTerm)
      → map (λ a. a.0) arrivals ≡ before ++ place ∷ [] → has_place place before ≡ false → LastIs P arrivals → ((p : Progress LinearTerm) → P place p → p ≡ q)
      → states_at place arrivals ≡ q.state ∷ []
  last_there [] [] P q e none last is = absurd (nil_cons e)
  last_there (b ∷ before) [] P q e none last is = absurd (nil_cons e)
  last_there [] (a ∷ []) P q e none last is =
      let here : a.0 ≡ place = first_same e in
      kept_at (same_place place a.0) a.1.state [] (is_same place a.0 (sym here))
      ∙ ap (λ (p : Progress LinearTerm). p.state ∷ []) (is a.1 (subst (λ at. P at a.1) here last))
  last_there (b ∷ before) (a ∷ []) P q e none last is = absurd (no_rest before place (rest_same e))
  last_there [] (a ∷ c ∷ arrivals) P q e none last is = absurd (nil_cons (sym (rest_same e)))
  last_there (b ∷ before) (a ∷ c ∷ arrivals) P q e none last is =
      let other : same_place place a.0 ≡ false =
      ap (same_place place) (first_same e) ∙ then_false (same_place place b) (has_place place before) none in
      left_out (same_place place a.0) a.1.state (states_at place (c ∷ arrivals)) other
      ∙ last_there before (c ∷ arrivals) P q (rest_same e) (else_false (same_place place b) (has_place place before) none) last is

-- ---- the state at the end

ends_so : (place : Place) (before : Bool) (a : Place × Progress LinearTerm) (arrivals : List (Place × Progress LinearTerm))
    → ends_with place (map (λ x. x.0) (a ∷ arrivals)) ≡ ends_at place before (a ∷ arrivals)
ends_so place before a [] = refl
ends_so place before a (b ∷ arrivals) = ends_so place (same_place place a.0) b arrivals

ends_are : (place : Place) (arrivals : List (Place × Progress LinearTerm)) → ends_with place (map (λ x. x.0) arrivals) ≡ ends_at place false arrivals
ends_are place [] = refl
ends_are place (a ∷ arrivals) = ends_so place false a arrivals

delivered_so : (how : End) (place : Place) (places : List Place) (b : Bool) (state : Symbolic) (c : Carried LinearTerm) → ends_with place places ≡ b → state.carried ≡ c
    → map (λ (x : Symbolic). x.carried) (if delivered_at how place places then state ∷ [] else []) ≡ if_delivered how (if b then c ∷ [] else [])
delivered_so Delivered place places b state c e k = ended (ends_with place places) e
  where
    ended : (d : Bool) → d ≡ b → map (λ (x : Symbolic). x.carried) (if d then state ∷ [] else []) ≡ (if b then c ∷ [] else [])
    ended true h = subst (λ (z : Bool). state.carried ∷ [] ≡ (if z then c ∷ [] else [])) h (ap (λ z. z ∷ []) k)
    ended false h = subst (λ (z : Bool). [] ≡ (if z then c ∷ [] else [])) h refl
delivered_so Stopped place places b state c e k = refl
delivered_so (Failed failure site) place places b state c e k = refl
delivered_so Cut place places b state c e k = refl

-- ---- where a question looks

same_arrivals : {a b : Place} → OnArrivals a ≡ OnArrivals b → a ≡ b
same_arrivals e = cc e

same_end : {a b : Place} → AtEnd a ≡ AtEnd b → a ≡ b
same_end e = cc e

one_look : {a b : Place} → OnArrivals a ≡ AtEnd b → ⊥
one_look e = cc e

-- ---- the states of a question

module _ (net : Network) (i : Entry) (hops : ℕ) where
  pub arrive_at : (place : Place) (ds : List Decision) (states : List Symbolic) → FollowsTo net i hops (λ start. ArrivesBy start place ds states) → ArriveAt net i hops place ds states
  arrive_at place ds states h = λ way leads.
      let there : ArrivesBy (explored net i hops) place ds states =
      subst (λ s. ArrivesBy s place ds states) (start_is net i hops h.start h.explored) h.holds in
      visits_are place (ArrivesIn (explored net i hops) ds) [] way.arrivals states
      (subst (λ (w : SymRoute). AreVisits (λ (x : Symbolic). x.carried) (ArrivesIn (explored net i hops) ds) place [] w.arrivals states) (same_way net i hops ds there.way way there.leads leads) there.visits)

  -- at the first of the stops at a port
  pub noted_there : (place : Place) (ds : List Decision) (stops : List Stop) (states : List Symbolic) → AreNoted net i hops ds stops
      → noted_at place stops ≡ Some states → ArriveAt net i hops place ds states
  noted_there place ds [] states h e = absurd (none_some e)
  noted_there place ds (s ∷ stops) states h e =
      by_test (same_place place s.place) (Some s.states.items) (noted_at place stops) states e
      (λ k f way leads.
      ap (map (λ (x : Symbolic). x.carried)) (sym (some_same f))
      ∙ (h.0 way leads ∙ ap (λ p. states_at p way.arrivals) (sym (same_is place s.place k))))
      (λ k f. noted_there place ds stops states h.1 f)

  pub states_there : (q : Question) (place : Place) (run : PathRun) (r : IsPathRun net i hops run) (states : List Symbolic) → look_of q ≡ OnArrivals place
      → ArriveAt net i hops place run.decisions.now states → AreStatesOf net i hops q run.decisions.now states
  states_there (reach own test) place run r states e h = λ way leads.
      let same = same_way net i hops run.decisions.now r.way way r.leads leads in
      h way leads
      ∙ (ap (λ (w : SymRoute). states_at place w.arrivals) (sym same)
      ∙ (ap (λ p. states_at p r.way.arrivals) (sym (same_arrivals e))
      ∙ (ap (asked_left (reach own test) r.way.arrivals) (sym r.ended) ∙ ap (asked_on (reach own test)) same)))
  states_there (invariant own field) place run r states e h = absurd (one_look (sym e))
  states_there (visible own field) place run r states e h = λ way leads.
      let same = same_way net i hops run.decisions.now r.way way r.leads leads in
      h way leads
      ∙ (ap (λ (w : SymRoute). states_at place w.arrivals) (sym same)
      ∙ (ap (λ p. states_at p r.way.arrivals) (sym (same_arrivals e))
      ∙ (ap (asked_left (visible own field) r.way.arrivals) (sym r.ended) ∙ ap (asked_on (visible own field)) same)))

  module _ (run : PathRun) (r : IsPathRun net i hops run) where
    pub arrive_nowhere : (place : Place) → has_place place run.places.items ≡ false → ArriveAt net i hops place run.decisions.now []
    arrive_nowhere place none = λ way leads.
        let same = same_way net i hops run.decisions.now r.way way r.leads leads in
        sym (none_there place way.arrivals (sym (ap (has_place place) (r.places ∙ ap places_on same)) ∙ none))

    -- where it ends as it arrives at the place
    pub arrive_last : (place : Place) → StaysAt net place run.places.items → ArriveAt net i hops place run.decisions.now (run.state ∷ [])
    arrive_last place stays = λ way leads.
        let same = same_way net i hops run.decisions.now r.way way r.leads leads in
        let there : states_at place r.way.arrivals ≡ r.progress.state ∷ [] =
        last_there place stays.0.before r.way.arrivals (λ at p. IsBare net at → p ≡ r.progress) r.progress (sym r.places ∙ stays.0.is) stays.0.sooner
        (over_as_it_arrives net i hops (explored net i hops) r.is run.decisions.now r.way r.leads r.progress run.how r.ended) (λ p h. h stays.1) in
        ap (λ c. c ∷ []) (sym r.carries) ∙ (sym there ∙ ap (λ (w : SymRoute). states_at place w.arrivals) same)

    pub own_states : {E : Type 0} (place : Place) → StaysAt net place run.places.items → (result : Result (Vec Symbolic Global) E)
        → IfOk result (λ states. states.items ≡ run.state ∷ []) → IfOk result (λ states. ArriveAt net i hops place run.decisions.now states.items)
    own_states place stays (Ok states) is = subst (ArriveAt net i hops place run.decisions.now) (sym is) (arrive_last place stays)
    own_states place stays (Err error) is = tt

    ends_where : (place : Place) (field : Field) (states : List Symbolic) → states ≡ state_at_end run place
        → AreStatesOf net i hops (invariant place field) run.decisions.now states
    ends_where place field states e = λ way leads.
        let same = same_way net i hops run.decisions.now r.way way r.leads leads in
        let here : ends_with place run.places.items ≡ ends_at place false r.way.arrivals = ap (ends_with place) r.places ∙ ends_are place r.way.arrivals in
        ap (map (λ (x : Symbolic). x.carried)) e
        ∙ (delivered_so run.how place run.places.items (ends_at place false r.way.arrivals) run.state r.progress.state here (sym r.carries)
        ∙ (ap (asked_left (invariant place field) r.way.arrivals) (sym r.ended)
        ∙ ap (asked_on (invariant place field)) same))

    pub states_at_end : (q : Question) (place : Place) → look_of q ≡ AtEnd place → (states : List Symbolic) → states ≡ state_at_end run place
        → AreStatesOf net i hops q run.decisions.now states
    states_at_end (reach own test) place looks states e = absurd (one_look looks)
    states_at_end (invariant own field) place looks states e = ends_where own field states (e ∙ ap (state_at_end run) (sym (same_end looks)))
    states_at_end (visible own field) place looks states e = absurd (one_look looks)

    -- its decisions lead somewhere
    pub not_closed : ((t : SymTree) (ds : List Decision) (index : ℕ) → IsFirstClosed t ds index → route t ds ≡ None) → (index : ℕ)
        → FollowsTo net i hops (λ start. IsFirstClosed start.tree run.decisions.now index) → ⊥
    not_closed closed index h =
        let none : route (explored net i hops).tree run.decisions.now ≡ None =
        closed (explored net i hops).tree run.decisions.now index
        (subst (λ (s : SymStart). IsFirstClosed s.tree run.decisions.now index) (start_is net i hops h.start h.explored) h.holds) in
        none_some (sym none ∙ r.leads)
