-- What explorations answer, for the net.
use Rattle.std.proofs.Common.{◌≡◌, ℕ, ◌+◌, ◌≤◌, inl, inr, true, List, [], ◌∷◌, ◌++◌, length, map, Result, Ok, Err, IfOk, IsErrAnd, arith, refl, sym, ap, subst, ◌∙◌}
use Rattle.std.specs.Global.{Vec}
use Rattle.std.specs.List.{AllByRecursion}
use Rattle.refutation_check.specs.Longer.{condition_of}
use Rattle.sefl_meaning.specs.declared.walk.Decision.{Decision}
use Rattle.sefl_meaning.specs.declared.walk.Place.{Place}
use Rattle.sefl_meaning.specs.Network.{Network, Entry}
use Rattle.sefl_meaning.specs.Runs.{starting}
use Rattle.sefl_meaning.specs.Start.{progress_of}
use Rattle.sefl_meaning.specs.Trees.{enter}
use Rattle.term_values.specs.TermValues.{terms}
use Rattle.path_records.specs.declared.records.Record.{Record}
use Rattle.exact_records.specs.Laws.{ExactRecordsShowWalks}
use Rattle.exact_records.specs.Packets.{IsExplored}
use Rattle.exact_records.specs.Records.{RecordTree, SymStart, SymTree, condition_on, injection_tests}
use Rattle.exact_records.specs.Work.{work_of}
use Rattle.sym_state.specs.Beginning.{Begins, start_in}
use Rattle.sym_state.specs.Symbolic.{Symbolic}
use Rattle.path_exec.specs.declared.engine.Offer.{Offer}
use Rattle.path_exec.specs.declared.exploration.Ended.{Ended}
use Rattle.path_exec.specs.declared.exploration.Ended.TheVariants.{Whole, Partial, Stopped}
use Rattle.path_exec.specs.declared.guided.FollowFault.{FollowFault}
use Rattle.path_exec.specs.declared.guided.FollowFault.TheVariants.{Impossible, NoMemory}
use Rattle.path_exec.specs.Ending.{Explored}
use Rattle.path_exec.specs.Following.{Followed, IsLed}
use Rattle.path_exec.specs.Handing.{Handed}
use Rattle.path_exec.specs.Location.{point_at}
use Rattle.path_exec.specs.Offers.{IsNode}
use Rattle.path_exec.specs.Receiving.{Receiving}
use Rattle.path_exec.specs.Views.{Views}
use Rattle.path_exec.specs.Visiting.{AreVisits, Arrival, ArrivedAs, ArrivesAt}
use Rattle.symbolic_engine.specs.declared.found.Found.{Found}
use Rattle.symbolic_engine.specs.declared.origin.Origin.{Ghosts}
use Rattle.symbolic_engine.specs.declared.points.Standing.{Standing}
use Rattle.symbolic_engine.specs.declared.guiding.Led.{Led}
use Rattle.symbolic_engine.specs.declared.guiding.Waits.{Waits}
use Rattle.symbolic_engine.specs.declared.stage.Wait.{Wait}
use Rattle.symbolic_engine.specs.declared.stage.Wait.TheVariants.{Asked, Forked}
use Rattle.symbolic_engine.specs.Stages.{wait_tree}
use Rattle.symbolic_engine.specs.Origins.{IsFirstState, IsRunOf, condition_seen, location_of}
use Rattle.symbolic_engine.specs.Seeing.{views_of}
use Rattle.symbolic_engine.specs.Finds.{handed_tree}
use Rattle.symbolic_engine.specs.Exploring.{AreFound, ArrivedFor, ArrivesIn, ExploredFor, FollowedFor, ObservedFor}
use Rattle.symbolic_engine.specs.Leading.{LeadsThere, WaitsAs}
use Rattle.symbolic_engine.proofs.RunLemmas.{all_tests}

-- ---- the start

-- the state of an injection is the first of what is explored there
pub first_of : (net : Network) (i : Entry) (hops : ℕ) (x : Symbolic) → Begins net i x → IsFirstState (start_in net i hops x) net hops i.node i.own.port x
first_of net i hops x begins = record {
  unknowns = refl;
  tests = refl;
  most_choices = refl;
  tree = ap (λ (u : ℕ). enter (terms u) net hops i.node i.own.port (starting x.carried)) (sym begins.unknown_fields);
  true_tests = begins.true_tests;
  fields = begins.unknown_fields ∙ ap length (sym begins.widths);
  decisions = begins.decisions;
  places = begins.places;
}

abbrev Trees : List (Handed Found) → List RecordTree
Trees items = map handed_tree items

ok_same : {A E : Type 0} {x y : A} → ◌≡◌ {A = Result A E} (Ok x) (Ok y) → x ≡ y
ok_same e = cc e

-- ---- records

module _ (net : Network) (i : Entry) (hops : ℕ) where
  one_start : (s t : SymStart) → IsExplored net i hops s → IsExplored net i hops t → s ≡ t
  one_start s t a b = ok_same (sym a ∙ b)

  spent_for : (s t : SymStart) (xs : List RecordTree) (before after : ℕ) → IsExplored net i hops s → IsExplored net i hops t
      → after ≤ before + work_of s xs → after ≤ before + work_of t xs
  spent_for s t xs before after a b h = subst (λ (u : SymStart). after ≤ before + work_of u xs) (one_start s t a b) h

  module _ {E : Type 0} (own : Network) (s : SymStart) (laws : ExactRecordsShowWalks net i hops) (is : IsExplored net i hops s) (limit stops : ℕ)
      (m : Receiving (Handed Found)) (before after : ℕ) where
    -- what is exact for the start is exact for the net
    pub explored_for : (B : Type 0) (origin : Ghosts B) (r : Result Ended E) → Explored (views_of {B = B} {origin = origin} s own) limit stops m before after r
        → ObservedFor net i hops limit stops m before after r
    explored_for B origin (Ok Whole) h =
        let exact = laws.exact s limit (Trees h.items) is h.exact in
        record { items = h.items; stands = h.stands; exact = exact; tried = h.tried; spent = spent_for s exact.start (Trees h.items) before after is exact.explored h.spent }
    explored_for B origin (Ok Partial) h =
        let exact = laws.exact s limit (Trees h.items) is h.exact in
        record { items = h.items; stands = h.stands; exact = exact; untried = h.untried; spent = spent_for s exact.start (Trees h.items) before after is exact.explored h.spent }
    explored_for B origin (Ok Stopped) h =
        let exact = laws.up_to s limit (Trees h.items) (handed_tree h.last) is h.exact in
        record {
          items = h.items;
          last = h.last;
          stopped = h.stopped;
          exact = exact;
          cause = h.cause;
          spent = spent_for s exact.start (Trees (h.items ++ h.last ∷ [])) before after is exact.explored h.spent;
        }
    explored_for B origin (Err e) h = record { items = h.items; stands = h.stands; exact = laws.so_far s limit (Trees h.items) is h.exact }

-- ---- where decisions lead

module _ (s : SymStart) (ds : List Decision) (x : Symbolic) (tree : ℕ → SymTree) (begun : ℕ) (run : IsRunOf s x)
    (led : IsLed s ds (point_at begun (location_of s x tree))) where
  condition_led : condition_seen x ≡ condition_on s led.way
  condition_led =
      let widths = led.widths ∙ ap (λ (t : SymTree). s.unknowns ++ (progress_of t).choices) (sym led.left) in
      let entries = sym (all_tests s x run) ∙ ap (λ l. map (λ f. (f, true)) s.tests ++ l) (sym led.tests) in
      λ j. condition_of (run.most_choices j) (widths j) (entries j)

  pub leads_there : (waits : Waits) → WaitsAs waits led.way.left x → (progress_of (tree begun)).state ≡ x.carried
      → LeadsThere s ds (record { state = x; waits = waits })
  leads_there waits as' carries = record {
    way = led.way;
    leads = led.leads;
    waits = as';
    carries = ap (λ (t : SymTree). (progress_of t).state) led.left ∙ carries;
    decisions = led.decisions;
    places = sym led.places;
    condition = condition_led;
    unknowns = run.unknowns;
  }

-- the first decision that is not offered, or want of memory, for the net
module _ {P O N D T : Type 0} (x : Views P O N D T) (net : Network) (i : Entry) (hops : ℕ) (is : IsExplored net i hops x.start) (ds : List Decision) where
  follow_fault : (fault : FollowFault) → Followed x ds (Err fault) → FollowedFor net i hops ds (Err fault)
  follow_fault (Impossible index) h = record { start = x.start; explored = is; holds = h }
  follow_fault NoMemory h = tt

  pub not_followed : (r : Result Led FollowFault) (fault : FollowFault) → IsErrAnd r (λ e. e ≡ fault) → Followed x ds (Err fault)
      → FollowedFor net i hops ds r
  not_followed (Ok led) fault same h = absurd same
  not_followed (Err e) fault same h = subst (λ (k : FollowFault). FollowedFor net i hops ds (Err k)) (sym same) (follow_fault fault h)

  arrival_fault : (port : Place) (fault : FollowFault) → ArrivedAs x port ds (Err fault) → ArrivedFor net i hops port ds (Err fault)
  arrival_fault port (Impossible index) h = record { start = x.start; explored = is; holds = h }
  arrival_fault port NoMemory h = tt

  pub not_arrived : (port : Place) (r : Result (Vec Symbolic) FollowFault) (fault : FollowFault) → IsErrAnd r (λ e. e ≡ fault)
      → ArrivedAs x port ds (Err fault) → ArrivedFor net i hops port ds r
  not_arrived port (Ok states) fault same h = absurd same
  not_arrived port (Err e) fault same h =
      subst (λ (k : FollowFault). ArrivedFor net i hops port ds (Err k)) (sym same) (arrival_fault port fault h)

-- the state of a place that stands at an arrival makes it
arrives_in : {B : Type 0} (origin : Ghosts B) (s : SymStart) (net : Network) (ds : List Decision) (before : List Arrival) (arrival : Arrival) (place : Standing B)
    → IsRunOf s place.run → ArrivesAt (views_of {B = B} {origin = origin} s net) ds before arrival place → ArrivesIn s ds before arrival place.run
arrives_in origin s net ds before arrival place run h =
    let entries = sym (all_tests s place.run run) ∙ ap (λ l. injection_tests s ++ l) h.tests in
    record {
      way = h.way;
      leads = h.leads;
      places = h.places;
      condition = λ j. condition_of (run.most_choices j) (h.widths j) (entries j);
      unknowns = run.unknowns;
    }

-- the states of places that were visited, each of a run from the start
pub states_visit : {B : Type 0} (origin : Ghosts B) (s : SymStart) (net : Network) (ds : List Decision) (port : Place) (before arrivals : List Arrival) (places : List (Standing B))
    (states : List Symbolic) → states ≡ map (λ (place : Standing B). place.run) places → AllByRecursion (IsRunOf s) states
    → AreVisits (λ (place : Standing B). place.run.carried) (ArrivesAt (views_of {B = B} {origin = origin} s net) ds) port before arrivals places
    → AreVisits (λ (x : Symbolic). x.carried) (ArrivesIn s ds) port before arrivals states
states_visit origin s net ds port before [] places states is own none = is ∙ ap (map (λ place. place.run)) none
states_visit {B} origin s net ds port before (arrival ∷ arrivals) places states is own (inl v) =
    let all : states ≡ v.first.run ∷ map (λ (place : Standing B). place.run) v.rest = is ∙ ap (map (λ place. place.run)) v.is in
    let runs : AllByRecursion (IsRunOf s) (v.first.run ∷ map (λ (place : Standing B). place.run) v.rest) = subst (AllByRecursion (IsRunOf s)) all own in
    inl (record {
      first = v.first.run;
      rest = map (λ (place : Standing B). place.run) v.rest;
      is = all;
      at = v.at;
      carries = v.carries;
      stands = arrives_in origin s net ds before arrival v.first runs.0 v.stands;
      others = states_visit origin s net ds port (before ++ arrival ∷ []) arrivals v.rest (map (λ (place : Standing B). place.run) v.rest) refl runs.1 v.others;
    })
states_visit origin s net ds port before (arrival ∷ arrivals) places states is own (inr v) =
    inr (v.0, states_visit origin s net ds port (before ++ arrival ∷ []) arrivals places states is own v.1)

-- a node stays what it is
pub at_wait : (offer : Offer) (t u : SymTree) → t ≡ u → IsNode offer u → IsNode offer t
at_wait offer t u e h = subst (IsNode offer) (sym e) h

-- what nothing was handed over to is, where there was no memory
pub nothing_yet : {E : Type 0} (net : Network) (i : Entry) (hops limit stops : ℕ) (m : Receiving (Handed Found)) (before after : ℕ) (r : Result Ended E) (Q : E → Type 0)
    → IsErrAnd r Q → m.StandsFor [] → ObservedFor net i hops limit stops m before after r
nothing_yet net i hops limit stops m before after (Ok how) Q h stands = absurd h
nothing_yet net i hops limit stops m before after (Err e) Q h stands = record { items = []; stands = stands; exact = record { is = inl refl } }

-- what a list that was kept is
pub kept_found : {E : Type 0} (net : Network) (i : Entry) (hops limit : ℕ) (m : Receiving Record) (kept : List Record) (before after : ℕ) (r : Result Ended E)
    → ((xs : List Record) → m.StandsFor xs → kept ≡ xs) → m.stops ≡ 0 → ExploredFor net i hops limit 0 m before after r
    → IfOk r (λ e. AreFound net i hops limit before after kept)
kept_found net i hops limit m kept before after (Ok Whole) stands none h =
    subst (λ (xs : List Record). AreFound net i hops limit before after xs) (sym (stands h.items h.stands)) (record { exact = h.exact; spent = h.spent })
kept_found net i hops limit m kept before after (Ok Partial) stands none h =
    subst (λ (xs : List Record). AreFound net i hops limit before after xs) (sym (stands h.items h.stands)) (record { exact = h.exact; spent = h.spent })
kept_found net i hops limit m kept before after (Ok Stopped) stands none h = absurd (let c = h.cause in omega (arith, c, none))
kept_found net i hops limit m kept before after (Err e) stands none h = tt

-- what is carried where a run waits
pub wait_carries : (net : Network) (wait : Wait) (x : Symbolic) (begun : ℕ) → (progress_of (wait_tree net wait x begun)).state ≡ x.carried
wait_carries net (Asked running question test frames) x begun = refl
wait_carries net (Forked node hops ports) x begun = refl
