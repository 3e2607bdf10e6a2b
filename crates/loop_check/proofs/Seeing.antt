-- From the arrivals of a guided run at the last port of a path to its visits.
use Rattle.std.proofs.Common.{◌≡◌, ◌≤◌, ℕ, inl, inr, List, [], ◌∷◌, ◌++◌, length, length-append, map, take, drop, reverse, refl, sym, ap, subst, ◌∙◌, append_assoc, arith, None, Some, Result, Ok, Err, IfOk}
use Rattle.std.proofs.lemmas.List.{append-nil, map-append}
use Rattle.std.specs.List.{AllByRecursion}
use Rattle.refutation_check.specs.Longer.{condition_of}
use Rattle.lin_term.specs.Terms.{LinearTerm}
use Rattle.sefl_meaning.specs.declared.walk.Decision.{Decision}
use Rattle.sefl_meaning.specs.declared.walk.Place.{Place}
use Rattle.sefl_meaning.specs.Carried.{Carried}
use Rattle.sefl_meaning.specs.Courses.{Progress}
use Rattle.sefl_meaning.specs.Network.{Network, Entry}
use Rattle.sefl_meaning.specs.Routes.{IsFirstClosed, route}
use Rattle.sefl_meaning.specs.Start.{progress_of, tests_on}
use Rattle.exact_records.specs.Packets.{IsExplored}
use Rattle.exact_records.specs.Records.{SymCondition, SymRoute, SymStart, SymTree, condition_on}
use Rattle.path_exec.specs.Visiting.{AreVisits}
use Rattle.sym_state.specs.Symbolic.{Symbolic, held_of}
use Rattle.symbolic_engine.specs.Exploring.{ArrivesBy, ArrivesIn, FollowsTo}
use Rattle.symbolic_engine.specs.Origins.{condition_seen}
use Rattle.loop_meaning.specs.declared.answer.LoopAnswer.{LoopAnswer}
use Rattle.loop_meaning.specs.Answers.{Arrival, CutPath, IsAnswerOn}
use Rattle.loop_meaning.specs.Ends.{EndsAtLastPort, IsEndAtPort}
use Rattle.loop_meaning.specs.Visits.{visit_of}
use Rattle.loop_check.specs.Finding.{AnswersFor}
use Rattle.loop_check.specs.Lasting.{AreOfOneStart}
use Rattle.loop_check.specs.Seen.{AreSeen, AreSeenTo, HaveFields, IsFrom}
use Rattle.loop_check.proofs.Looking.{ports_of}

some_same : {A : Type 0} {x y : A} → Some x ≡ Some y → x ≡ y
some_same e = cc e

none_some : {A : Type 0} {x : A} → None ≡ Some x → ⊥
none_some e = cc e

ok_same : {A E : Type 0} {x y : A} → ◌≡◌ {A = Result A E} (Ok x) (Ok y) → x ≡ y
ok_same e = cc e

same_first : {A : Type 0} {a b : A} {xs ys : List A} → a ∷ xs ≡ b ∷ ys → a ≡ b
same_first e = cc

same_rest : {A : Type 0} {a b : A} {xs ys : List A} → a ∷ xs ≡ b ∷ ys → xs ≡ ys
same_rest e = cc

nothing_some : {A C : Type 0} {a : A} {xs : List A} → [] ≡ a ∷ xs → C
nothing_some e = cc

-- ---- lists

-- lists with one member more at their ends
pub not_nothing : {A : Type 0} (xs : List A) (x : A) → [] ≡ xs ++ x ∷ [] → ⊥
not_nothing [] x e = nothing_some e
not_nothing (y ∷ xs) x e = nothing_some e

pub same_ends : {A : Type 0} (xs ys : List A) (x y : A) → xs ++ x ∷ [] ≡ ys ++ y ∷ [] → (xs ≡ ys) × (x ≡ y)
same_ends [] [] x y e = (refl, same_first e)
same_ends [] (z ∷ ys) x y e = absurd (not_nothing ys y (same_rest e))
same_ends (z ∷ xs) [] x y e = absurd (not_nothing xs x (sym (same_rest e)))
same_ends (z ∷ xs) (u ∷ ys) x y e =
    let more = same_ends xs ys x y (same_rest e) in
    (λ i. same_first e i ∷ more.0 i, more.1)

drop_front : (xs ys : List ℕ) → drop (length xs) (xs ++ ys) ≡ ys
drop_front [] ys = refl
drop_front (x ∷ xs) ys = drop_front xs ys

take_front : (xs ys : List ℕ) → take (length xs) (xs ++ ys) ≡ xs
take_front [] ys = refl
take_front (x ∷ xs) ys = ap (λ zs. x ∷ zs) (take_front xs ys)

-- ---- states on arrivals

abbrev carried_of : Symbolic → Carried LinearTerm
carried_of x = x.carried

module _ (start : SymStart) (ds : List Decision) where
  widths_are : (before : List Arrival) (a : Arrival) (x : Symbolic) → ArrivesIn start ds before a x → x.condition.widths ≡ start.unknowns ++ a.1.choices
  widths_are before a x h = ap (λ (c : SymCondition). c.widths) h.condition

  holds_so : (before : List Arrival) (a : Arrival) (x : Symbolic) → ArrivesIn start ds before a x → x.carried ≡ a.1.state → held_of x ≡ visit_of a.1
  holds_so before a x h e =
      let choices : drop x.unknowns x.condition.widths ≡ a.1.choices =
      (λ i. drop (h.unknowns i) (widths_are before a x h i)) ∙ drop_front start.unknowns a.1.choices in
      λ i. (e i, choices i)

  from_start : (before : List Arrival) (a : Arrival) (x : Symbolic) → ArrivesIn start ds before a x → IsFrom start.unknowns x
  from_start before a x h = record {
    count = h.unknowns;
    widths = (λ i. take (h.unknowns i) (widths_are before a x h i)) ∙ take_front start.unknowns a.1.choices;
  }

  module _ (port : Place) where
    abbrev Arrives : List Arrival → List Arrival → List Symbolic → Type 0
    Arrives before arrivals states = AreVisits carried_of (ArrivesIn start ds) port before arrivals states

    all_from : (before arrivals : List Arrival) (states : List Symbolic) → Arrives before arrivals states → AllByRecursion (IsFrom start.unknowns) states
    all_from before [] states h = subst (AllByRecursion (IsFrom start.unknowns)) (sym h) tt
    all_from before (a ∷ arrivals) states (inl v) =
        subst (AllByRecursion (IsFrom start.unknowns)) (sym v.is) (from_start before a v.first v.stands, all_from (before ++ a ∷ []) arrivals v.rest v.others)
    all_from before (a ∷ arrivals) states (inr v) = all_from (before ++ a ∷ []) arrivals states v.1

    -- the last state has this condition, where each that makes the last arrival has
    seen_to : (c : SymCondition) (before earlier : List Arrival) (last : Arrival) (states : List Symbolic) → Arrives before (earlier ++ last ∷ []) states
        → last.0 ≡ port → ((x : Symbolic) → ArrivesIn start ds (before ++ earlier) last x → condition_seen x ≡ c) → AreSeenTo port c earlier last states
    seen_to c before [] last states (inl v) at k = record {
      visits = [];
      final = v.first;
      joined = v.is ∙ ap (λ (xs : List Symbolic). v.first ∷ xs) v.others;
      seen = refl;
      holds = holds_so before last v.first v.stands v.carries;
      condition = k v.first (subst (λ (as' : List Arrival). ArrivesIn start ds as' last v.first) (sym (append-nil before)) v.stands);
    }
    seen_to c before [] last states (inr v) at k = absurd (v.0 at)
    seen_to c before (a ∷ earlier) last states (inl v) at k =
        let more = seen_to c (before ++ a ∷ []) earlier last v.rest v.others at
        (λ x h. k x (subst (λ (as' : List Arrival). ArrivesIn start ds as' last x) (append_assoc before (a ∷ []) earlier) h)) in
        record {
          visits = v.first ∷ more.visits;
          final = more.final;
          joined = v.is ∙ ap (λ (xs : List Symbolic). v.first ∷ xs) more.joined;
          seen = inl (record {
            at = v.at;
            first = v.first;
            rest = more.visits;
            is = refl;
            holds = holds_so before a v.first v.stands v.carries;
            others = more.seen;
          });
          holds = more.holds;
          condition = more.condition;
        }
    seen_to c before (a ∷ earlier) last states (inr v) at k =
        let more = seen_to c (before ++ a ∷ []) earlier last states v.1 at
        (λ x h. k x (subst (λ (as' : List Arrival). ArrivesIn start ds as' last x) (append_assoc before (a ∷ []) earlier) h)) in
        record {
          visits = more.visits;
          final = more.final;
          joined = more.joined;
          seen = inr (v.0, more.seen);
          holds = more.holds;
          condition = more.condition;
        }

  -- ---- the last state

  module _ (p : CutPath start ds) (ends : IsEndAtPort start ds p) where
    same_way_by : (first rest : List Decision) (way : SymRoute) → first ++ rest ≡ ds → route start.tree first ≡ Some way
        → (length way.arrivals ≤ length p.earlier → ⊥) → way ≡ p.way
    same_way_by first [] way e leads far =
        some_same (sym leads ∙ (ap (route start.tree) (sym (append-nil first) ∙ e) ∙ p.leads))
    same_way_by first (d ∷ rest) way e leads far = absurd (far (ends.sooner first d rest way (sym e) leads))

    last_condition : (x : Symbolic) → ArrivesIn start ds p.earlier p.last x → condition_seen x ≡ condition_on start p.way
    last_condition x h =
        let far : length h.way.arrivals ≤ length p.earlier → ⊥ =
        (λ less. let e = ap length h.leads.arrivals in let l = length-append p.earlier (p.last ∷ h.leads.later) in omega (arith, less, e, l)) in
        let way : h.way ≡ p.way = same_way_by (reverse x.decisions) h.leads.begins.0 h.way h.leads.begins.1 h.leads.leads far in
        let choices : p.last.1.choices ≡ (progress_of p.way.left).choices =
        ap (λ (q : Progress LinearTerm). q.choices) ends.carries ∙ ap (λ (t : SymTree). (progress_of t).choices) (sym p.ended) in
        h.condition ∙ (λ i. condition_of start.most_choices (start.unknowns ++ choices i) (tests_on start (way i)))

-- ---- the answer

pub if_ok : {A E : Type 0} (P Q : A → Type 0) (r : Result A E) → ((a : A) → P a → Q a) → IfOk r P → IfOk r Q
if_ok P Q (Ok a) k h = k a h
if_ok P Q (Err e) k h = tt

pub for_any : {A E : Type 0} (Q : A → Type 0) (r : Result A E) → ((a : A) → Q a) → IfOk r Q
for_any Q (Ok a) k = k a
for_any Q (Err e) k = tt

module _ (net : Network) (i : Entry) (hops : ℕ) where
  pub one_start : (a b : SymStart) → IsExplored net i hops a → IsExplored net i hops b → a ≡ b
  one_start a b h k = ok_same (sym h ∙ k)

  -- where no port is arrived at, no path is cut
  pub none_without_ports : (ds : List Decision) (answer : LoopAnswer) → AnswersFor net i hops ds [] answer
  none_without_ports ds answer = λ start is p placed.
      absurd (not_nothing (map (λ (a : Arrival). a.0) p.earlier) p.last.0
      (sym placed ∙ (ap (map (λ (a : Arrival). a.0)) p.arrivals ∙ map-append (λ (a : Arrival). a.0) p.earlier (p.last ∷ []))))

  -- nor where the decisions lead nowhere
  pub none_nowhere : ((t : SymTree) (ds : List Decision) (index : ℕ) → IsFirstClosed t ds index → route t ds ≡ None)
      → (ds : List Decision) (places : List Place) (index : ℕ) → FollowsTo net i hops (λ start. IsFirstClosed start.tree ds index)
      → (answer : LoopAnswer) → AnswersFor net i hops ds places answer
  none_nowhere closed ds places index h answer = λ start is p placed.
      absurd (none_some (sym (closed start.tree ds index
      (subst (λ (s : SymStart). IsFirstClosed s.tree ds index) (one_start h.start start h.explored is) h.holds)) ∙ p.leads))

  pub fields_of_all : (port : Place) (ds : List Decision) (states : List Symbolic) → FollowsTo net i hops (λ start. ArrivesBy start port ds states) → HaveFields states
  fields_of_all port ds states h = record { fields = h.start.unknowns; all = all_from h.start ds port [] h.holds.way.arrivals states h.holds.visits }

  -- what is found in these states is found of the path
  pub found_in : EndsAtLastPort net i hops → (ds : List Decision) (places before : List Place) (port : Place) (states : List Symbolic) → places ≡ before ++ port ∷ []
      → FollowsTo net i hops (λ start. ArrivesBy start port ds states) → (answer : LoopAnswer)
      → ((c : SymCondition) (earlier : List Arrival) (last : Arrival) → ports_of earlier ≡ before → last.0 ≡ port → AreSeenTo port c earlier last states → IsAnswerOn c last earlier answer)
      → AnswersFor net i hops ds places answer
  found_in ends ds places before port states split h answer tells = λ start is p placed.
      let there : ArrivesBy start port ds states = subst (λ (s : SymStart). ArrivesBy s port ds states) (one_start h.start start h.explored is) h.holds in
      let way : there.way ≡ p.way = some_same (sym there.leads ∙ p.leads) in
      let visits : AreVisits carried_of (ArrivesIn start ds) port [] (p.earlier ++ p.last ∷ []) states =
      subst (λ (as' : List Arrival). AreVisits carried_of (ArrivesIn start ds) port [] as' states) (ap (λ (w : SymRoute). w.arrivals) way ∙ p.arrivals) there.visits in
      let ports = same_ends (ports_of p.earlier) before p.last.0 port
      (sym (map-append (λ (a : Arrival). a.0) p.earlier (p.last ∷ [])) ∙ (ap ports_of (sym p.arrivals) ∙ (placed ∙ split))) in
      tells (condition_on start p.way) p.earlier p.last ports.0 ports.1
      (seen_to start ds port (condition_on start p.way) [] p.earlier p.last states visits ports.1 (last_condition start ds p (ends start is ds p)))

-- ---- all states begin alike

alike : (fields : List ℕ) (x y : Symbolic) → IsFrom fields x → IsFrom fields y → AreOfOneStart x y
alike fields x y h k = record { unknowns = h.count ∙ sym k.count; fields = h.widths ∙ sym k.widths }

pub all_alike : (states visits : List Symbolic) (end' : Symbolic) → states ≡ visits ++ end' ∷ [] → HaveFields states → AllByRecursion (AreOfOneStart end') visits
all_alike states visits end' e h = each visits (subst (AllByRecursion (IsFrom h.fields)) e h.all)
  where
    last_from : (xs : List Symbolic) → AllByRecursion (IsFrom h.fields) (xs ++ end' ∷ []) → IsFrom h.fields end'
    last_from [] k = k.0
    last_from (x ∷ xs) k = last_from xs k.1

    each : (xs : List Symbolic) → AllByRecursion (IsFrom h.fields) (xs ++ end' ∷ []) → AllByRecursion (AreOfOneStart end') xs
    each [] k = tt
    each (x ∷ xs) k = (alike h.fields end' x (last_from xs k.1) k.0, each xs k.1)

-- ---- the states of one path

abbrev pub EndsIn : List Place → Place → List Symbolic → LoopAnswer → Type 0
EndsIn before port states answer =
    (c : SymCondition) (earlier : List Arrival) (last : Arrival) → ports_of earlier ≡ before → last.0 ≡ port → AreSeenTo port c earlier last states
    → IsAnswerOn c last earlier answer

abbrev pub Visits : List Place → Place → Symbolic → List Symbolic → LoopAnswer → Type 0
Visits before port final visits answer =
    (earlier : List Arrival) (end' : Arrival) → ports_of earlier ≡ before → end'.0 ≡ port → visit_of end'.1 ≡ held_of final → AreSeen port earlier visits
    → IsAnswerOn (condition_seen final) end' earlier answer

pub none_seen : (before : List Place) (port : Place) (states : List Symbolic) → states ≡ [] → (answer : LoopAnswer) → EndsIn before port states answer
none_seen before port states e answer = λ c earlier last ports at s. absurd (not_nothing s.visits s.final (sym e ∙ s.joined))

pub at_the_end : {E : Type 0} (before : List Place) (port : Place) (states visits : List Symbolic) (end' final : Symbolic) → states ≡ visits ++ end' ∷ [] → final ≡ end'
    → (r : Result LoopAnswer E) → IfOk r (Visits before port final visits) → IfOk r (EndsIn before port states)
at_the_end before port states visits end' final e final_is r h =
    if_ok (Visits before port final visits) (EndsIn before port states) r
    (λ answer found c earlier last ports at s.
    let ends = same_ends s.visits visits s.final end' (sym s.joined ∙ e) in
    subst (λ (d : SymCondition). IsAnswerOn d last earlier answer) (ap condition_seen (final_is ∙ sym ends.1) ∙ s.condition)
    (found earlier last ports at (sym s.holds ∙ ap held_of (ends.1 ∙ sym final_is)) (subst (AreSeen port earlier) ends.0 s.seen))) h
