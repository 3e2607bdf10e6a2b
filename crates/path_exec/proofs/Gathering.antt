-- The arrivals of a run at a port, one after another.
use Rattle.std.proofs.Common.{◌≡◌, ℕ, ◌+◌, ◌≤◌, inl, inr, List, [], ◌∷◌, ◌++◌, length, map, Some, refl, sym, ap, subst, ◌∙◌, append_assoc, length-append, arith}
use Rattle.lin_term.specs.Terms.{LinearTerm}
use Rattle.sefl_meaning.specs.declared.walk.Decision.{Decision}
use Rattle.sefl_meaning.specs.declared.walk.Place.{Place}
use Rattle.sefl_meaning.specs.Carried.{Carried}
use Rattle.sefl_meaning.specs.Routes.{route}
use Rattle.exact_records.specs.Records.{SymRoute, SymTree}
use Rattle.exact_records.specs.Points.{Point, arrivals_of, first_point}
use Rattle.exact_records.specs.Work.{at_last, begun_at, without_last}
use Rattle.exact_records.proofs.Arriving.{some_same}
use Rattle.exact_records.proofs.Lists.{append_nil, map_append}
use Rattle.path_exec.specs.declared.engine.Moved.{Moved}
use Rattle.path_exec.specs.declared.engine.Moved.TheVariants.{Arrived, Stopped}
use Rattle.path_exec.specs.declared.engine.Next.{Next}
use Rattle.path_exec.specs.declared.engine.Next.TheVariants.{AtEnd, AtNode}
use Rattle.path_exec.specs.Location.{Location, behind_last, point_at}
use Rattle.path_exec.specs.Views.{Views}
use Rattle.path_exec.specs.Moves.{IsMove, IsStop, Moves, Reaches}
use Rattle.path_exec.specs.Following.{IsTurned, StandsWith}
use Rattle.path_exec.specs.Visiting.{AreVisits, Arrival, ArrivesAt, ArrivesSo, IsNoted, LeadsBy, MakesAtMost, PassesAt, Visits}
use Rattle.path_exec.proofs.Ways.{IsOnWay, IsUnderWay, ends_way, first_placed, goes_way, node_still, over_still, starts_way, without_one}
use Rattle.path_exec.proofs.Spending.{last_same, not_snoc}
use Rattle.path_exec.proofs.Guiding.{arrived_by, start_stands}

abbrev pub ports_of : List Arrival → List Place
ports_of arrivals = map (λ (a : Arrival). a.0) arrivals

-- ---- lists of arrivals

module _ {P : Type 0} (carried : P → Carried LinearTerm) (Stands : List Arrival → Arrival → P → Type 0) (port : Place) where
  passed_one : (before : List Arrival) (a : Arrival) (us vs : List Arrival) (ps : List P) → AreVisits carried Stands port (before ++ a ∷ us) vs ps
      → AreVisits carried Stands port ((before ++ a ∷ []) ++ us) vs ps
  passed_one before a us vs ps k = subst (λ (ws : List Arrival). AreVisits carried Stands port ws vs ps) (sym (append_assoc before (a ∷ []) us)) k

  visits_append : (before us vs : List Arrival) (ps qs : List P) → AreVisits carried Stands port before us ps → AreVisits carried Stands port (before ++ us) vs qs
      → AreVisits carried Stands port before (us ++ vs) (ps ++ qs)
  visits_append before [] vs ps qs h k =
      subst (λ (zs : List P). AreVisits carried Stands port before vs (zs ++ qs)) (sym h)
      (subst (λ (ws : List Arrival). AreVisits carried Stands port ws vs qs) (append_nil before) k)
  visits_append before (a ∷ us) vs ps qs (inl h) k = inl (record {
    first = h.first;
    rest = h.rest ++ qs;
    is = ap (λ (zs : List P). zs ++ qs) h.is;
    at = h.at;
    carries = h.carries;
    stands = h.stands;
    others = visits_append (before ++ a ∷ []) us vs h.rest qs h.others (passed_one before a us vs qs k);
  })
  visits_append before (a ∷ us) vs ps qs (inr h) k = inr (h.0, visits_append (before ++ a ∷ []) us vs ps qs h.1 (passed_one before a us vs qs k))

  one_visit : (before : List Arrival) (a : Arrival) (p : P) → a.0 ≡ port → carried p ≡ a.1.state → Stands before a p → AreVisits carried Stands port before (a ∷ []) (p ∷ [])
  one_visit before a p at e stands = inl (record { first = p; rest = []; is = refl; at = at; carries = e; stands = stands; others = refl })

  no_visit : (before : List Arrival) (a : Arrival) → (a.0 ≡ port → ⊥) → AreVisits carried Stands port before (a ∷ []) []
  no_visit before a h = inr (h, refl)

-- the same arrivals behind others, where the places stand otherwise
module _ {P : Type 0} (carried : P → Carried LinearTerm) (Stands Others : List Arrival → Arrival → P → Type 0) (port : Place) (outer all : List Arrival)
    (f : (before later : List Arrival) (a : Arrival) (p : P) → all ≡ before ++ a ∷ later → Stands before a p → Others (outer ++ before) a p) where
  one_more : (before : List Arrival) (a : Arrival) (us : List Arrival) (ps : List P) → AreVisits carried Others port (outer ++ (before ++ a ∷ [])) us ps
      → AreVisits carried Others port ((outer ++ before) ++ a ∷ []) us ps
  one_more before a us ps v = subst (λ (ws : List Arrival). AreVisits carried Others port ws us ps) (sym (append_assoc outer before (a ∷ []))) v

  visits_behind : (before us : List Arrival) (ps : List P) → all ≡ before ++ us → AreVisits carried Stands port before us ps → AreVisits carried Others port (outer ++ before) us ps
  visits_behind before [] ps is h = h
  visits_behind before (a ∷ us) ps is (inl h) = inl (record {
    first = h.first;
    rest = h.rest;
    is = h.is;
    at = h.at;
    carries = h.carries;
    stands = f before us a h.first is h.stands;
    others = one_more before a us h.rest (visits_behind (before ++ a ∷ []) us h.rest (is ∙ sym (append_assoc before (a ∷ []) us)) h.others);
  })
  visits_behind before (a ∷ us) ps is (inr h) =
      inr (h.0, one_more before a us ps (visits_behind (before ++ a ∷ []) us ps (is ∙ sym (append_assoc before (a ∷ []) us)) h.1))

-- no port on the way
nothing_arrived : (xs : List Arrival) → ports_of xs ≡ [] → xs ≡ []
nothing_arrived [] e = refl
nothing_arrived (a ∷ xs) e = let bad : a.0 ∷ ports_of xs ≡ [] = e in cc

-- ---- the decisions that lead to an arrival

none_sooner : (t : SymTree) (count : ℕ) (ds : List Decision) → ds ≡ [] → MakesAtMost t count ds
none_sooner t count ds none = λ parent last way is leads. absurd (not_snoc parent last (sym is ∙ none))

one_sooner : (t : SymTree) (ds es : List Decision) (d : Decision) (way : SymRoute) → es ≡ ds ++ d ∷ [] → route t ds ≡ Some way → MakesAtMost t (length way.arrivals) es
one_sooner t ds es d way e k = λ parent last other is leads.
    let same : parent ≡ ds = sym (without_one parent last) ∙ (ap without_last (sym is ∙ e) ∙ without_one ds d) in
    let one : other ≡ way = some_same (sym leads ∙ (ap (route t) same ∙ k)) in
    let as_many : length other.arrivals ≡ length way.arrivals = ap (λ (w : SymRoute). length w.arrivals) one in
    omega (arith, as_many)

-- ---- the run to the next decision

module _ {P O N D T : Type 0} (x : Views P O N D T) (port : Place) where
  -- the arrivals that were passed, and the copies that were kept of them
  pub record HasPassed (first : Location) (begun : ℕ) (now : Location) (mid : ℕ) (more : List P) : Type 0 where
    pub passed : List Arrival
    pub is : arrivals_of (first.tree begun) ≡ passed ++ arrivals_of (now.tree mid)
    pub places : now.places ≡ first.places ++ ports_of passed
    pub visits : AreVisits x.carried_at (PassesAt x first) port [] passed more

  pub record IsGathering (first now : Location) (before after : ℕ) (old found : List P) : Type 0 where
    pub way : IsUnderWay x first now before after
    pub more : List P
    pub is : found ≡ old ++ more
    pub passed : (begun : ℕ) → HasPassed first begun now (begun + way.raised) more

  pub gathers_first : (first : Location) (before : ℕ) (old : List P) → IsGathering first first before before old old
  unfolding starts_way
  gathers_first first before old = record {
    way = starts_way x first before;
    more = [];
    is = sym (append_nil old);
    passed = λ begun. record {
      passed = [];
      is = let same : begun ≡ begun + 0 = omega arith in ap (λ (m : ℕ). arrivals_of (first.tree m)) same;
      places = sym (append_nil first.places);
      visits = refl;
    };
  }

  module _ (first now : Location) (begun mid count : ℕ) (place : P) (more : List P) (w : HasPassed first begun now mid more)
      (h : Reaches x.start (point_at mid now) (point_at count (x.place_at place)) (x.carried_at place)) where
    placed_on : (x.place_at place).places ≡ first.places ++ ports_of (w.passed ++ (h.port, h.progress) ∷ [])
    placed_on =
        h.places
        ∙ (ap (λ (ps : List Place). ps ++ h.port ∷ []) w.places
        ∙ (append_assoc first.places (ports_of w.passed) (h.port ∷ [])
        ∙ ap (λ (ps : List Place). first.places ++ ps) (sym (map_append (λ (a : Arrival). a.0) w.passed ((h.port, h.progress) ∷ [])))))

    passed_on : (kept : List P) → AreVisits x.carried_at (PassesAt x first) port w.passed ((h.port, h.progress) ∷ []) kept
        → HasPassed first begun (x.place_at place) count (more ++ kept)
    passed_on kept v = record {
      passed = w.passed ++ (h.port, h.progress) ∷ [];
      is = w.is
          ∙ (ap (λ (t : SymTree). w.passed ++ arrivals_of t) h.is ∙ sym (append_assoc w.passed ((h.port, h.progress) ∷ []) (arrivals_of ((x.place_at place).tree count))));
      places = placed_on;
      visits = visits_append x.carried_at (PassesAt x first) port [] w.passed ((h.port, h.progress) ∷ []) more kept w.visits v;
    }

    -- a copy of the place stands there
    passes_at : (copy : P) → x.place_at copy ≡ x.place_at place → IsOnWay (point_at begun first) (point_at mid now) → PassesAt x first w.passed (h.port, h.progress) copy
    passes_at copy same on = record {
      decisions = ap (λ (c : Location). c.decisions) same ∙ (h.goes.decisions ∙ on.decisions);
      tests = ap (λ (c : Location). c.tests) same ∙ (h.goes.tests ∙ on.tests);
      places = ap (λ (c : Location). c.places) same ∙ placed_on;
      widths = ap (λ (c : Location). c.widths) same ∙ h.widths;
    }

  -- a port was arrived at, and noted
  pub gathers_on : (first now : Location) (before mid after : ℕ) (moved : Moved P O N) (place : P) (old found new : List P) → IsGathering first now before mid old found → Moves x now mid after moved
      → moved ≡ Arrived place → IsNoted x port place found new → IsGathering first (x.place_at place) before after old new
  unfolding goes_way
  gathers_on first now before mid after moved place old found new w h is (inl n) = record {
    way = goes_way x first now before mid after moved place w.way h is;
    more = w.more ++ n.1.0 ∷ [];
    is = n.1.3 ∙ (ap (λ (ps : List P). ps ++ n.1.0 ∷ []) w.is ∙ append_assoc old w.more (n.1.0 ∷ []));
    passed = λ begun.
        let same : (begun + w.way.raised) + h.raised ≡ begun + (w.way.raised + h.raised) = omega arith in
        let reached = subst (IsMove x (point_at (begun + w.way.raised) now) ((begun + w.way.raised) + h.raised)) is (h.goes (begun + w.way.raised)) in
        let there : reached.port ≡ port = last_same now.places n.0.0 reached.port port (sym reached.places ∙ n.0.1) in
        let stands = passes_at first now begun (begun + w.way.raised) ((begun + w.way.raised) + h.raised) place w.more (w.passed begun) reached n.1.0 n.1.1 (w.way.way begun) in
        subst (λ (m : ℕ). HasPassed first begun (x.place_at place) m (w.more ++ n.1.0 ∷ [])) same
        (passed_on first now begun (begun + w.way.raised) ((begun + w.way.raised) + h.raised) place w.more (w.passed begun) reached (n.1.0 ∷ [])
        (one_visit x.carried_at (PassesAt x first) port (w.passed begun).passed (reached.port, reached.progress) n.1.0 there (n.1.2 ∙ sym reached.carries) stands));
  }
  gathers_on first now before mid after moved place old found new w h is (inr n) = record {
    way = goes_way x first now before mid after moved place w.way h is;
    more = w.more;
    is = n.1 ∙ w.is;
    passed = λ begun.
        let same : (begun + w.way.raised) + h.raised ≡ begun + (w.way.raised + h.raised) = omega arith in
        let reached = subst (IsMove x (point_at (begun + w.way.raised) now) ((begun + w.way.raised) + h.raised)) is (h.goes (begun + w.way.raised)) in
        let away : reached.port ≡ port → ⊥ = λ e. n.0 (now.places, reached.places ∙ ap (λ (p : Place). now.places ++ p ∷ []) e) in
        subst (λ (m : ℕ). HasPassed first begun (x.place_at place) m w.more) same
        (subst (HasPassed first begun (x.place_at place) ((begun + w.way.raised) + h.raised)) (append_nil w.more)
        (passed_on first now begun (begun + w.way.raised) ((begun + w.way.raised) + h.raised) place w.more (w.passed begun) reached []
        (no_visit x.carried_at (PassesAt x first) port (w.passed begun).passed (reached.port, reached.progress) away)));
  }

  stop_passes : (a : Point) (count : ℕ) (next : Next O N) → IsStop x a count next → arrivals_of a.tree ≡ []
  stop_passes a count (AtEnd o) h =
      nothing_arrived (arrivals_of a.tree) (ap (λ (t : SymTree). ports_of (arrivals_of t)) (sym h.0.tree) ∙ (over_still ((x.over_at o).tree count) h.1).places)
  stop_passes a count (AtNode node offer) h =
      nothing_arrived (arrivals_of a.tree) (ap (λ (t : SymTree). ports_of (arrivals_of t)) (sym h.0.tree) ∙ (node_still offer ((x.node_at node).tree count) h.1).places)

  pub gathers_done : (first now : Location) (before mid after : ℕ) (moved : Moved P O N) (next : Next O N) (old found : List P) → IsGathering first now before mid old found
      → Moves x now mid after moved → moved ≡ Stopped next → Visits x port first before after old found next
  gathers_done first now before mid after moved next old found w h is = record {
    advances = ends_way x first now before mid after moved next w.way h is;
    more = w.more;
    is = w.is;
    visits = λ begun.
        let p = w.passed begun in
        let none = stop_passes (point_at (begun + w.way.raised) now) ((begun + w.way.raised) + h.raised) next
        (subst (IsMove x (point_at (begun + w.way.raised) now) ((begun + w.way.raised) + h.raised)) is (h.goes (begun + w.way.raised))) in
        let all : p.passed ≡ arrivals_of (first.tree begun) = sym (p.is ∙ (ap (λ (us : List Arrival). p.passed ++ us) none ∙ append_nil p.passed)) in
        subst (λ (us : List Arrival). AreVisits x.carried_at (PassesAt x first) port [] us w.more) all p.visits;
  }

  -- ---- along all decisions

  -- what is passed behind these decisions is arrived at on their way
  module _ (h : Location) (way : SymRoute) (arrivals all : List Arrival) (led : route x.start.tree h.decisions ≡ Some way) (are : way.arrivals ≡ arrivals ++ all)
      (taken : way.tests ≡ h.tests) (placed : ports_of arrivals ≡ h.places) (few : MakesAtMost x.start.tree (length arrivals) h.decisions) where
    arrives_there : (before later : List Arrival) (a : Arrival) (p : P) → all ≡ before ++ a ∷ later → PassesAt x h before a p → ArrivesAt x h.decisions (arrivals ++ before) a p
    arrives_there before later a p is k = record {
      way = way;
      leads = record {
        begins = ([], append_nil (x.place_at p).decisions ∙ k.decisions);
        leads = ap (route x.start.tree) k.decisions ∙ led;
        later = later;
        arrivals = are ∙ (ap (λ (us : List Arrival). arrivals ++ us) is ∙ sym (append_assoc arrivals before (a ∷ later)));
        sooner = λ parent last other e l.
            let within : length other.arrivals ≤ length arrivals = few parent last other (sym k.decisions ∙ e) l in
            omega (arith, within, length-append arrivals before);
      };
      tests = k.tests ∙ sym taken;
      places = k.places
          ∙ (ap (λ (ps : List Place). ps ++ ports_of (before ++ a ∷ [])) (sym placed)
          ∙ (sym (map_append (λ (b : Arrival). b.0) arrivals (before ++ a ∷ [])) ∙ ap (λ (us : List Arrival). ports_of us) (sym (append_assoc arrivals before (a ∷ [])))));
      widths = k.widths;
    }

  pub leads_by : (h : Location) (before after : ℕ) (old new : List P) (next : Next O N) (arrivals : List Arrival) → StandsWith x.start arrivals (behind_last x.start h)
      → MakesAtMost x.start.tree (length arrivals) h.decisions → AreVisits x.carried_at (ArrivesAt x h.decisions) port [] arrivals old → Visits x port h before after old new next
      → LeadsBy x port h.decisions next new
  leads_by h before after old new next arrivals stands few v k =
      let there = arrived_by x h before after next stands.at k.advances in
      let led = there.leads.led in
      let passed = arrivals_of (behind_last x.start h).tree in
      let all : led.way.arrivals ≡ arrivals ++ passed = there.arrivals_are ∙ ap (λ (us : List Arrival). us ++ passed) stands.same in
      let placed : ports_of arrivals ≡ h.places = ap (λ (us : List Arrival). ports_of us) (sym stands.same) ∙ stands.at.places in
      let on = visits_behind x.carried_at (PassesAt x h) (ArrivesAt x h.decisions) port arrivals passed
      (arrives_there h led.way arrivals passed led.leads all there.tests_are placed few) [] passed k.more refl (k.visits (at_last (begun_at x.start.tree) h.decisions)) in
      record {
        there = there.leads;
        visits = subst (λ (us : List Arrival). AreVisits x.carried_at (ArrivesAt x h.decisions) port [] us new) (sym all)
            (subst (AreVisits x.carried_at (ArrivesAt x h.decisions) port [] (arrivals ++ passed)) (sym k.is)
            (visits_append x.carried_at (ArrivesAt x h.decisions) port [] arrivals passed old k.more v
            (subst (λ (us : List Arrival). AreVisits x.carried_at (ArrivesAt x h.decisions) port us passed k.more) (append_nil arrivals) on)));
      }

  pub leads_first : (place : P) (before after : ℕ) (old new : List P) (next : Next O N) → point_at 0 (x.place_at place) ≡ first_point x.start → old ≡ []
      → Visits x port (x.place_at place) before after old new next → LeadsBy x port [] next new
  leads_first place before after old new next e empty k =
      let none : (x.place_at place).decisions ≡ [] = ap (λ (a : Point). a.decisions) e in
      subst (λ (ds : List Decision). LeadsBy x port ds next new) none
      (leads_by (x.place_at place) before after old new next [] (subst (StandsWith x.start []) (sym (first_placed x place e)) (start_stands x.start))
      (none_sooner x.start.tree 0 (x.place_at place).decisions none) empty k)

  -- with one decision more
  arrives_longer : (ds es : List Decision) (d : Decision) → es ≡ ds ++ d ∷ [] → (before : List Arrival) (a : Arrival) (p : P) → ArrivesAt x ds before a p → ArrivesAt x es before a p
  arrives_longer ds es d e before a p k = record {
    way = k.way;
    leads = record {
      begins = (
        k.leads.begins.0 ++ d ∷ [],
        sym (append_assoc (x.place_at p).decisions k.leads.begins.0 (d ∷ [])) ∙ (ap (λ (zs : List Decision). zs ++ d ∷ []) k.leads.begins.1 ∙ sym e),
      );
      leads = k.leads.leads;
      later = k.leads.later;
      arrivals = k.leads.arrivals;
      sooner = k.leads.sooner;
    };
    tests = k.tests;
    places = k.places;
    widths = k.widths;
  }

  pub leads_on : (ds : List Decision) (d : Decision) (last next : Next O N) (place : P) (before after : ℕ) (old new : List P) → LeadsBy x port ds last old → IsTurned x last d place
      → Visits x port (x.place_at place) before after old new next → LeadsBy x port (ds ++ d ∷ []) next new
  leads_on ds d last next place before after old new so t k =
      let led = so.there.led in
      let es = (x.place_at place).decisions in
      let grown : es ≡ ds ++ d ∷ [] = t.decisions ∙ ap (λ (zs : List Decision). zs ++ d ∷ []) led.decisions in
      let kept = visits_behind x.carried_at (ArrivesAt x ds) (ArrivesAt x es) port [] led.way.arrivals (λ us later a p is h. arrives_longer ds es d grown us a p h)
      [] led.way.arrivals old refl so.visits in
      subst (λ (zs : List Decision). LeadsBy x port zs next new) grown
      (leads_by (x.place_at place) before after old new next led.at.arrivals (t.stands led.at)
      (subst (λ (us : List Arrival). MakesAtMost x.start.tree (length us) es) led.arrivals (one_sooner x.start.tree ds es d led.way grown led.leads))
      (subst (λ (us : List Arrival). AreVisits x.carried_at (ArrivesAt x es) port [] us old) led.arrivals kept) k)

  pub arrives_so : (ds es : List Decision) (next : Next O N) (places : List P) → ds ≡ es → LeadsBy x port ds next places → ArrivesSo x port es places
  arrives_so ds es next places e h = subst (λ (zs : List Decision). ArrivesSo x port zs places) e (record { way = h.there.led.way; leads = h.there.led.leads; visits = h.visits })
