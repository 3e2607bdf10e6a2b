-- Packets take the routes of what is explored, and records show their walks.
use Rattle.std.proofs.Common.{◌≡◌, ℕ, inl, inr, Bool, true, false, not, List, [], ◌∷◌, ◌++◌, map, reverse, refl, sym, ap, subst, ◌∙◌, Option, option_map, Result, Ok, Err}
use Rattle.std.specs.List.{AllByRecursion, list_all}
use Rattle.std.proofs.lemmas.List.{map-append, reverse-append}
use Rattle.sn_width.specs.declared.ids.NameId.{NameId}
use Rattle.sn_width.specs.declared.ids.NodeId.{NodeId}
use Rattle.sn_width.specs.declared.faults.LayoutFault.{LayoutFault}
use Rattle.lin_term.specs.Terms.{LinearTerm}
use Rattle.path_formula.specs.Formulas.{FormulaTree}
use Rattle.path_formula.specs.Solutions.{agrees}
use Rattle.path_cond.specs.Seen.{entry_holds, itself}
use Rattle.refutation_check.specs.declared.outcome.Verdict.{Verdict}
use Rattle.refutation_check.specs.declared.outcome.Verdict.TheVariants.{Sat, Undecided}
use Rattle.cell_stacks.specs.declared.cell.Cell.{Cell}
use Rattle.cell_stacks.specs.Cells.{bottom_up}
use Rattle.cell_stacks.specs.Outcome.{and_then, on_ok}
use Rattle.cell_stacks.specs.Valued.{cell_valued, valued}
use Rattle.metadata_scopes.specs.Scopes.{Metadata, meta_of}
use Rattle.sefl_meaning.specs.declared.walk.Decision.{Decision}
use Rattle.sefl_meaning.specs.declared.walk.End.{End}
use Rattle.sefl_meaning.specs.declared.walk.Place.{Place}
use Rattle.sefl_meaning.specs.Values.{numbers}
use Rattle.sefl_meaning.specs.Network.{Network, Entry}
use Rattle.sefl_meaning.specs.Carried.{Carried, carried_valued, scene_at}
use Rattle.sefl_meaning.specs.Courses.{Progress}
use Rattle.sefl_meaning.specs.Trees.{Tree, over, arrives, tests, splits}
use Rattle.sefl_meaning.specs.Walks.{Passage, Trail, shown}
use Rattle.sefl_meaning.specs.Taken.{walks_of}
use Rattle.sefl_meaning.specs.Valued.{copies_valued, progress_valued, tree_valued}
use Rattle.sefl_meaning.specs.Fields.{Fields, fields_of}
use Rattle.sefl_meaning.specs.Order.{BeginsWith, Has}
use Rattle.sefl_meaning.specs.Routes.{IsWay, Route, places_on, route, route_valued}
use Rattle.sefl_meaning.specs.Injected.{FitWidths, Starts, injected, passages_from, unknown_count, unknown_widths}
use Rattle.sefl_meaning.specs.Start.{Start, StartsAt, start_from, start_valued, tests_in, tree_from}
use Rattle.exact_records.specs.Below.{Facts, Meanings, formula_at, term_at}
use Rattle.exact_records.specs.Records.{HasMeaning, IsPath, Leads, RecordTree, SymRoute, SymStart, Takes, decisions_of, injection_tests, path, pruned, unexplored}
use Rattle.exact_records.specs.Exact.{AreExact, AreExactSoFar, AreExactUpTo, IsGood, IsNoOtherPath, IsShownOnce}
use Rattle.exact_records.specs.Packets.{AreExactFor, AreExactSoFarFor, AreExactUpToFor, HasPacket, HasWalk, IsAlong, IsExplored, IsNotTaken, IsShown, IsWalkOf, Shows, fields_at, fields_valued}
use Rattle.exact_records.specs.Laws.{ExactRecordsShowWalks, PacketsTakeRoutes, PassagesTakeRoutes, RecordsTellPackets}
use Rattle.exact_records.proofs.Lists.{all_both, all_weaker, both, left_of, pass_append, pass_first, pass_later, right_of}
use Rattle.exact_records.proofs.Ordered.{mapped_some}
use Rattle.exact_records.proofs.Arriving.{only_way}
use Rattle.exact_records.proofs.Shown.{shown_by}

-- ---- answers

abbrev or_else : {A : Type 0} → A → Result A LayoutFault → A
or_else default (Ok x) = x
or_else default (Err fault) = default

clash : {A : Type 0} (fault : LayoutFault) (x : A) (r : Result A LayoutFault) → r ≡ Err fault → r ≡ Ok x → ⊥
clash fault x r failed is = cc

no_error : {A C : Type 0} (fault : LayoutFault) (x : A) → Err fault ≡ Ok x → C
no_error fault x is = absurd (clash fault x (Err fault) refl is)

ok_same : {A : Type 0} (a b : A) (r : Result A LayoutFault) → r ≡ Ok a → r ≡ Ok b → a ≡ b
ok_same a b r h k = ap (or_else a) (sym h ∙ k)

-- ---- what is shown, of values of any kind

map_reverse : {X Y : Type 0} (f : X → Y) (xs : List X) → map f (reverse xs) ≡ reverse (map f xs)
map_reverse f [] = refl
map_reverse f (x ∷ xs) =
    ap (map f) (reverse-append (x ∷ []) xs) ∙ (map-append f (reverse xs) (x ∷ [])
    ∙ (ap (λ z. z ++ f x ∷ []) (map_reverse f xs) ∙ sym (reverse-append (f x ∷ []) (map f xs))))

module _ {V W : Type 0} (f : V → W) where
  heads_valued : {K : Type 0} (heads : List (K × List (Cell V)))
      → map (λ (head : K × List (Cell V)). (head.0, map (cell_valued f) head.1)) (map bottom_up heads) ≡ map bottom_up (valued f heads)
  heads_valued [] = refl
  heads_valued (head ∷ heads) = λ i. (head.0, map_reverse (cell_valued f) head.1 i) ∷ heads_valued heads i

  metas_valued : (metas : Metadata V)
      → map (λ (meta : Option NodeId × NameId × List (Cell V)). (meta.0, meta.1, map (cell_valued f) meta.2)) (map meta_of metas) ≡ map meta_of (valued f metas)
  metas_valued [] = refl
  metas_valued (meta ∷ metas) = λ i. (meta.0.0, meta.0.1, map_reverse (cell_valued f) meta.1 i) ∷ metas_valued metas i

  fields_commute : (s : Carried V) → fields_valued f (fields_of s) ≡ fields_of (carried_valued f s)
  fields_commute s = λ i. record {
    tags = (fields_of s).tags;
    heads = heads_valued s.layers.heads i;
    metas = metas_valued s.scopes i;
  }

-- ---- tests of a packet

agrees_same : (want truth : Bool) → truth ≡ want → agrees want truth ≡ true
agrees_same true truth e = e
agrees_same false truth e = ap not e

same_agrees : (want truth : Bool) → agrees want truth ≡ true → truth ≡ want
same_agrees true truth e = e
same_agrees false true e = sym e
same_agrees false false e = refl

module _ (v : List ℕ) where
  abbrev AllPass : List (FormulaTree × Bool) → Type 0
  AllPass es = list_all (entry_holds itself v) es ≡ true

  abbrev AllSame : List (FormulaTree × Bool) → Type 0
  AllSame es = AllByRecursion (λ (test : Bool × Bool). test.0 ≡ test.1) (map (λ (test : FormulaTree × Bool). (formula_at v test.0, test.1)) es)

  pass_same : (es : List (FormulaTree × Bool)) → AllSame es → AllPass es
  pass_same [] h = refl
  pass_same (e ∷ es) h =
      both (entry_holds itself v e) (list_all (entry_holds itself v) es) (agrees_same e.1 (formula_at v e.0) h.0) (pass_same es h.1)

  same_pass : (es : List (FormulaTree × Bool)) → AllPass es → AllSame es
  same_pass [] h = tt
  same_pass (e ∷ es) h = (
    same_agrees e.1 (formula_at v e.0) (left_of (entry_holds itself v e) (list_all (entry_holds itself v) es) h),
    same_pass es (right_of (entry_holds itself v e) (list_all (entry_holds itself v) es) h),
  )

  -- those of the injection
  pass_true : (fs : List FormulaTree) → AllByRecursion (λ truth. truth ≡ true) (map (formula_at v) fs) → AllPass (map (λ f. (f, true)) fs)
  pass_true [] h = refl
  pass_true (f ∷ fs) h =
      both (formula_at v f) (list_all (entry_holds itself v) (map (λ g. (g, true)) fs)) h.0 (pass_true fs h.1)

  true_pass : (fs : List FormulaTree) → AllPass (map (λ f. (f, true)) fs) → AllByRecursion (λ truth. truth ≡ true) (map (formula_at v) fs)
  true_pass [] h = tt
  true_pass (f ∷ fs) h = (
    left_of (formula_at v f) (list_all (entry_holds itself v) (map (λ g. (g, true)) fs)) h,
    true_pass fs (right_of (formula_at v f) (list_all (entry_holds itself v) (map (λ g. (g, true)) fs)) h),
  )

-- ---- ends of trees

module _ {V F W G : Type 0} (f : V → W) (g : F → G) where
  over_before : (t : Tree V F) (p : Progress W) (end' : End) → tree_valued f g t ≡ over p end' → (q : Progress V) × (t ≡ over q end') × (progress_valued f q ≡ p)
  over_before (over q e) p end' h = (q, (let same : e ≡ end' = cc in ap (over q) same), cc)
  over_before (arrives place q t) p end' h = let bad : arrives place (progress_valued f q) (tree_valued f g t) ≡ over p end' = h in cc
  over_before (tests asking q test held broken) p end' h =
      let bad : tests asking (progress_valued f q) (g test) (tree_valued f g held) (tree_valued f g broken) ≡ over p end' = h in cc
  over_before (splits q branches) p end' h = let bad : splits (progress_valued f q) (copies_valued f g branches) ≡ over p end' = h in cc

places_valued : {V W : Type 0} (f : V → W) (arrivals : List (Place × Progress V))
    → map (λ (at : Place × Progress V). at.0) arrivals
    ≡ map (λ (at : Place × Progress W). at.0) (map (λ (at : Place × Progress V). (at.0, progress_valued f at.1)) arrivals)
places_valued f [] = refl
places_valued f (at ∷ arrivals) = ap (λ places. at.0 ∷ places) (places_valued f arrivals)

over_same : {V F : Type 0} (t : Tree V F) (p q : Progress V) (e d : End) → t ≡ over p e → t ≡ over q d → (p ≡ q) × (e ≡ d)
over_same t p q e d h k = (cc, cc)

has_all : (P : Passage → Type 0) (ws : List Passage) (w : Passage) → AllByRecursion P ws → Has ws w → P w
has_all P [] w h k = absurd k
has_all P (u ∷ ws) w h (inl e) = subst P e h.0
has_all P (u ∷ ws) w h (inr k) = has_all P ws w h.1 k

-- ---- what a start is

module _ {V F : Type 0} (unknowns : List ℕ) (most : ℕ) (tree : Tree V F) where
  abbrev started : List F → Start V F
  started fs = record { unknowns = unknowns; tests = fs; tree = tree; most_choices = most }

  its_unknowns : (fs : Result (List F) LayoutFault) (start : Start V F) → on_ok started fs ≡ Ok start → start.unknowns ≡ unknowns
  its_unknowns (Err fault) start e = no_error fault start e
  its_unknowns (Ok fs) start e = ap (λ (r : Result (Start V F) LayoutFault). (or_else start r).unknowns) (sym e)

  its_tree : (fs : Result (List F) LayoutFault) (start : Start V F) → on_ok started fs ≡ Ok start → start.tree ≡ tree
  its_tree (Err fault) start e = no_error fault start e
  its_tree (Ok fs) start e = ap (λ (r : Result (Start V F) LayoutFault). (or_else start r).tree) (sym e)

-- ---- packets

module _ (means : Meanings) (net : Network) (i : Entry) (hops : ℕ) (start : SymStart) (explored : IsExplored net i hops start) (v : List ℕ) where
  abbrev at_packet : Start ℕ Bool
  at_packet = start_valued (term_at v) (formula_at v) start

  -- what the packet carries at its start
  record Begun : Type 0 where
    pub carried : Carried ℕ
    pub carries : injected (numbers v (unknown_count i)) (scene_at net i.node) i.own ≡ Ok carried
    pub starts : start_from (numbers v (unknown_count i)) net i hops carried ≡ Ok at_packet

  begun_by : (r : Result (Carried ℕ) LayoutFault) → injected (numbers v (unknown_count i)) (scene_at net i.node) i.own ≡ r
      → and_then r (start_from (numbers v (unknown_count i)) net i hops) ≡ Ok at_packet → Begun
  begun_by (Err fault) e k = no_error fault at_packet k
  begun_by (Ok c) e k = record { carried = c; carries = e; starts = k }

  begun : Begun
  begun = begun_by (injected (numbers v (unknown_count i)) (scene_at net i.node) i.own) refl
      (means.valued v net i hops ∙ ap (on_ok (start_valued (term_at v) (formula_at v))) explored)

  unknowns_are : start.unknowns ≡ unknown_widths i.own.fields
  unknowns_are =
      its_unknowns (unknown_widths i.own.fields) i.most_choices (tree_from (numbers v (unknown_count i)) net i hops begun.carried)
      (tests_in (numbers v (unknown_count i)) (scene_at net i.node) i.own.tests begun.carried) at_packet begun.starts

  tree_is : at_packet.tree ≡ tree_from (numbers v (unknown_count i)) net i hops begun.carried
  tree_is =
      its_tree (unknown_widths i.own.fields) i.most_choices (tree_from (numbers v (unknown_count i)) net i hops begun.carried)
      (tests_in (numbers v (unknown_count i)) (scene_at net i.node) i.own.tests begun.carried) at_packet begun.starts

  -- its walks are those of the tree at the packet
  walks_are : passages_from net i v hops begun.carried ≡ walks_of at_packet.tree
  walks_are = sym (means.walks net i v hops begun.carried) ∙ ap walks_of (sym tree_is)

  starts_alike : (c : Carried ℕ) → Starts net i v c → begun.carried ≡ c
  starts_alike c h = ok_same begun.carried c (injected (numbers v (unknown_count i)) (scene_at net i.node) i.own) begun.carries h.carries

  -- the tests of the injection are true there
  all_true : (c : Carried ℕ) → Starts net i v c → AllByRecursion (λ truth. truth ≡ true) at_packet.tests
  all_true c h =
      let at : StartsAt net i v hops c = (means.starts net i v hops c).0 h in
      let same : at.start ≡ at_packet =
      ok_same at.start at_packet (start_from (numbers v (unknown_count i)) net i hops c) at.starts
      (subst (λ d. start_from (numbers v (unknown_count i)) net i hops d ≡ Ok at_packet) (starts_alike c h) begun.starts) in
      subst (λ (st : Start ℕ Bool). AllByRecursion (λ truth. truth ≡ true) st.tests) same at.holds

  along : (u : Passage) → FitWidths start.unknowns v → AllByRecursion (λ truth. truth ≡ true) at_packet.tests → IsWay (route at_packet.tree) u → IsAlong start v u
  along u fits truths way =
      let m = mapped_some (route_valued (term_at v) (formula_at v)) (route start.tree u.decisions) way.way (sym (means.routes v start.tree u.decisions) ∙ way.found) in
      let left : tree_valued (term_at v) (formula_at v) m.0.left ≡ over u.progress u.end' = ap (λ (r : Route ℕ Bool). r.left) (sym m.2) ∙ way.left in
      let b = over_before (term_at v) (formula_at v) m.0.left u.progress u.end' left in
      let taken = subst (AllByRecursion (λ (test : Bool × Bool). test.0 ≡ test.1)) (ap (λ (r : Route ℕ Bool). r.tests) m.2) way.holds in
      record {
        takes = record {
          fits = fits;
          way = m.0;
          progress = b.0;
          end' = u.end';
          leads = m.1;
          ended = b.1;
          holds = pass_append (entry_holds itself v) (injection_tests start) m.0.tests (pass_true v start.tests truths) (pass_same v m.0.tests taken);
        };
        arrivals = ap (λ (r : Route ℕ Bool). r.arrivals) (sym m.2) ∙ way.arrivals;
        ended = refl;
        progress = b.2;
      }

  pub passage_along : (c : Carried ℕ) → Starts net i v c → (u : Passage) → Has (passages_from net i v hops c) u → IsAlong start v u
  passage_along c h u has =
      let fits : FitWidths start.unknowns v = subst (λ ws. FitWidths ws v) (sym unknowns_are) h.fits in
      let same : passages_from net i v hops c ≡ walks_of at_packet.tree = ap (passages_from net i v hops) (sym (starts_alike c h)) ∙ walks_are in
      let way = has_all (IsWay (route at_packet.tree)) (walks_of at_packet.tree) u (means.ways at_packet.tree) (subst (λ ws. Has ws u) same has) in
      along u fits (all_true c h) way

  -- a walk is shown of a passage
  pub walk_along : (w : Trail) → IsWalkOf net i hops v w → (u : Passage) × (shown u ≡ w) × IsAlong start v u
  walk_along w walk =
      let p = (means.shown_of (passages_from net i v hops walk.0) w).0 walk.2 in
      (p.0, p.2, passage_along walk.0 walk.1 p.0 p.1)

  pub walk_takes : (w : Trail) → IsWalkOf net i hops v w → Takes start v w.decisions
  walk_takes w walk =
      let a = walk_along w walk in
      subst (λ (x : Trail). Takes start v x.decisions) a.1 a.2.takes

  pub takes_walk : (ds : List Decision) → Takes start v ds → HasWalk net i hops v ds
  takes_walk ds t =
      let u : Passage = record {
        decisions = ds;
        arrivals = map (λ a. (a.0, progress_valued (term_at v) a.1)) t.way.arrivals;
        end' = t.end';
        progress = progress_valued (term_at v) t.progress;
      } in
      let way : IsWay (route at_packet.tree) u = record {
        way = route_valued (term_at v) (formula_at v) t.way;
        found = means.routes v start.tree ds ∙ ap (option_map (route_valued (term_at v) (formula_at v))) t.leads;
        arrivals = refl;
        holds = same_pass v t.way.tests (pass_later (entry_holds itself v) (injection_tests start) t.way.tests t.holds);
        left = ap (tree_valued (term_at v) (formula_at v)) t.ended;
      } in
      let has : Has (passages_from net i v hops begun.carried) u = subst (λ ws. Has ws u) (sym walks_are) (means.to_walk at_packet.tree u way) in
      let starts : Starts net i v begun.carried = (means.starts net i v hops begun.carried).1 (record {
        fits = subst (λ ws. FitWidths ws v) unknowns_are t.fits;
        carries = begun.carries;
        start = at_packet;
        starts = begun.starts;
        holds = true_pass v start.tests (pass_first (entry_holds itself v) (injection_tests start) t.way.tests t.holds);
      }) in
      (shown u, (begun.carried, starts, (means.shown_of (passages_from net i v hops begun.carried) (shown u)).1 (u, has, refl)), refl)

-- ---- records

module _ (facts : Facts) (means : Meanings) (net : Network) (i : Entry) (hops : ℕ) (start : SymStart) (explored : IsExplored net i hops start) where
  path_shows : (v : List ℕ) (u : Passage) → IsAlong start v u → (x : RecordTree) → HasMeaning start x → IsNoOtherPath u.decisions x → Shows v (shown u) x
  path_shows v u a (path es places end' fields verdict) h same =
      let ways : h.way ≡ a.takes.way = only_way start u.decisions h.way a.takes.way (subst (λ zs. Leads start zs h.way) same h.leads) a.takes.leads in
      let ends = over_same a.takes.way.left h.progress a.takes.progress end' a.takes.end' (ap (λ (r : SymRoute). r.left) (sym ways) ∙ h.ended) a.takes.ended in (
        same,
        sym h.places_are ∙ (ap places_on ways ∙ (places_valued (term_at v) a.takes.way.arrivals ∙ ap (map (λ (at : Place × Progress ℕ). at.0)) a.arrivals)),
        ends.1 ∙ a.ended,
        ap (fields_at v) (sym h.fields_are) ∙ (fields_commute (term_at v) h.progress.state
            ∙ (ap (λ (p : Progress LinearTerm). fields_of (carried_valued (term_at v) p.state)) ends.0 ∙ ap (λ (p : Progress ℕ). fields_of p.state) a.progress)),
      )
  path_shows v u a (pruned es before refutation) h same = absurd same
  path_shows v u a (unexplored es) h same = tt

  shows : (v : List ℕ) (w : Trail) (rs : List RecordTree) → IsWalkOf net i hops v w → AllByRecursion (IsGood start) rs → IsShownOnce w.decisions rs → IsShown v w rs
  shows v w rs walk good once =
      let a = walk_along means net i hops start explored v w walk in
      record {
        once = once.once;
        shown = all_both _ _ _ rs
            (λ x (g : IsGood start x) (s : BeginsWith (decisions_of x) w.decisions → IsNoOtherPath w.decisions x) begins.
            subst (λ (t : Trail). Shows v t x) a.1 (path_shows v a.0 a.2 x g.meaning (subst (λ (t : Trail). IsNoOtherPath t.decisions x) (sym a.1) (s begins)))) good once.shown;
      }

  path_has_packet : (ds : List Decision) (places : List Place) (end' : End) (fields : Fields LinearTerm) (verdict : Verdict)
      → IsPath start ds places end' fields verdict → HasPacket net i hops (path ds places end' fields verdict)
  path_has_packet ds places end' fields (Sat values) h = takes_walk means net i hops start explored values ds h.verdict_may
  path_has_packet ds places end' fields (Undecided cause) h = tt

  has_packet : (x : RecordTree) → HasMeaning start x → HasPacket net i hops x
  has_packet (path ds places end' fields verdict) h = path_has_packet ds places end' fields verdict h
  has_packet (pruned ds before refutation) h = tt
  has_packet (unexplored ds) h = tt

  not_taken : (x : RecordTree) → HasMeaning start x → IsNotTaken net i hops x
  not_taken (path ds places end' fields verdict) h = tt
  not_taken (pruned ds before refutation) h = λ v w walk begins.
      shown_by facts start v w.decisions (walk_takes means net i hops start explored v w walk) (pruned ds before refutation) h begins
  not_taken (unexplored ds) h = tt

  all_packets : (rs : List RecordTree) → AllByRecursion (IsGood start) rs → AllByRecursion (HasPacket net i hops) rs
  all_packets rs good = all_weaker _ _ rs (λ x (g : IsGood start x). has_packet x g.meaning) good

  none_taken : (rs : List RecordTree) → AllByRecursion (IsGood start) rs → AllByRecursion (IsNotTaken net i hops) rs
  none_taken rs good = all_weaker _ _ rs (λ x (g : IsGood start x). not_taken x g.meaning) good

module _ (means : Meanings) (net : Network) (i : Entry) (hops : ℕ) where
  pub packets_take : PacketsTakeRoutes net i hops
  packets_take start explored v ds = (
    takes_walk means net i hops start explored v ds,
    λ h. subst (Takes start v) h.2 (walk_takes means net i hops start explored v h.0 h.1),
  )

  pub passages_take : PassagesTakeRoutes net i hops
  passages_take start explored v c h u has = passage_along means net i hops start explored v c h u has

module _ (facts : Facts) (means : Meanings) (net : Network) (i : Entry) (hops : ℕ) where
  pub records_tell : RecordsTellPackets net i hops
  records_tell start explored x h = (has_packet facts means net i hops start explored x h, not_taken facts means net i hops start explored x h)

  all_exact : (start : SymStart) (limit : ℕ) (rs : List RecordTree) → IsExplored net i hops start → AreExact start limit rs → AreExactFor net i hops limit rs
  all_exact start limit rs explored h = record {
    start = start;
    explored = explored;
    exact = h;
    walks = λ v w walk.
        shows facts means net i hops start explored v w rs walk h.good (h.once v w.decisions (walk_takes means net i hops start explored v w walk));
    packets = all_packets facts means net i hops start explored rs h.good;
    refuted = none_taken facts means net i hops start explored rs h.good;
  }

  exact_up_to : (start : SymStart) (limit : ℕ) (done : List RecordTree) (last : RecordTree) → IsExplored net i hops start
      → AreExactUpTo start limit done last → AreExactUpToFor net i hops limit done last
  exact_up_to start limit done last explored h = record {
    start = start;
    explored = explored;
    exact = h;
    walks = λ v w walk within.
        shows facts means net i hops start explored v w (done ++ last ∷ []) walk h.good
        (h.once v w.decisions (walk_takes means net i hops start explored v w walk) within);
    packets = all_packets facts means net i hops start explored (done ++ last ∷ []) h.good;
    refuted = none_taken facts means net i hops start explored (done ++ last ∷ []) h.good;
  }

  exact_so_far : (start : SymStart) (limit : ℕ) (rs : List RecordTree) → IsExplored net i hops start → AreExactSoFar start limit rs
      → AreExactSoFarFor net i hops limit rs
  exact_so_far start limit rs explored h = record {
    is = elim h.is [
      | inl e ↦ inl e
      | inr k ↦ inr (k.0, k.1, k.2, exact_up_to start limit k.0 k.1 explored k.3)
    ];
  }

  pub show_walks : ExactRecordsShowWalks net i hops
  show_walks = record { exact = all_exact; up_to = exact_up_to; so_far = exact_so_far }
