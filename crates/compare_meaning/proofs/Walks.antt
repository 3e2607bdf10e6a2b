-- Delivered paths, and the delivered walks of packets.
use Rattle.std.proofs.Common.{◌≡◌, ℕ, suc, ◌+◌, inl, inr, List, [], ◌∷◌, ◌++◌, map, refl, sym, ap, subst, ◌∙◌, Option, Some, None, Result, Ok, Err, slice_get, arith}
use Rattle.std.specs.List.{AllByRecursion}
use Rattle.sn_width.specs.declared.faults.LayoutFault.{LayoutFault}
use Rattle.lin_term.specs.Terms.{LinearTerm, value_at}
use Rattle.refutation_check.specs.declared.outcome.Verdict.{Verdict}
use Rattle.cell_stacks.specs.Outcome.{and_then, on_ok}
use Rattle.cell_stacks.specs.Valued.{cell_valued}
use Rattle.sefl_meaning.specs.declared.walk.Decision.{Decision}
use Rattle.sefl_meaning.specs.declared.walk.End.{End}
use Rattle.sefl_meaning.specs.declared.walk.End.TheVariants.{Stopped, Delivered, Failed, Cut}
use Rattle.sefl_meaning.specs.declared.walk.Place.{Place}
use Rattle.sefl_meaning.specs.Carried.{Carried, scene_at}
use Rattle.sefl_meaning.specs.Fields.{Fields, fields_of}
use Rattle.sefl_meaning.specs.Injected.{FitWidths, injected, unknown_count, unknown_widths}
use Rattle.sefl_meaning.specs.Network.{Network, Entry}
use Rattle.sefl_meaning.specs.Order.{BeginsWith, Has}
use Rattle.sefl_meaning.specs.Start.{Start, progress_of, start_from, start_of, tests_in, tree_from}
use Rattle.sefl_meaning.specs.Values.{Values}
use Rattle.sefl_meaning.specs.Walks.{Trail}
use Rattle.term_values.specs.TermValues.{terms}
use Rattle.exact_records.specs.Exact.{AreExact, IsGood, SomeOne}
use Rattle.exact_records.specs.Packets.{HasWalk, IsExplored, IsWalkOf, Shows, fields_at}
use Rattle.exact_records.specs.Records.{IsPath, RecordTree, Satisfy, SymStart, Takes, condition_on, decisions_of, path, pruned, unexplored}
use Rattle.exact_records.specs.Whole.{IsPathOf}
use Rattle.compare_meaning.specs.Below.{Below}
use Rattle.compare_meaning.specs.Outputs.{Heads, Output, exit_of, output_of}
use Rattle.compare_meaning.specs.Paths.{DeliveredPath, Half, IsWhole, condition_along, condition_by, delivered, delivered_from, if_delivered, paths_of, with_one}
use Rattle.compare_meaning.proofs.Lists.{all_at, append_nil, one_some}

-- what header cells are at a packet
abbrev pub heads_at : List ℕ → Heads LinearTerm → Heads ℕ
heads_at v heads = map (λ head. (head.0, map (cell_valued (λ t. value_at t v)) head.1)) heads

-- ---- the unknown fields of a start

abbrev or_else : {A : Type 0} → A → Result A LayoutFault → A
or_else default (Ok x) = x
or_else default (Err fault) = default

clash : {A : Type 0} (fault : LayoutFault) (x : A) (r : Result A LayoutFault) → r ≡ Err fault → r ≡ Ok x → ⊥
clash fault x r failed is = cc

no_error : {A C : Type 0} (fault : LayoutFault) (x : A) → Err fault ≡ Ok x → C
no_error fault x is = absurd (clash fault x (Err fault) refl is)

module _ {V F : Type 0} (o : Values V F) (net : Network) (i : Entry) (hops : ℕ) (start : Start V F) where
  abbrev started : Carried V → List F → Start V F
  started c fs = record { unknowns = unknown_widths i.own.fields; tests = fs; tree = tree_from o net i hops c; most_choices = i.most_choices }

  by_tests : (c : Carried V) (r : Result (List F) LayoutFault) → on_ok (started c) r ≡ Ok start → start.unknowns ≡ unknown_widths i.own.fields
  by_tests c (Err fault) e = no_error fault start e
  by_tests c (Ok fs) e = ap (λ (r : Result (Start V F) LayoutFault). (or_else start r).unknowns) (sym e)

  by_state : (r : Result (Carried V) LayoutFault) → and_then r (start_from o net i hops) ≡ Ok start → start.unknowns ≡ unknown_widths i.own.fields
  by_state (Err fault) e = no_error fault start e
  by_state (Ok c) e = by_tests c (tests_in o (scene_at net i.node) i.own.tests c) e

  pub its_unknowns : start_of o net i hops ≡ Ok start → start.unknowns ≡ unknown_widths i.own.fields
  its_unknowns e = by_state (injected o (scene_at net i.node) i.own) e

-- ---- paths and walks

-- the path of a packet's delivered walk
pub record TakenPath (v : List ℕ) (seen : Output) (ps : List DeliveredPath) : Type 0 where
  pub path' : DeliveredPath
  pub among : Has ps path'
  pub holds : Satisfy v path'.condition
  pub exit : path'.exit ≡ seen.exit
  pub heads : heads_at v path'.heads ≡ seen.heads

later_taken : (v : List ℕ) (seen : Output) (o : Option DeliveredPath) (ps : List DeliveredPath) → TakenPath v seen ps → TakenPath v seen (with_one o ps)
later_taken v seen None ps t = t
later_taken v seen (Some p) ps t = record { path' = t.path'; among = inr t.among; holds = t.holds; exit = t.exit; heads = t.heads }

abbrev made : Network → SymStart → ℕ → List Decision → List Place → Fields LinearTerm → DeliveredPath
made net start n ds places fields = record { number = n; exit = exit_of net places; heads = fields.heads; condition = condition_along start ds }

module _ (below : Below) (hops : ℕ) (s : Half) (whole : IsWhole hops s) where
  pub explored : IsExplored s.net s.entry hops s.start
  explored = subst (IsExplored s.net s.entry hops) whole.start whole.exact.explored

  exact : AreExact s.start whole.limit s.records
  exact = subst (λ start. AreExact start whole.limit s.records) whole.start whole.exact.exact

  pub unknowns_are : s.start.unknowns ≡ unknown_widths s.entry.own.fields
  unknowns_are = its_unknowns (terms (unknown_count s.entry)) s.net s.entry hops s.start explored

  -- ---- from a walk to its path

  walk_holds : (v : List ℕ) (w : Trail) → IsWalkOf s.net s.entry hops v w → Satisfy v (condition_along s.start w.decisions)
  walk_holds v w walk =
      let t : Takes s.start v w.decisions = (below.takes s.net s.entry hops s.start explored v w.decisions).1 (w, walk, refl) in
      subst (Satisfy v) (ap (condition_by s.start) (sym t.leads)) t.holds

  taken_by : (v : List ℕ) (w : Trail) → IsWalkOf s.net s.entry hops v w → (n : ℕ) (ds : List Decision) (places : List Place) (end' : End) (fields : Fields LinearTerm) (ps : List DeliveredPath)
      → end' ≡ Delivered → ds ≡ w.decisions → places ≡ w.places → fields_at v fields ≡ fields_of w.state
      → TakenPath v (output_of s.net w) (with_one (if_delivered end' (made s.net s.start n ds places fields)) ps)
  taken_by v w walk n ds places Delivered fields ps e d p f = record {
    path' = made s.net s.start n ds places fields;
    among = inl refl;
    holds = subst (λ es. Satisfy v (condition_along s.start es)) (sym d) (walk_holds v w walk);
    exit = ap (exit_of s.net) p;
    heads = ap (λ (x : Fields ℕ). x.heads) f;
  }
  taken_by v w walk n ds places Stopped fields ps e d p f = let bad : Stopped ≡ Delivered = e in absurd (cc)
  taken_by v w walk n ds places (Failed failure site) fields ps e d p f = let bad : Failed failure site ≡ Delivered = e in absurd (cc)
  taken_by v w walk n ds places Cut fields ps e d p f = let bad : Cut ≡ Delivered = e in absurd (cc)

  taken_here : (v : List ℕ) (w : Trail) → IsWalkOf s.net s.entry hops v w → w.end' ≡ Delivered → (n : ℕ) (x : RecordTree) (ps : List DeliveredPath) → IsPathOf v w x
      → TakenPath v (output_of s.net w) (with_one (delivered s.net s.start n x) ps)
  taken_here v w walk ended n (path ds places end' fields verdict) ps h =
      taken_by v w walk n ds places end' fields ps (h.2 ∙ ended) h.0 h.1 h.3
  taken_here v w walk ended n (pruned ds before refutation) ps h = absurd h
  taken_here v w walk ended n (unexplored ds) ps h = absurd h

  taken_from : (v : List ℕ) (w : Trail) → IsWalkOf s.net s.entry hops v w → w.end' ≡ Delivered → (n : ℕ) (rs : List RecordTree) → SomeOne (IsPathOf v w) rs
      → TakenPath v (output_of s.net w) (delivered_from s.net s.start n rs)
  taken_from v w walk ended n [] h = absurd h
  taken_from v w walk ended n (x ∷ xs) (inl h) = taken_here v w walk ended n x (delivered_from s.net s.start (suc n) xs) h
  taken_from v w walk ended n (x ∷ xs) (inr h) =
      later_taken v (output_of s.net w) (delivered s.net s.start n x) (delivered_from s.net s.start (suc n) xs) (taken_from v w walk ended (suc n) xs h)

  -- each delivered walk goes along a delivered path
  pub walk_path : (v : List ℕ) (w : Trail) → IsWalkOf s.net s.entry hops v w → w.end' ≡ Delivered → TakenPath v (output_of s.net w) (paths_of s)
  walk_path v w walk ended =
      taken_from v w walk ended 0 s.records
      (one_some (IsPathOf v w) s.records (below.one_path s.net s.entry hops whole.limit s.records whole.exact whole.tried v w walk))

  -- ---- from a path to its walks

  -- the record of a delivered path
  pub record OwnPath (p : DeliveredPath) (n : ℕ) (rs : List RecordTree) : Type 0 where
    pub decisions : List Decision
    pub places : List Place
    pub fields : Fields LinearTerm
    pub verdict : Verdict
    pub place : ℕ
    pub at : slice_get rs place ≡ Some (path decisions places Delivered fields verdict)
    pub is : made s.net s.start (n + place) decisions places fields ≡ p
    pub own : IsPath s.start decisions places Delivered fields verdict

  deeper : (p : DeliveredPath) (n : ℕ) (x : RecordTree) (rs : List RecordTree) → OwnPath p (suc n) rs → OwnPath p n (x ∷ rs)
  deeper p n x rs h = record {
    decisions = h.decisions;
    places = h.places;
    fields = h.fields;
    verdict = h.verdict;
    place = suc h.place;
    at = h.at;
    is = ap (λ k. made s.net s.start k h.decisions h.places h.fields) (omega arith) ∙ h.is;
    own = h.own;
  }

  own_from : (p : DeliveredPath) (n : ℕ) (rs : List RecordTree) → AllByRecursion (IsGood s.start) rs → Has (delivered_from s.net s.start n rs) p → OwnPath p n rs
  own_from p n [] good has = absurd has
  own_from p n (path ds places Delivered fields verdict ∷ xs) good (inl e) = record {
    decisions = ds;
    places = places;
    fields = fields;
    verdict = verdict;
    place = 0;
    at = refl;
    is = ap (λ k. made s.net s.start k ds places fields) (omega arith) ∙ e;
    own = good.0.meaning;
  }
  own_from p n (path ds places Delivered fields verdict ∷ xs) good (inr has) =
      deeper p n (path ds places Delivered fields verdict) xs (own_from p (suc n) xs good.1 has)
  own_from p n (path ds places Stopped fields verdict ∷ xs) good has = deeper p n (path ds places Stopped fields verdict) xs (own_from p (suc n) xs good.1 has)
  own_from p n (path ds places (Failed failure site) fields verdict ∷ xs) good has =
      deeper p n (path ds places (Failed failure site) fields verdict) xs (own_from p (suc n) xs good.1 has)
  own_from p n (path ds places Cut fields verdict ∷ xs) good has = deeper p n (path ds places Cut fields verdict) xs (own_from p (suc n) xs good.1 has)
  own_from p n (pruned ds before refutation ∷ xs) good has = deeper p n (pruned ds before refutation) xs (own_from p (suc n) xs good.1 has)
  own_from p n (unexplored ds ∷ xs) good has = deeper p n (unexplored ds) xs (own_from p (suc n) xs good.1 has)

  pub own_path : (p : DeliveredPath) → Has (paths_of s) p → OwnPath p 0 s.records
  own_path p has = own_from p 0 s.records exact.good has

  its_condition : (p : DeliveredPath) (h : OwnPath p 0 s.records) → p.condition ≡ condition_on s.start h.own.way
  its_condition p h = ap (λ (q : DeliveredPath). q.condition) (sym h.is) ∙ ap (condition_by s.start) h.own.leads

  -- the symbols of a path are the unknown fields, and others behind them
  pub path_widths : (p : DeliveredPath) → Has (paths_of s) p → (more : List ℕ) × (p.condition.widths ≡ s.start.unknowns ++ more)
  path_widths p has =
      let h = own_path p has in
      ((progress_of h.own.way.left).choices, ap (λ c. c.widths) (its_condition p h))

  -- a walk along a delivered path
  pub record PathWalk (v : List ℕ) (p : DeliveredPath) : Type 0 where
    pub walk : Trail
    pub is : IsWalkOf s.net s.entry hops v walk
    pub ended : walk.end' ≡ Delivered
    pub exit : exit_of s.net walk.places ≡ p.exit
    pub heads : (fields_of walk.state).heads ≡ heads_at v p.heads
    pub shower : RecordTree
    pub at : slice_get s.records p.number ≡ Some shower
    pub decisions : walk.decisions ≡ decisions_of shower

  -- a packet that makes the condition of a delivered path true has a walk along it
  pub path_walk : (v : List ℕ) (p : DeliveredPath) → Has (paths_of s) p → FitWidths s.start.unknowns v → Satisfy v p.condition → PathWalk v p
  path_walk v p has fits holds =
      let h = own_path p has in
      let t : Takes s.start v h.decisions = record {
        fits = fits;
        way = h.own.way;
        progress = h.own.progress;
        end' = Delivered;
        leads = h.own.leads;
        ended = h.own.ended;
        holds = subst (Satisfy v) (its_condition p h) holds;
      } in
      let w : HasWalk s.net s.entry hops v h.decisions = (below.takes s.net s.entry hops s.start explored v h.decisions).0 t in
      let x : RecordTree = path h.decisions h.places Delivered h.fields h.verdict in
      let begins : BeginsWith h.decisions (w.0).decisions = ([], append_nil h.decisions ∙ sym w.2) in
      let shows : Shows v w.0 x = all_at _ s.records h.place x (whole.exact.walks v w.0 w.1).shown h.at begins in
      let number : h.place ≡ p.number = omega arith ∙ ap (λ (q : DeliveredPath). q.number) h.is in
      record {
        walk = w.0;
        is = w.1;
        ended = sym shows.2;
        exit = ap (exit_of s.net) (sym shows.1) ∙ ap (λ (q : DeliveredPath). q.exit) h.is;
        heads = ap (λ (f : Fields ℕ). f.heads) (sym shows.3) ∙ ap (λ (q : DeliveredPath). heads_at v q.heads) h.is;
        shower = x;
        at = ap (slice_get s.records) (sym number) ∙ h.at;
        decisions = w.2;
      }
