-- Chains of records show the walks of packets.
use Rattle.std.proofs.Common.{◌≡◌, ◌∙◌, ◌↔◌, ℕ, inl, inr, Bool, true, false, append_assoc, List, [], ◌∷◌, ◌++◌, map, reverse, refl, sym, ap, subst, Option, None, Some, option_map}
use Rattle.std.proofs.lemmas.List.{map-append, reverse-append}
use Rattle.std.specs.List.{AllByRecursion}
use Rattle.sn_width.specs.declared.ids.NameId.{NameId}
use Rattle.sn_width.specs.declared.ids.NodeId.{NodeId}
use Rattle.lin_term.specs.Terms.{LinearTerm}
use Rattle.path_formula.specs.Formulas.{FormulaTree}
use Rattle.refutation_check.specs.declared.outcome.Verdict.{Verdict}
use Rattle.refutation_check.specs.declared.steps.Refute.{Refute}
use Rattle.cell_stacks.specs.declared.cell.Cell.{Cell}
use Rattle.cell_stacks.specs.Cells.{bottom_up}
use Rattle.cell_stacks.specs.Valued.{cell_valued, valued}
use Rattle.metadata_scopes.specs.Scopes.{Metadata, meta_of}
use Rattle.sefl_meaning.specs.declared.walk.Decision.{Decision}
use Rattle.sefl_meaning.specs.declared.walk.End.{End}
use Rattle.sefl_meaning.specs.declared.walk.Place.{Place}
use Rattle.sefl_meaning.specs.Carried.{Carried, carried_valued}
use Rattle.sefl_meaning.specs.Courses.{Asking, Progress}
use Rattle.sefl_meaning.specs.Fields.{Fields, fields_of}
use Rattle.sefl_meaning.specs.Injected.{passages_from}
use Rattle.sefl_meaning.specs.Network.{Network, Entry}
use Rattle.sefl_meaning.specs.Order.{BeginsWith, Has, Parts}
use Rattle.sefl_meaning.specs.Routes.{IsOpen, behind, offers, places_on, route}
use Rattle.sefl_meaning.specs.Taken.{decision_at}
use Rattle.sefl_meaning.specs.Trees.{Tree, over, tests}
use Rattle.sefl_meaning.specs.Valued.{progress_valued}
use Rattle.sefl_meaning.specs.Walks.{Passage, Trail, shown}
use Rattle.exact_records.specs.Exact.{ExactlyOne, IsTried, RecordsAscend}
use Rattle.exact_records.specs.Laws.{PassagesTakeRoutes, RecordsTellPackets}
use Rattle.exact_records.specs.Packets.{IsAlong, IsNotTaken, IsWalkOf, fields_at, fields_valued}
use Rattle.exact_records.specs.Records.{HasMeaning, IsPath, IsPruned, Leads, RecordTree, SymRoute, SymStart, SymTree, Takes, decisions_of, path, pruned, unexplored}
use Rattle.exact_records.specs.Whole.{IsPathOf}
use Rattle.exact_records.specs.Below.{term_at}
use Rattle.exact_records.proofs.Arriving.{IsSomeWay, always_way, only_way}
use Rattle.exact_records.proofs.Begins.{parts_apart}
use Rattle.exact_records.proofs.Ordered.{only_offered}
use Rattle.exact_records.proofs.Lists.{all_weaker, append_nil, joined_empty, last_of, snoc_same}
use Rattle.one_list.proofs.Comparing.{Meets}
use Rattle.one_list.proofs.Members.{all_has, reached}
use Rattle.whole_checks.specs.Chains.{IsChain}
use Rattle.whole_checks.specs.Walks.{ChainsShowWalks}
use Rattle.whole_checks.proofs.Chained.{chain_ascends, chain_begun, chain_has_some, chain_tried}

-- ---- what is carried, of values of any kind

map_reverse : {X Y : Type 0} (f : X → Y) (xs : List X) → map f (reverse xs) ≡ reverse (map f xs)
map_reverse f [] = refl
map_reverse f (x ∷ xs) =
    ap (map f) (reverse-append (x ∷ []) xs) ∙ (map-append f (reverse xs) (x ∷ [])
    ∙ (ap (λ z. z ++ f x ∷ []) (map_reverse f xs) ∙ sym (reverse-append (f x ∷ []) (map f xs))))

module _ {V W : Type 0} (f : V → W) where
  heads_valued : {K : Type 0} (heads : List (K × List (Cell V)))
      → map (λ (head : K × List (Cell V)). (head.0, map (cell_valued f) head.1)) (map bottom_up heads) ≡ map bottom_up (valued f heads)
  heads_valued [] = refl
  heads_valued (head ∷ heads) = λ i. (head.0, map_reverse (cell_valued f) head.1 i) ∷ heads_valued heads i

  metas_valued : (metas : Metadata V)
      → map (λ (meta : Option NodeId × NameId × List (Cell V)). (meta.0, meta.1, map (cell_valued f) meta.2)) (map meta_of metas) ≡ map meta_of (valued f metas)
  metas_valued [] = refl
  metas_valued (meta ∷ metas) = λ i. (meta.0.0, meta.0.1, map_reverse (cell_valued f) meta.1 i) ∷ metas_valued metas i

  fields_commute : (s : Carried V) → fields_valued f (fields_of s) ≡ fields_of (carried_valued f s)
  fields_commute s = λ i. record {
    tags = (fields_of s).tags;
    heads = heads_valued s.layers.heads i;
    metas = metas_valued s.scopes i;
  }

places_valued : {V W : Type 0} (f : V → W) (arrivals : List (Place × Progress V))
    → map (λ (at : Place × Progress V). at.0) arrivals
    ≡ map (λ (at : Place × Progress W). at.0) (map (λ (at : Place × Progress V). (at.0, progress_valued f at.1)) arrivals)
places_valued f [] = refl
places_valued f (at ∷ arrivals) = ap (λ places. at.0 ∷ places) (places_valued f arrivals)

-- ---- trees

over_same : {V F : Type 0} (t : Tree V F) (p q : Progress V) (e d : End) → t ≡ over p e → t ≡ over q d → (p ≡ q) × (e ≡ d)
over_same t p q e d h k = (cc, cc)

not_over : {V F : Type 0} (t : Tree V F) (p q : Progress V) (e : End) (asking : Asking) (test : F) (held broken : Tree V F) → t ≡ over p e
    → t ≡ tests asking q test held broken → ⊥
not_over t p q e asking test held broken h k = cc

not_some : {A C : Type 0} (x : A) → None ≡ Some x → C
not_some x e = absurd (clash x e)
  where
    clash : {A : Type 0} (x : A) → None ≡ Some x → ⊥
    clash x e = cc

module _ (composed : (t : SymTree) (ds es : List Decision) (r : SymRoute) → route t ds ≡ Some r
    → route t (ds ++ es) ≡ option_map (behind r.arrivals r.tests) (route r.left es)) where
  -- where decisions lead to an end, none go on
  none_further : (t : SymTree) (ds es : List Decision) (r q : SymRoute) (p : Progress LinearTerm) (e : End) → route t ds ≡ Some r → r.left ≡ over p e
      → route t (ds ++ es) ≡ Some q → es ≡ []
  none_further t ds [] r q p e leads ended goes = refl
  none_further t ds (d ∷ es) r q p e leads ended goes =
      not_some q (sym (ap (λ (x : SymTree). option_map (behind r.arrivals r.tests) (route x (d ∷ es))) ended) ∙ (sym (composed t ds (d ∷ es) r leads) ∙ goes))

-- ---- decisions of records lead along routes

opens_nothing : (t : SymTree) → IsOpen t []
opens_nothing t = some_way (route t []) refl (always_way t)
  where
    some_way : (r : Option SymRoute) → route t [] ≡ r → IsSomeWay r → IsOpen t []
    some_way None e h = absurd h
    some_way (Some r) e h = (r, e)

side_offered : (asking : Asking) (d : Decision) (truth : Bool) → d ≡ decision_at asking truth → (p : Progress LinearTerm) (test : FormulaTree) (held broken : SymTree)
    → Has (offers (tests asking p test held broken)) d
side_offered asking d true e p test held broken = inl (sym e)
side_offered asking d false e p test held broken = inr (inl (sym e))

module _ (s : SymStart) (more : (t : SymTree) (ds : List Decision) (d : Decision) (r : SymRoute) → route t ds ≡ Some r → (IsOpen t (ds ++ d ∷ []) ↔ Has (offers r.left) d)) where
  pub meaning_opens : (x : RecordTree) → HasMeaning s x → IsOpen s.tree (decisions_of x)
  meaning_opens (path ds places end' fields verdict) h = (h.way, h.leads)
  meaning_opens (pruned ds None refutation) h = subst (IsOpen s.tree) (sym h.0) (opens_nothing s.tree)
  meaning_opens (pruned ds (Some before) refutation) h =
      let side = h.side in
      let offered = side_offered side.asking side.last side.truth (only_offered side.asking side.last side.truth side.offered) side.progress side.test side.held side.broken in
      subst (IsOpen s.tree) (sym side.joined)
      ((more s.tree side.parent side.last side.way side.leads).1 (subst (λ (t : SymTree). Has (offers t) side.last) (sym side.waits) offered))
  meaning_opens (unexplored ds) h = h

  pub all_open : (rs : List RecordTree) → AllByRecursion (HasMeaning s) rs → AllByRecursion (λ x. IsOpen s.tree (decisions_of x)) rs
  all_open rs h = all_weaker _ _ rs meaning_opens h

-- ---- one of a list

apart : (cs ds : List Decision) → cs ≡ ds → Parts cs ds → ⊥
apart cs ds e k = parts_apart cs [] (subst (Parts cs) (sym e ∙ sym (append_nil cs)) k)

-- of records that ascend at most one has these decisions
one_there : (P : RecordTree → Type 0) (ds : List Decision) → ((x : RecordTree) → P x → decisions_of x ≡ ds) → (xs : List RecordTree) → RecordsAscend xs
    → (x : RecordTree) → Has xs x → P x → ExactlyOne P xs
one_there P ds same [] h x has p = absurd has
one_there P ds same (y ∷ xs) h x (inl e) p =
    let here : P y = subst P (sym e) p in
    inl (here, all_weaker _ _ xs (λ z (k : Parts (decisions_of y) (decisions_of z)) (q : P z). apart (decisions_of y) (decisions_of z) (same y here ∙ sym (same z q)) k) h.0)
one_there P ds same (y ∷ xs) h x (inr k) p =
    let parts = all_has (λ z. Parts (decisions_of y) (decisions_of z)) xs x h.0 k in
    inr (λ q. apart (decisions_of y) (decisions_of x) (same y q ∙ sym (same x p)) parts, one_there P ds same xs h.1 x k p)

has_mapped : (us : List Passage) (w : Trail) → Has (map shown us) w → (u : Passage) × Has us u × (shown u ≡ w)
has_mapped [] w h = absurd h
has_mapped (u ∷ us) w (inl e) = (u, inl refl, e)
has_mapped (u ∷ us) w (inr h) = let k = has_mapped us w h in (k.0, inr k.1, k.2)

-- ---- the path of a walk

module _ (v : List ℕ) (w : Trail) where
  decided_so : (x : RecordTree) → IsPathOf v w x → decisions_of x ≡ w.decisions
  decided_so (path ds places end' fields verdict) h = h.0
  decided_so (pruned ds before refutation) h = absurd h
  decided_so (unexplored ds) h = absurd h

module _ (composed : (t : SymTree) (ds es : List Decision) (r : SymRoute) → route t ds ≡ Some r
    → route t (ds ++ es) ≡ option_map (behind r.arrivals r.tests) (route r.left es))
    (net : Network) (i : Entry) (hops : ℕ) (start : SymStart) (v : List ℕ) (u : Passage) (a : IsAlong start v u) where
  path_shows : (ds : List Decision) (places : List Place) (end' : End) (fields : Fields LinearTerm) (verdict : Verdict) → IsPath start ds places end' fields verdict
      → ds ≡ u.decisions → IsPathOf v (shown u) (path ds places end' fields verdict)
  path_shows ds places end' fields verdict h same =
      let ways : h.way ≡ a.takes.way = only_way start u.decisions h.way a.takes.way (subst (λ zs. Leads start zs h.way) same h.leads) a.takes.leads in
      let ends = over_same a.takes.way.left h.progress a.takes.progress end' a.takes.end' (ap (λ (r : SymRoute). r.left) (sym ways) ∙ h.ended) a.takes.ended in (
        same,
        sym h.places_are ∙ (ap places_on ways ∙ (places_valued (term_at v) a.takes.way.arrivals ∙ ap (map (λ (at : Place × Progress ℕ). at.0)) a.arrivals)),
        ends.1 ∙ a.ended,
        ap (fields_at v) (sym h.fields_are) ∙ (fields_commute (term_at v) h.progress.state
            ∙ (ap (λ (p : Progress LinearTerm). fields_of (carried_valued (term_at v) p.state)) ends.0 ∙ ap (λ (p : Progress ℕ). fields_of p.state) a.progress)),
      )

  -- decisions that a path begins with, or that begin with those of a path, are its own
  path_same : (ds : List Decision) (way : SymRoute) (p : Progress LinearTerm) (e : End) → Leads start ds way → way.left ≡ over p e → Meets u.decisions ds → ds ≡ u.decisions
  path_same ds way p e leads ended (inl b) =
      let none : b.0 ≡ [] = none_further composed start.tree u.decisions b.0 a.takes.way way a.takes.progress a.takes.end' a.takes.leads a.takes.ended (ap (route start.tree) b.1 ∙ leads) in
      sym b.1 ∙ (ap (λ zs. u.decisions ++ zs) none ∙ append_nil u.decisions)
  path_same ds way p e leads ended (inr b) =
      let none : b.0 ≡ [] = none_further composed start.tree ds b.0 way a.takes.way p e leads ended (ap (route start.tree) b.1 ∙ a.takes.leads) in
      sym (append_nil ds) ∙ (ap (λ zs. ds ++ zs) (sym none) ∙ b.1)

  -- no test is asked behind the end
  none_asked : (parent : List Decision) (way : SymRoute) (asking : Asking) (p : Progress LinearTerm) (test : FormulaTree) (held broken : SymTree) → Leads start parent way
      → way.left ≡ tests asking p test held broken → (rest : List Decision) → u.decisions ++ rest ≡ parent → ⊥
  none_asked parent way asking p test held broken leads waits rest is =
      let none : rest ≡ [] = none_further composed start.tree u.decisions rest a.takes.way way a.takes.progress a.takes.end' a.takes.leads a.takes.ended (ap (route start.tree) is ∙ leads) in
      let same : u.decisions ≡ parent = sym (append_nil u.decisions) ∙ (ap (λ zs. u.decisions ++ zs) (sym none) ∙ is) in
      let ways : way ≡ a.takes.way = only_way start parent way a.takes.way leads (subst (λ zs. Leads start zs a.takes.way) same a.takes.leads) in
      not_over way.left a.takes.progress p a.takes.end' asking test held broken (ap (λ (r : SymRoute). r.left) ways ∙ a.takes.ended) waits

  -- decisions that a refuted side's begin with: they begin with those of the side, too
  side_begins : (ds : List Decision) (before : Option Verdict) (refutation : List Refute) → IsPruned start ds before refutation → Meets u.decisions ds → BeginsWith ds u.decisions
  side_begins ds before refutation h (inr b) = b
  side_begins ds None refutation h (inl b) =
      let empty = joined_empty u.decisions b.0 (b.1 ∙ h.0) in
      ([], append_nil ds ∙ (h.0 ∙ sym empty.0))
  side_begins ds (Some before) refutation h (inl b) =
      let side = h.side in
      elim (last_of b.0) [
        | inl none ↦ ([], append_nil ds ∙ (sym b.1 ∙ (ap (λ zs. u.decisions ++ zs) none ∙ append_nil u.decisions)))
        | inr k ↦
            let whole : (u.decisions ++ k.0) ++ k.1 ∷ [] ≡ side.parent ++ side.last ∷ [] =
            append_assoc u.decisions k.0 (k.1 ∷ []) ∙ (ap (λ zs. u.decisions ++ zs) (sym k.2) ∙ (b.1 ∙ side.joined)) in
            absurd (none_asked side.parent side.way side.asking side.progress side.test side.held side.broken side.leads side.waits k.0
            (snoc_same (u.decisions ++ k.0) side.parent k.1 side.last whole))
      ]

  the_path : (x : RecordTree) → HasMeaning start x → IsTried x → IsNotTaken net i hops x → IsWalkOf net i hops v (shown u) → Meets u.decisions (decisions_of x)
      → IsPathOf v (shown u) x
  the_path (path ds places end' fields verdict) h tried free walk meets =
      path_shows ds places end' fields verdict h (path_same ds h.way h.progress end' h.leads h.ended meets)
  the_path (pruned ds before refutation) h tried free walk meets = absurd (free v (shown u) walk (side_begins ds before refutation h meets))
  the_path (unexplored ds) h tried free walk meets = absurd (tried tt)

module _ (composed : (t : SymTree) (ds es : List Decision) (r : SymRoute) → route t ds ≡ Some r
    → route t (ds ++ es) ≡ option_map (behind r.arrivals r.tests) (route r.left es))
    (prefix : (t : SymTree) (ds es : List Decision) → IsOpen t (ds ++ es) → IsOpen t ds)
    (more : (t : SymTree) (ds : List Decision) (d : Decision) (r : SymRoute) → route t ds ≡ Some r → (IsOpen t (ds ++ d ∷ []) ↔ Has (offers r.left) d))
    (net : Network) (i : Entry) (hops : ℕ) (along : PassagesTakeRoutes net i hops) (tell : RecordsTellPackets net i hops) where
  pub chains_show : ChainsShowWalks net i hops
  chains_show start explored rs means chain v w walk =
      let found = has_mapped (passages_from net i v hops walk.0) w walk.2 in
      let u = found.0 in
      let a = along start explored v walk.0 walk.1 u found.1 in
      let begun = chain_begun start prefix more rs (all_open start more rs means) chain in
      let met = reached prefix start rs begun (chain_has_some start rs chain) u.decisions (a.takes.way, a.takes.leads) in
      let meaning = all_has (HasMeaning start) rs met.0 means met.1 in
      let tried = all_has IsTried rs met.0 (chain_tried start rs chain) met.1 in
      let shown_so = the_path composed net i hops start v u a met.0 meaning tried (tell start explored met.0 meaning).1 (subst (IsWalkOf net i hops v) (sym found.2) walk) met.2 in
      one_there (IsPathOf v w) w.decisions (decided_so v w) rs (chain_ascends start rs chain) met.0 met.1 (subst (λ (x : Trail). IsPathOf v x met.0) found.2 shown_so)
