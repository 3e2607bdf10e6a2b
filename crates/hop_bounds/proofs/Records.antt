-- Records are exact for every larger bound of hops where none of them was cut.
use Rattle.std.proofs.Common.{◌≡◌, ◌≤◌, ◌⊎◌, ℕ, inl, inr, Bool, true, List, [], ◌∷◌, ◌++◌, map, refl, sym, ap, ap₂, subst, ◌∙◌, Option, Some, None}
use Rattle.std.specs.List.{AllByRecursion}
use Rattle.refutation_check.specs.Longer.{condition_of}
use Rattle.lin_term.specs.Terms.{LinearTerm}
use Rattle.path_formula.specs.Formulas.{FormulaTree}
use Rattle.path_cond.specs.Seen.{itself}
use Rattle.refutation_check.specs.Seen.{IsLicensed, IsRefuted}
use Rattle.refutation_check.specs.declared.outcome.Verdict.{Verdict}
use Rattle.refutation_check.specs.declared.outcome.Verdict.TheVariants.{Sat, Undecided}
use Rattle.refutation_check.specs.declared.steps.Refute.{Refute}
use Rattle.sefl_meaning.specs.declared.walk.Decision.{Decision}
use Rattle.sefl_meaning.specs.declared.walk.End.{End}
use Rattle.sefl_meaning.specs.declared.walk.End.TheVariants.{Cut}
use Rattle.sefl_meaning.specs.declared.walk.Place.{Place}
use Rattle.sefl_meaning.specs.Network.{Network, Entry}
use Rattle.sefl_meaning.specs.Courses.{Progress}
use Rattle.sefl_meaning.specs.Fields.{Fields}
use Rattle.sefl_meaning.specs.Injected.{passages_from, unknown_count}
use Rattle.sefl_meaning.specs.Order.{BeginsWith, Has}
use Rattle.sefl_meaning.specs.Routes.{IsOpen, route}
use Rattle.sefl_meaning.specs.Trees.{over, tests}
use Rattle.sefl_meaning.specs.Walks.{Passage, Trail, shown}
use Rattle.term_values.specs.TermValues.{terms}
use Rattle.exact_records.specs.Records.{EndsAtTest, HasMeaning, HasVerdict, IsPath, IsPruned, IsPrunedSide, IsRefutedBy, IsVerdictOn, Leads, MayBe, MayPrecede, RecordTree, SymCondition, SymRoute, SymStart, SymTree, Takes, condition_on, decisions_of, first_condition, path, pruned, unexplored, with_test}
use Rattle.exact_records.specs.Exact.{AllBegun, AreExact, ExactlyOne, IsCutOff, IsGood, IsUnexplored, IsUnrefuted, IsWhole}
use Rattle.exact_records.specs.Packets.{AreExactFor, HasWalk, Shows}
use Rattle.exact_records.specs.Laws.{ExactRecordsShowWalks, PacketsTakeRoutes}
use Rattle.hop_bounds.specs.Beyond.{AllUncut, GoBeyond, HasSameWalks, IsUncut}
use Rattle.hop_bounds.proofs.Longer.{IsAtCut, Longer, SameWay, also_open, begins_open, same_over, same_progress, same_way, side_open, waits_before}
use Rattle.hop_bounds.proofs.Passages.{none_cut, same_enter}
use Rattle.hop_bounds.proofs.Same.{all_behind, all_both, all_map, one_of, same_parent, some_same}
use Rattle.hop_bounds.proofs.Starts.{goes_further}

-- ---- no walk of a packet is cut

uncut_shown : (v : List ℕ) (w : Trail) (x : RecordTree) → Shows v w x → IsUncut x → w.end' ≡ Cut → ⊥
uncut_shown v w (path ds places end' fields verdict) shows uncut cut = uncut (shows.2 ∙ cut)
uncut_shown v w (pruned ds before refutation) shows uncut cut = shows
uncut_shown v w (unexplored ds) shows uncut cut = uncut

uncut_walk : (v : List ℕ) (w : Trail) (rs : List RecordTree) → ExactlyOne (λ x. BeginsWith (decisions_of x) w.decisions) rs
    → AllByRecursion (λ x. BeginsWith (decisions_of x) w.decisions → Shows v w x) rs → AllUncut rs → w.end' ≡ Cut → ⊥
uncut_walk v w [] once shown uncut cut = once
uncut_walk v w (x ∷ rs) (inl h) shown uncut cut = uncut_shown v w x (shown.0 h.0) uncut.0 cut
uncut_walk v w (x ∷ rs) (inr h) shown uncut cut = uncut_walk v w rs h.1 shown.1 uncut.1 cut

has_shown : (us : List Passage) (u : Passage) → Has us u → Has (map shown us) (shown u)
has_shown [] u h = h
has_shown (w ∷ us) u (inl e) = inl (ap shown e)
has_shown (w ∷ us) u (inr h) = inr (has_shown us u h)

module _ (net : Network) (i : Entry) (hops more limit : ℕ) (least : hops ≤ more) (rs : List RecordTree) (uncut : AllUncut rs) where
  same_walks : AreExactFor net i hops limit rs → HasSameWalks net i hops more
  same_walks exact v s starts =
      same_enter net v (unknown_count i) hops more least i.node i.own.port _
      (none_cut (passages_from net i v hops s)
      (λ u has cut.
      let w = shown u in
      let is = exact.walks v w (s, starts, has_shown (passages_from net i v hops s) u has) in
      uncut_walk v w rs is.once is.shown uncut cut))

  has_as_many : HasSameWalks net i hops more → (v : List ℕ) (ds : List Decision) → HasWalk net i hops v ds → HasWalk net i more v ds
  has_as_many same v ds h =
      let (w, (s, starts, has), is) = h in
      (w, (s, starts, subst (λ (us : List Passage). Has (map shown us) w) (sym (same v s starts)) has), is)

  has_no_more : HasSameWalks net i hops more → (v : List ℕ) (ds : List Decision) → HasWalk net i more v ds → HasWalk net i hops v ds
  has_no_more same v ds h =
      let (w, (s, starts, has), is) = h in
      (w, (s, starts, subst (λ (us : List Passage). Has (map shown us) w) (same v s starts) has), is)

-- ---- one start, and another whose tree goes on where that of the first is cut

module _ (s t : SymStart) (unknowns : t.unknowns ≡ s.unknowns) (fs : t.tests ≡ s.tests) (most : t.most_choices ≡ s.most_choices) (longer : Longer s.tree t.tree) where
  same_condition : (r q : SymRoute) → (IsAtCut r.left → ⊥) → q.tests ≡ r.tests → Longer r.left q.left → condition_on t q ≡ condition_on s r
  same_condition r q uncut tested left =
      let widths =
      ap₂ (λ (us : List ℕ) (p : Progress LinearTerm). us ++ p.choices) unknowns (same_progress r.left q.left left uncut) in
      let entries =
      ap₂ (λ (gs : List FormulaTree) (ts : List (FormulaTree × Bool)). map (λ f. (f, true)) gs ++ ts) fs tested in
      λ j. condition_of (most j) (widths j) (entries j)

  same_first : first_condition t ≡ first_condition s
  same_first =
      λ j. condition_of (most j) (unknowns j) (map (λ f. (f, true)) (fs j))

  -- a way of both
  pub record Both (ds : List Decision) (r : SymRoute) : Type 0 where
    pub other : SymRoute
    pub leads : Leads t ds other
    pub condition : condition_on t other ≡ condition_on s r
    pub same : SameWay (route t.tree ds) r
    pub is : same.same ≡ other

  pub both_ways : (ds : List Decision) (r : SymRoute) → Leads s ds r → (IsAtCut r.left → ⊥) → Both ds r
  both_ways ds r leads uncut =
      let w = same_way s.tree t.tree longer ds r leads uncut in
      record { other = w.same; leads = w.leads; condition = same_condition r w.same uncut w.tests w.left; same = w; is = refl }

  -- the condition of any way of the other is that of the way of the first
  pub on_condition : (P : SymCondition → Type 0) (ds : List Decision) (r q : SymRoute) → Leads s ds r → (IsAtCut r.left → ⊥) → Leads t ds q
      → P (condition_on s r) → P (condition_on t q)
  on_condition P ds r q leads uncut also h =
      let b = both_ways ds r leads uncut in
      let same : b.other ≡ q = some_same (sym b.leads ∙ also) in
      subst (λ (x : SymRoute). P (condition_on t x)) same (subst P (sym b.condition) h)

  pub from_condition : (P : SymCondition → Type 0) (ds : List Decision) (r q : SymRoute) → Leads s ds r → (IsAtCut r.left → ⊥) → Leads t ds q
      → P (condition_on t q) → P (condition_on s r)
  from_condition P ds r q leads uncut also h =
      let b = both_ways ds r leads uncut in
      let same : q ≡ b.other = some_same (sym also ∙ b.leads) in
      subst P b.condition (subst (λ (x : SymRoute). P (condition_on t x)) same h)

  pub uncut_over : (r : SymRoute) (p : Progress LinearTerm) (end' : End) → r.left ≡ over p end' → (end' ≡ Cut → ⊥) → IsAtCut r.left → ⊥
  uncut_over r p end' ended uncut cut = uncut (subst (λ (x : SymTree). IsAtCut x) ended cut)

  pub uncut_test : (ds : List Decision) (side : EndsAtTest s ds) → IsAtCut side.way.left → ⊥
  uncut_test ds side cut = subst (λ (x : SymTree). IsAtCut x) side.waits cut

  -- ---- each record means the same

  module _ (takes : (v : List ℕ) (ds : List Decision) → Takes s v ds → Takes t v ds) where
    may_be : (ds : List Decision) (c d : SymCondition) → d ≡ c → (verdict : Verdict) → MayBe s ds c verdict → MayBe t ds d verdict
    may_be ds c d e (Sat values) h = takes values ds h
    may_be ds c d e (Undecided cause) h = subst (λ (x : SymCondition). IsLicensed itself x cause) (sym e) h

    means_path : (ds : List Decision) (places : List Place) (end' : End) (fields : Fields LinearTerm) (verdict : Verdict) → (end' ≡ Cut → ⊥)
        → IsPath s ds places end' fields verdict → IsPath t ds places end' fields verdict
    means_path ds places end' fields verdict uncut h =
        let b = both_ways ds h.way h.leads (uncut_over h.way h.progress end' h.ended uncut) in
        let w = b.same in
        record {
          way = b.other;
          progress = h.progress;
          leads = b.leads;
          ended = subst (λ (x : SymRoute). x.left ≡ over h.progress end') b.is (same_over h.way.left w.same.left h.progress end' w.left h.ended uncut);
          places_are = subst (λ (x : SymRoute). map (λ a. a.0) x.arrivals ≡ places) b.is
              (ap (λ (arrivals : List (Place × Progress LinearTerm)). map (λ a. a.0) arrivals) w.arrivals ∙ h.places_are);
          fields_are = h.fields_are;
          verdict_may = may_be ds (condition_on s h.way) (condition_on t b.other) b.condition verdict h.verdict_may;
        }

    may_precede : (c d : SymCondition) → d ≡ c → (before : Verdict) → MayPrecede c before → MayPrecede d before
    may_precede c d e before h = subst (λ (x : SymCondition). MayPrecede x before) (sym e) h

    -- a side of a test of both
    pub record BothSides (ds : List Decision) (side : EndsAtTest s ds) : Type 0 where
      pub other : EndsAtTest t ds
      pub condition : condition_on t other.way ≡ condition_on s side.way
      pub test : other.test ≡ side.test
      pub truth : other.truth ≡ side.truth

    both_sides : (ds : List Decision) (side : EndsAtTest s ds) → BothSides ds side
    both_sides ds side =
        let b = both_ways side.parent side.way side.leads (uncut_test ds side) in
        let left : Longer side.way.left b.other.left = subst (λ (x : SymRoute). Longer side.way.left x.left) b.is b.same.left in
        let there : Longer (tests side.asking side.progress side.test side.held side.broken) b.other.left =
        subst (λ (x : SymTree). Longer x b.other.left) side.waits left in
        record {
          other = record {
            parent = side.parent;
            last = side.last;
            joined = side.joined;
            way = b.other;
            leads = b.leads;
            asking = side.asking;
            progress = side.progress;
            test = side.test;
            held = there.0;
            broken = there.1;
            waits = there.2;
            truth = side.truth;
            offered = side.offered;
          };
          condition = b.condition;
          test = refl;
          truth = refl;
        }

    same_side : (ds : List Decision) (side : EndsAtTest s ds) (b : BothSides ds side)
        → with_test (condition_on t b.other.way) b.other.test b.other.truth ≡ with_test (condition_on s side.way) side.test side.truth
    same_side ds side b = λ i. with_test (b.condition i) (b.test i) (b.truth i)

    means_side : (ds : List Decision) (before : Verdict) (refutation : List Refute) → IsPrunedSide s ds before refutation → IsPrunedSide t ds before refutation
    means_side ds before refutation h =
        let b = both_sides ds h.side in
        record {
          side = b.other;
          refuted = subst (λ (c : SymCondition). IsRefutedBy c refutation) (sym (same_side ds h.side b)) h.refuted;
          precedes = may_precede (condition_on s h.side.way) (condition_on t b.other.way) b.condition before h.precedes;
        }

    means_pruned : (ds : List Decision) (before : Option Verdict) (refutation : List Refute) → IsPruned s ds before refutation → IsPruned t ds before refutation
    means_pruned ds None refutation h = (h.0, subst (λ (c : SymCondition). IsRefutedBy c refutation) (sym same_first) h.1)
    means_pruned ds (Some before) refutation h = means_side ds before refutation h

    means : (x : RecordTree) → IsUncut x → HasMeaning s x → HasMeaning t x
    means (path ds places end' fields verdict) uncut h = means_path ds places end' fields verdict uncut h
    means (pruned ds before refutation) uncut h = means_pruned ds before refutation h
    means (unexplored ds) uncut h = absurd uncut

    verdict_before : (ds : List Decision) (before : Option Verdict) (refutation : List Refute) → IsPruned s ds before refutation
        → HasVerdict s (pruned ds before refutation) → HasVerdict t (pruned ds before refutation)
    verdict_before ds None refutation h verdict = (tt, subst (IsRefuted itself) (sym same_first) verdict.1)
    verdict_before ds (Some before) refutation h verdict = (
      (λ (other : EndsAtTest t ds).
          let side = h.side in
          let same : other.parent ≡ side.parent = same_parent other.parent side.parent other.last side.last (sym other.joined ∙ side.joined) in
          on_condition (λ c. IsVerdictOn c before) side.parent side.way other.way side.leads (uncut_test ds side)
          (subst (λ (ds : List Decision). Leads t ds other.way) same other.leads) (verdict.0 side)),
      (let b = both_sides ds verdict.1.0 in (b.other, subst (IsRefuted itself) (sym (same_side ds verdict.1.0 b)) verdict.1.1)),
    )

    verdict_on : (x : RecordTree) → IsUncut x → HasMeaning s x → HasVerdict s x → HasVerdict t x
    verdict_on (path ds places end' fields verdict) uncut h is =
        λ way leads.
        on_condition (λ c. IsVerdictOn c verdict) ds h.way way h.leads (uncut_over h.way h.progress end' h.ended uncut) leads (is h.way h.leads)
    verdict_on (pruned ds before refutation) uncut h is = verdict_before ds before refutation h is
    verdict_on (unexplored ds) uncut h is = absurd uncut

    -- a record's decisions are offered
    pruned_open : (ds : List Decision) (before : Option Verdict) (refutation : List Refute) → IsPruned s ds before refutation → IsOpen s.tree ds
    pruned_open ds None refutation h = subst (IsOpen s.tree) (sym h.0) (begins_open s.tree)
    pruned_open ds (Some before) refutation h =
        let side = h.side in
        subst (IsOpen s.tree) (sym side.joined)
        (side_open s.tree side.parent side.last side.way side.asking side.progress side.test side.held side.broken side.truth side.leads side.waits side.offered)

    is_open : (x : RecordTree) → HasMeaning s x → IsOpen s.tree (decisions_of x)
    is_open (path ds places end' fields verdict) h = (h.way, h.leads)
    is_open (pruned ds before refutation) h = pruned_open ds before refutation h
    is_open (unexplored ds) h = h

    unrefuted : (ds : List Decision) → IsOpen s.tree ds → IsUnrefuted s ds → IsUnrefuted t ds
    unrefuted ds opened h =
        λ p d rest is way leads refuted.
        let w = waits_before s.tree p d rest (subst (IsOpen s.tree) is opened) in
        h p d rest is w.way w.leads (from_condition (IsRefuted itself) p w.way way w.leads w.uncut leads refuted)

    good : (x : RecordTree) → IsUncut x → IsGood s x → IsGood t x
    good x uncut h = record {
      meaning = means x uncut h.meaning;
      verdict = verdict_on x uncut h.meaning h.verdict;
      unrefuted = unrefuted (decisions_of x) (is_open x h.meaning) h.unrefuted;
    }

    -- ---- and the records are exact

    none_left : (xs : List RecordTree) → AllByRecursion IsUnexplored xs → AllUncut xs → xs ≡ []
    none_left [] left uncut = refl
    none_left (path ds places end' fields verdict ∷ xs) left uncut = absurd left.0
    none_left (pruned ds before refutation ∷ xs) left uncut = absurd left.0
    none_left (unexplored ds ∷ xs) left uncut = absurd uncut.0

    whole : (limit : ℕ) (rs : List RecordTree) → AllUncut rs → IsWhole limit rs ⊎ IsCutOff s limit rs → IsWhole limit rs ⊎ IsCutOff t limit rs
    whole limit rs uncut (inl h) = inl h
    whole limit rs uncut (inr h) =
        absurd (h.some (none_left h.left h.untried (all_behind IsUncut (h.done ++ h.last ∷ []) h.left (subst AllUncut h.joined uncut))))

    begun : (rs : List RecordTree) → AllByRecursion (IsGood s) rs → AllBegun s (λ ds. Unit {0}) rs → AllBegun t (λ ds. Unit {0}) rs
    begun rs goods h =
        λ p c d rest some opened within.
        let along : IsOpen s.tree (p ++ c ∷ rest) =
        one_of (IsGood s) (λ x. decisions_of x ≡ p ++ c ∷ rest) rs goods some
        (λ x (g : IsGood s x) is. subst (IsOpen s.tree) is (is_open x g.meaning)) in
        h p c d rest some (also_open s.tree t.tree longer p c d rest along opened) within

    pub exact_further : (back : (v : List ℕ) (ds : List Decision) → Takes t v ds → Takes s v ds) (limit : ℕ) (rs : List RecordTree)
        → AllUncut rs → AreExact s limit rs → AreExact t limit rs
    exact_further back limit rs uncut h = record {
      ascend = h.ascend;
      good = all_map (λ x. IsUncut x × IsGood s x) (IsGood t) rs (all_both IsUncut (IsGood s) rs uncut h.good) (λ x g. good x g.0 g.1);
      once = λ v ds takes. h.once v ds (back v ds takes);
      limited = whole limit rs uncut h.limited;
      some = h.some;
      begun = begun rs h.good h.begun;
    }

-- ---- for the packets of a net

module _ (taken : (net : Network) (i : Entry) (hops : ℕ) → PacketsTakeRoutes net i hops) (show : (net : Network) (i : Entry) (hops : ℕ) → ExactRecordsShowWalks net i hops) where
  pub go_beyond : (net : Network) (i : Entry) (hops limit : ℕ) (rs : List RecordTree) → AreExactFor net i hops limit rs → AllUncut rs
      → (more : ℕ) → hops ≤ more → GoBeyond net i hops limit rs more
  go_beyond net i hops limit rs exact uncut more least =
      let same = same_walks net i hops more limit least rs uncut exact in
      let g = goes_further (terms (unknown_count i)) net i hops more least exact.start exact.explored in
      let s = exact.start in
      let t = g.further in
      let to : (v : List ℕ) (ds : List Decision) → Takes s v ds → Takes t v ds =
      λ v ds h. (taken net i more t g.is v ds).1 (has_as_many net i hops more limit least rs uncut same v ds ((taken net i hops s exact.explored v ds).0 h)) in
      let back : (v : List ℕ) (ds : List Decision) → Takes t v ds → Takes s v ds =
      λ v ds h. (taken net i hops s exact.explored v ds).1 (has_no_more net i hops more limit least rs uncut same v ds ((taken net i more t g.is v ds).0 h)) in
      record {
        walks = same;
        exact = (show net i more).exact t limit rs g.is (exact_further s t g.unknowns g.tests g.most_choices g.tree to back limit rs uncut exact.exact);
      }
