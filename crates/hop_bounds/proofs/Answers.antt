-- What is right of a question over records that were not cut is right for every larger bound of hops.
use Rattle.std.proofs.Common.{◌≡◌, ◌≤◌, ℕ, suc, inl, inr, true, List, [], ◌∷◌, map, sym, ap, ap₂, subst, ◌∙◌}
use Rattle.std.specs.List.{AllByRecursion}
use Rattle.lin_term.specs.Terms.{LinearTerm}
use Rattle.refutation_check.specs.declared.outcome.Verdict.{Verdict}
use Rattle.sefl_meaning.specs.declared.walk.Decision.{Decision}
use Rattle.sefl_meaning.specs.declared.walk.End.{End}
use Rattle.sefl_meaning.specs.declared.walk.End.TheVariants.{Cut}
use Rattle.sefl_meaning.specs.declared.walk.Place.{Place}
use Rattle.sefl_meaning.specs.Network.{Network, Entry}
use Rattle.sefl_meaning.specs.Carried.{Carried}
use Rattle.sefl_meaning.specs.Fields.{Fields}
use Rattle.sefl_meaning.specs.Injected.{unknown_count}
use Rattle.sefl_meaning.specs.Order.{Has}
use Rattle.sefl_meaning.specs.Walks.{Passage}
use Rattle.term_values.specs.TermValues.{terms}
use Rattle.exact_records.specs.Records.{HasMeaning, IsPath, Leads, RecordTree, SymCondition, SymRoute, SymStart, SymTree, condition_on, decisions_of, path, pruned, unexplored, with_test}
use Rattle.exact_records.specs.Exact.{IsGood, SomeOne}
use Rattle.exact_records.specs.Packets.{AreExactFor}
use Rattle.path_questions.specs.Answers.{IsRight, IsTrueHit, IsTrueOf}
use Rattle.path_questions.specs.Formulas.{asked_left, conditions_on, explored, formula_of, no_start, start_or}
use Rattle.path_questions.specs.Questions.{Question, reach, invariant, visible}
use Rattle.path_questions.specs.Sentences.{IsShownAt, NotShown, Shown, ShowsIt, Walked}
use Rattle.path_questions.specs.Telling.{FirstMet, IsFirstHit, IsOutcome, IsUndecided, IsUnmet, Outcome, Saying, AreOpenBy, found, left_open, saying}
use Rattle.hop_bounds.specs.Beyond.{AllUncut, GoBeyond, HasSameWalks, IsUncut}
use Rattle.hop_bounds.proofs.Longer.{Longer, same_over}
use Rattle.hop_bounds.proofs.Records.{Both, both_ways, uncut_over}
use Rattle.hop_bounds.proofs.Same.{all_behind, all_before, all_both, all_map, some_same}
use Rattle.hop_bounds.proofs.Starts.{goes_further}

-- ---- what is said of lists of records that say alike

module _ {X : Type 0} (one other : Saying X) where
  pub record Alike (x : X) : Type 0 where
    pub shows : (values : List ℕ) → one.Shows x values → other.Shows x values
    pub none : one.ShowsNone x → other.ShowsNone x
    pub leaves : one.LeavesOpen x → other.LeavesOpen x
    pub back : other.LeavesOpen x → one.LeavesOpen x

  alike_open : (n : ℕ) (xs : List X) (ns : List ℕ) → AllByRecursion Alike xs → AreOpenBy one (λ x. one.LeavesOpen x → ⊥) n xs ns
      → AreOpenBy other (λ x. other.LeavesOpen x → ⊥) n xs ns
  alike_open n [] ns all h = h
  alike_open n (x ∷ xs) ns all (inl h) =
      let (leaves, ms, is, rest) = h in
      inl (all.0.leaves leaves, ms, is, alike_open (suc n) xs ms all.1 rest)
  alike_open n (x ∷ xs) ns all (inr h) = inr (λ leaves. h.0 (all.0.back leaves), alike_open (suc n) xs ns all.1 h.1)

  alike_hit : (xs : List X) (number : ℕ) (values : List ℕ) → AllByRecursion Alike xs → IsFirstHit one xs number values → IsFirstHit other xs number values
  alike_hit xs number values all h =
      let parts = subst (AllByRecursion Alike) h.joined all in
      record {
        front = h.front;
        shower = h.shower;
        rest = h.rest;
        joined = h.joined;
        numbered = h.numbered;
        none = all_map (λ x. Alike x × one.ShowsNone x) other.ShowsNone h.front
            (all_both Alike one.ShowsNone h.front (all_before Alike h.front (h.shower ∷ h.rest) parts) h.none) (λ x both. both.0.none both.1);
        shows = (all_behind Alike h.front (h.shower ∷ h.rest) parts).0.shows values h.shows;
      }

  pub alike_outcome : (xs : List X) (outcome : Outcome) → AllByRecursion Alike xs → IsOutcome one xs outcome → IsOutcome other xs outcome
  alike_outcome xs (found number values) all h = alike_hit xs number values all h
  alike_outcome xs (left_open ns) all h = (
    all_map (λ x. Alike x × one.ShowsNone x) other.ShowsNone xs (all_both Alike one.ShowsNone xs all h.0) (λ x both. both.0.none both.1),
    alike_open 0 xs ns all h.1,
  )

-- ---- what walks show

module _ (net : Network) (i : Entry) (hops more : ℕ) (same : HasSameWalks net i hops more) where
  abbrev walked_further : Walked net i hops → Walked net i more
  walked_further x = record {
    packet = x.packet;
    carried = x.carried;
    starts = x.starts;
    walk = x.walk;
    is = subst (λ (us : List Passage). Has us x.walk) (sym (same x.packet x.carried x.starts)) x.is;
  }

  abbrev walked_before : Walked net i more → Walked net i hops
  walked_before x = record {
    packet = x.packet;
    carried = x.carried;
    starts = x.starts;
    walk = x.walk;
    is = subst (λ (us : List Passage). Has us x.walk) (same x.packet x.carried x.starts) x.is;
  }

  shown_further : (q : Question) → Shown net i hops q → Shown net i more q
  shown_further (reach place test) h = (walked_further h.0, h.1)
  shown_further (invariant place field) h = λ sentence. h (λ x. sentence (walked_further x))
  shown_further (visible place field) h = λ sentence. h (λ x. sentence (walked_further x))

  not_shown_further : (q : Question) → NotShown net i hops q → NotShown net i more q
  not_shown_further (reach place test) h = λ sentence. h (walked_before sentence.0, sentence.1)
  not_shown_further (invariant place field) h = λ x. h (walked_before x)
  not_shown_further (visible place field) h = λ x. h (walked_before x)

  shows_further : (q : Question) (x : Walked net i hops) → ShowsIt net i hops q x → ShowsIt net i more q (walked_further x)
  shows_further (reach place test) x h = h
  shows_further (invariant place field) x h = h
  shows_further (visible place field) x h = h

  shown_at_further : (q : Question) (ds : List Decision) (values : List ℕ) → IsShownAt net i hops q ds values → IsShownAt net i more q ds values
  shown_at_further q ds values h = record {
    walked = walked_further h.walked;
    packet = h.packet;
    decisions = h.decisions;
    shows = shows_further q h.walked h.shows;
  }

  hit_further : (q : Question) (rs : List RecordTree) (number : ℕ) (values : List ℕ) → IsTrueHit net i hops q rs number values → IsTrueHit net i more q rs number values
  hit_further q rs number values h = record {
    front = h.front;
    shower = h.shower;
    rest = h.rest;
    joined = h.joined;
    numbered = h.numbered;
    there = shown_at_further q (decisions_of h.shower) values h.there;
  }

  pub true_further : (q : Question) (rs : List RecordTree) (outcome : Outcome) → IsTrueOf net i hops q rs outcome → IsTrueOf net i more q rs outcome
  true_further q rs (found number values) h = (hit_further q rs number values h.0, shown_further q h.1)
  true_further q rs (left_open []) h = not_shown_further q h
  true_further q rs (left_open (n ∷ ns)) h = tt

-- ---- what records tell

module _ (net : Network) (i : Entry) (hops more : ℕ) (s t : SymStart) (first : explored net i hops ≡ s) (second : explored net i more ≡ t)
    (unknowns : t.unknowns ≡ s.unknowns) (fs : t.tests ≡ s.tests) (most : t.most_choices ≡ s.most_choices) (longer : Longer s.tree t.tree) (q : Question) where
  -- the conditions of the question on a path are the same
  same_conditions : (ds : List Decision) (places : List Place) (end' : End) (fields : Fields LinearTerm) (verdict : Verdict) → (end' ≡ Cut → ⊥)
      → (h : IsPath s ds places end' fields verdict) → (b : Both s t unknowns fs most longer ds h.way)
      → conditions_on net i more q b.other ≡ conditions_on net i hops q h.way
  same_conditions ds places end' fields verdict uncut h b =
      let w = b.same in
      let left : w.same.left ≡ h.way.left = same_over h.way.left w.same.left h.progress end' w.left h.ended uncut ∙ sym h.ended in
      let states = ap₂ (λ arrivals (x : SymTree). asked_left q arrivals x) w.arrivals left in
      let condition : condition_on (explored net i more) b.other ≡ condition_on (explored net i hops) h.way =
      ap (λ (x : SymStart). condition_on x b.other) second ∙ b.condition ∙ ap (λ (x : SymStart). condition_on x h.way) (sym first) in
      ap₂ (λ (c : SymCondition) (xs : List (Carried LinearTerm)). map (λ x. with_test c (formula_of net i hops q x) true) xs) condition
      (subst (λ (x : SymRoute). asked_left q x.arrivals x.left ≡ asked_left q h.way.arrivals h.way.left) b.is states)

  alike_path : (ds : List Decision) (places : List Place) (end' : End) (fields : Fields LinearTerm) (verdict : Verdict) → (end' ≡ Cut → ⊥)
      → IsPath s ds places end' fields verdict → Alike (saying net i hops q) (saying net i more q) (path ds places end' fields verdict)
  alike_path ds places end' fields verdict uncut h =
      let b = both_ways s t unknowns fs most longer ds h.way h.leads (uncut_over s t unknowns fs most longer h.way h.progress end' h.ended uncut) in
      let same = same_conditions ds places end' fields verdict uncut h b in
      let here : Leads (explored net i hops) ds h.way = subst (λ (x : SymStart). Leads x ds h.way) (sym first) h.leads in
      let there : Leads (explored net i more) ds b.other = subst (λ (x : SymStart). Leads x ds b.other) (sym second) b.leads in
      record {
        shows = λ values shown.
            let (way, leads, met) = shown in
            let is : way ≡ h.way = some_same (sym leads ∙ here) in
            (b.other, there, subst (λ (cs : List SymCondition). FirstMet cs values) (sym same) (subst (λ (x : SymRoute). FirstMet (conditions_on net i hops q x) values) is met));
        none = λ none way leads.
            let is : b.other ≡ way = some_same (sym there ∙ leads) in
            subst (λ (x : SymRoute). AllByRecursion IsUnmet (conditions_on net i more q x)) is (subst (AllByRecursion IsUnmet) (sym same) (none h.way here));
        leaves = λ left.
            let (way, leads, some) = left in
            let is : way ≡ h.way = some_same (sym leads ∙ here) in
            (b.other, there, subst (SomeOne IsUndecided) (sym same) (subst (λ (x : SymRoute). SomeOne IsUndecided (conditions_on net i hops q x)) is some));
        back = λ left.
            let (way, leads, some) = left in
            let is : way ≡ b.other = some_same (sym leads ∙ there) in
            (h.way, here, subst (SomeOne IsUndecided) same (subst (λ (x : SymRoute). SomeOne IsUndecided (conditions_on net i more q x)) is some));
      }

  alike_record : (x : RecordTree) → IsUncut x → HasMeaning s x → Alike (saying net i hops q) (saying net i more q) x
  alike_record (path ds places end' fields verdict) uncut h = alike_path ds places end' fields verdict uncut h
  alike_record (pruned ds before refutation) uncut h = record { shows = λ values none. none; none = λ none. tt; leaves = λ none. none; back = λ none. none }
  alike_record (unexplored ds) uncut h = absurd uncut

  pub told_further : (rs : List RecordTree) (outcome : Outcome) → AllUncut rs → AllByRecursion (IsGood s) rs
      → IsOutcome (saying net i hops q) rs outcome → IsOutcome (saying net i more q) rs outcome
  told_further rs outcome uncut goods h =
      alike_outcome (saying net i hops q) (saying net i more q) rs outcome
      (all_map (λ x. IsUncut x × IsGood s x) (Alike (saying net i hops q) (saying net i more q)) rs (all_both IsUncut (IsGood s) rs uncut goods)
      (λ x both. alike_record x both.0 both.1.meaning)) h

pub right_beyond : (net : Network) (i : Entry) (hops limit : ℕ) (rs : List RecordTree) → AreExactFor net i hops limit rs → AllUncut rs
    → (more : ℕ) → hops ≤ more → GoBeyond net i hops limit rs more → (q : Question) (outcome : Outcome) → IsRight net i hops q rs outcome → IsRight net i more q rs outcome
right_beyond net i hops limit rs exact uncut more least beyond q outcome right =
    let g = goes_further (terms (unknown_count i)) net i hops more least exact.start exact.explored in
    record {
      told = told_further net i hops more exact.start g.further (ap (start_or no_start) exact.explored) (ap (start_or no_start) g.is)
          g.unknowns g.tests g.most_choices g.tree q rs outcome uncut exact.exact.good right.told;
      holds = true_further net i hops more beyond.walks q rs outcome right.holds;
    }
