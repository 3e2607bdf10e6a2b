-- `loops` of a job has one outcome.
use Rattle.std.proofs.Common.{◌≡◌, ◌∙◌, ℕ, suc, inl, inr, List, [], ◌∷◌, ◌++◌, length, map, codes, refl, sym, ap, subst, Result, Ok}
use Rattle.serde_json.specs.Written.{compact_text}
use Rattle.std.specs.List.{AllByRecursion}
use Rattle.path_cond.specs.Seen.{itself}
use Rattle.refutation_check.specs.Seen.{IsRefuted}
use Rattle.refutation_check.specs.declared.outcome.Cause.{Cause}
use Rattle.refutation_check.specs.declared.outcome.Verdict.{Verdict}
use Rattle.refutation_check.specs.declared.outcome.Verdict.TheVariants.{Sat, Undecided}
use Rattle.net_check.specs.Network.{Network, Entry}
use Rattle.sefl_meaning.specs.declared.walk.Decision.{Decision}
use Rattle.sefl_meaning.specs.declared.walk.End.{End}
use Rattle.sefl_meaning.specs.declared.walk.End.TheVariants.{Stopped, Delivered, Failed, Cut}
use Rattle.sefl_meaning.specs.Trees.{over}
use Rattle.exact_records.specs.Exact.{IsGood}
use Rattle.exact_records.specs.Packets.{AreExactFor, IsExplored}
use Rattle.exact_records.specs.Records.{IsVerdictOn, RecordTree, SymCondition, SymStart, condition_on, decisions_of, path, pruned, unexplored}
use Rattle.one_list.specs.Same.{RecordsAreOne, without_refutation}
use Rattle.loop_meaning.specs.declared.answer.Differ.{Differ}
use Rattle.loop_meaning.specs.declared.answer.LoopAnswer.{LoopAnswer}
use Rattle.loop_meaning.specs.declared.answer.LoopAnswer.TheVariants.{Loop, Open}
use Rattle.loop_meaning.specs.declared.answer.Why.{Why}
use Rattle.loop_meaning.specs.declared.answer.Why.TheVariants.{Choice, Layout, Cell, Unknown}
use Rattle.loop_meaning.specs.Answers.{AreDiffers, Arrival, CutPath, IsAnswerOf, IsAnswerOn, IsFirstLoop}
use Rattle.loop_meaning.specs.Ends.{CutPathsArrive}
use Rattle.loop_meaning.specs.Loops.{IsRight}
use Rattle.loop_meaning.specs.Visits.{FirstOpen, HasNoDiffer, IsRuledOut, IsWhy, Visit, visit_of}
use Rattle.loop_check.specs.Finding.{AreRight, IsCut, IsCutRecord}
use Rattle.command_edge.specs.Puts.{Outcome, text, refused}
use Rattle.command_edge.specs.declared.ending.Ending.{Ending}
use Rattle.explore_command.specs.Explores.{IsEnding}
use Rattle.loops_command.specs.Loops.{LoopsOf}
use Rattle.loops_command.specs.Texts.{found_data, loops_in, loops_text, open_in, with_loop, with_open}
use Rattle.loops_command.specs.declared.text.OpenPaths.{OpenPaths}

-- a condition has one verdict, and none where it is refuted
pub record Verdicts : Type 0 where
  pub one : (c : SymCondition) (a b : Verdict) → IsVerdictOn c a → IsVerdictOn c b → a ≡ b
  pub unrefuted : (c : SymCondition) (a : Verdict) → IsVerdictOn c a → IsRefuted itself c → ⊥

pub verdicts_of : ((c : SymCondition) (a b : Verdict) → IsVerdictOn c a → IsVerdictOn c b → a ≡ b)
    → ((c : SymCondition) (a : Verdict) → IsVerdictOn c a → IsRefuted itself c → ⊥) → Verdicts
verdicts_of one unrefuted = record { one = one; unrefuted = unrefuted }

abbrev values_or : List ℕ → Verdict → List ℕ
values_or vs (Sat ws) = ws
values_or vs (Undecided cause) = vs

abbrev cause_or : Cause → Verdict → Cause
cause_or cause (Sat values) = cause
cause_or cause (Undecided own) = own

no_sat : (vs : List ℕ) (cause : Cause) → Sat vs ≡ Undecided cause → ⊥
no_sat vs cause e = cc e

module _ {A : Type 0} where
  first_same : {x y : A} {xs ys : List A} → x ∷ xs ≡ y ∷ ys → x ≡ y
  first_same e = cc

  rest_same : {x y : A} {xs ys : List A} → x ∷ xs ≡ y ∷ ys → xs ≡ ys
  rest_same e = cc

  none_some : {x : A} {xs : List A} → [] ≡ x ∷ xs → ⊥
  none_some e = cc

-- in a text both answers of the record of this number are the same
record SameTold (number : ℕ) (a b : LoopAnswer) : Type 0 where
  pub loops : (xs : List (ℕ × ℕ)) → with_loop number a xs ≡ with_loop number b xs
  pub opened : (xs : List (ℕ × List Differ)) → with_open number a xs ≡ with_open number b xs

-- ---- why a visit differs

module _ (known : Verdicts) where
  -- the first conditions that are not refuted are one
  both_open : (a b : Verdict) (cs : List SymCondition) → FirstOpen (λ c. IsVerdictOn c a) cs → FirstOpen (λ c. IsVerdictOn c b) cs → a ≡ b
  both_open a b [] h k = absurd h
  both_open a b (c ∷ cs) (inl h) (inl k) = known.one c a b h k
  both_open a b (c ∷ cs) (inl h) (inr k) = absurd (known.unrefuted c a h k.0.0)
  both_open a b (c ∷ cs) (inr h) (inl k) = absurd (known.unrefuted c b k h.0.0)
  both_open a b (c ∷ cs) (inr h) (inr k) = both_open a b cs h.1 k.1

  open_not_all : (a : Verdict) (cs : List SymCondition) → FirstOpen (λ c. IsVerdictOn c a) cs → AllByRecursion IsRuledOut cs → ⊥
  open_not_all a [] h k = h
  open_not_all a (c ∷ cs) (inl h) k = known.unrefuted c a h k.0.0
  open_not_all a (c ∷ cs) (inr h) k = open_not_all a cs h.1 k.1

  module _ (visit last : Visit) (c : SymCondition) where
    one_why : (a b : Why) → IsWhy visit last c a → IsWhy visit last c b → a ≡ b
    one_why Choice Choice h k = refl
    one_why Choice Layout h k = absurd (h k.0)
    one_why Choice (Cell vs) h k = absurd (h k.choices)
    one_why Choice (Unknown cause) h k = absurd (h k.choices)
    one_why Layout Choice h k = absurd (k h.0)
    one_why Layout Layout h k = refl
    one_why Layout (Cell vs) h k = absurd (h.1 k.layout)
    one_why Layout (Unknown cause) h k = absurd (h.1 k.layout)
    one_why (Cell vs) Choice h k = absurd (k h.choices)
    one_why (Cell vs) Layout h k = absurd (k.1 h.layout)
    one_why (Cell vs) (Cell ws) h k = ap (λ (v : Verdict). Cell (values_or vs v)) (both_open (Sat vs) (Sat ws) _ h.first k.first)
    one_why (Cell vs) (Unknown cause) h k = absurd (no_sat vs cause (both_open (Sat vs) (Undecided cause) _ h.first k.first))
    one_why (Unknown cause) Choice h k = absurd (k h.choices)
    one_why (Unknown cause) Layout h k = absurd (k.1 h.layout)
    one_why (Unknown cause) (Cell ws) h k = absurd (no_sat ws cause (both_open (Sat ws) (Undecided cause) _ k.first h.first))
    one_why (Unknown cause) (Unknown other) h k =
        ap (λ (v : Verdict). Unknown (cause_or cause v)) (both_open (Undecided cause) (Undecided other) _ h.first k.first)

    why_not_none : (why : Why) → IsWhy visit last c why → HasNoDiffer visit last c → ⊥
    why_not_none Choice h k = h k.choices
    why_not_none Layout h k = h.1 k.layout
    why_not_none (Cell vs) h k = open_not_all (Sat vs) _ h.first k.cells
    why_not_none (Unknown cause) h k = open_not_all (Undecided cause) _ h.first k.cells

  -- ---- the answer on a path

  module _ (c : SymCondition) (last : Arrival) where
    abbrev Differs : Arrival → Type 0
    Differs a = a.0 ≡ last.0 → (why : Why) × IsWhy (visit_of a.1) (visit_of last.1) c why

    one_differs : (place : ℕ) (earlier : List Arrival) (ds es : List Differ) → AreDiffers c last place earlier ds → AreDiffers c last place earlier es → ds ≡ es
    one_differs place [] ds es h k = h ∙ sym k
    one_differs place (a ∷ earlier) ds es (inl h) (inl k) =
        let why = one_why (visit_of a.1) (visit_of last.1) c h.why k.why h.because k.because in
        let rest = one_differs (suc place) earlier h.rest k.rest h.others k.others in
        h.is ∙ ((λ j. record { place = place; why = why j } ∷ rest j) ∙ sym k.is)
    one_differs place (a ∷ earlier) ds es (inl h) (inr k) = absurd (k.0 h.at)
    one_differs place (a ∷ earlier) ds es (inr h) (inl k) = absurd (h.0 k.at)
    one_differs place (a ∷ earlier) ds es (inr h) (inr k) = one_differs (suc place) earlier ds es h.1 k.1

    all_differ : (place : ℕ) (earlier : List Arrival) (ds : List Differ) → AreDiffers c last place earlier ds → AllByRecursion Differs earlier
    all_differ place [] ds h = tt
    all_differ place (a ∷ earlier) ds (inl h) = ((λ at. (h.why, h.because)), all_differ (suc place) earlier h.rest h.others)
    all_differ place (a ∷ earlier) ds (inr h) = ((λ at. absurd (h.0 at)), all_differ (suc place) earlier ds h.1)

    -- a visit that differs has a difference
    not_both : (a : Arrival) → a.0 ≡ last.0 → HasNoDiffer (visit_of a.1) (visit_of last.1) c → Differs a → ⊥
    not_both a at none differs = let (why, is) = differs at in why_not_none (visit_of a.1) (visit_of last.1) c why is none

    in_front : (front rest : List Arrival) (visit : Arrival) → AllByRecursion Differs (front ++ visit ∷ rest) → Differs visit
    in_front [] rest visit all = all.0
    in_front (a ∷ front) rest visit all = in_front front rest visit all.1

    one_front : (f g r s : List Arrival) (v w : Arrival) → f ++ v ∷ r ≡ g ++ w ∷ s
        → v.0 ≡ last.0 → HasNoDiffer (visit_of v.1) (visit_of last.1) c → AllByRecursion Differs f
        → w.0 ≡ last.0 → HasNoDiffer (visit_of w.1) (visit_of last.1) c → AllByRecursion Differs g → length f ≡ length g
    one_front [] [] r s v w e at none sooner there free earlier = refl
    one_front [] (b ∷ g) r s v w e at none sooner there free earlier = absurd (not_both v at none (subst Differs (sym (first_same e)) earlier.0))
    one_front (a ∷ f) [] r s v w e at none sooner there free earlier = absurd (not_both w there free (subst Differs (first_same e) sooner.0))
    one_front (a ∷ f) (b ∷ g) r s v w e at none sooner there free earlier =
        ap suc (one_front f g r s v w (rest_same e) at none sooner.1 there free earlier.1)

    one_loop : (earlier : List Arrival) (first other : ℕ) → IsFirstLoop c last earlier first → IsFirstLoop c last earlier other → first ≡ other
    one_loop earlier first other h k =
        h.numbered
        ∙ (one_front h.front k.front h.rest k.rest h.visit k.visit (sym h.joined ∙ k.joined) h.at h.none h.sooner k.at k.none k.sooner ∙ sym k.numbered)

    no_loop : (earlier : List Arrival) (first : ℕ) (ds : List Differ) → IsFirstLoop c last earlier first → AreDiffers c last 0 earlier ds → ⊥
    no_loop earlier first ds h k =
        not_both h.visit h.at h.none
        (in_front h.front h.rest h.visit (subst (AllByRecursion Differs) h.joined (all_differ 0 earlier ds k)))

    -- what is found of the path, with what is found of others behind it
    same_told : (number : ℕ) (earlier : List Arrival) (a b : LoopAnswer) → IsAnswerOn c last earlier a → IsAnswerOn c last earlier b → SameTold number a b
    same_told number earlier (Loop first) (Loop other) h k =
        let e = one_loop earlier first other h k in
        record { loops = λ xs. ap (λ n. (n, number) ∷ xs) e; opened = λ xs. refl }
    same_told number earlier (Loop first) (Open differs) h k = absurd (no_loop earlier first differs.items h k)
    same_told number earlier (Open differs) (Loop first) h k = absurd (no_loop earlier first differs.items k h)
    same_told number earlier (Open differs) (Open others) h k =
        let e = one_differs 0 earlier differs.items others.items h k in
        record { loops = λ xs. refl; opened = λ xs. ap (λ ds. (number, ds) ∷ xs) e }

-- ---- of all records

cut_is : (end' : End) → IsCut end' → end' ≡ Cut
cut_is Cut h = refl
cut_is Delivered h = absurd h
cut_is Stopped h = absurd h
cut_is (Failed failure site) h = absurd h

decisions_same : (x : RecordTree) → decisions_of (without_refutation x) ≡ decisions_of x
decisions_same (path ds places end' fields verdict) = refl
decisions_same (pruned ds before refutation) = refl
decisions_same (unexplored ds) = refl

cut_to : (x : RecordTree) → IsCutRecord x → IsCutRecord (without_refutation x)
cut_to (path ds places end' fields verdict) h = h
cut_to (pruned ds before refutation) h = h
cut_to (unexplored ds) h = h

cut_back : (x : RecordTree) → IsCutRecord (without_refutation x) → IsCutRecord x
cut_back (path ds places end' fields verdict) h = h
cut_back (pruned ds before refutation) h = h
cut_back (unexplored ds) h = h

pub ok_same : {A E : Type 0} {x y : A} → ◌≡◌ {A = Result A E} (Ok x) (Ok y) → x ≡ y
ok_same e = cc e

module _ (net : Network) (i : Entry) (hops : ℕ) (arrive : CutPathsArrive net i hops) (start : SymStart) (explored : IsExplored net i hops start) where
  -- the way of a record that is cut
  pub cut_path : (x : RecordTree) → IsCutRecord x → IsGood start x → CutPath start (decisions_of x)
  cut_path (path ds places end' fields verdict) cut good =
      arrive start explored ds good.meaning.way good.meaning.progress good.meaning.leads
      (good.meaning.ended ∙ ap (λ (e : End). over good.meaning.progress e) (cut_is end' cut))
  cut_path (pruned ds before refutation) cut good = absurd cut
  cut_path (unexplored ds) cut good = absurd cut

module _ (known : Verdicts) (net : Network) (i : Entry) (hops : ℕ) (arrive : CutPathsArrive net i hops) (start : SymStart) (explored : IsExplored net i hops start) where
  told_at : (ds : List Decision) (answer : LoopAnswer) → IsRight net i hops ds answer → (p : CutPath start ds)
      → IsAnswerOn (condition_on start p.way) p.last p.earlier answer
  told_at ds answer right p =
      let same : right.start ≡ start = ok_same (sym right.explored ∙ explored) in
      (subst (λ (s : SymStart). IsAnswerOf s ds answer) same right.told) p

  same_right : (number : ℕ) (ds : List Decision) (a b : LoopAnswer) → CutPath start ds → IsRight net i hops ds a → IsRight net i hops ds b → SameTold number a b
  same_right number ds a b p h k =
      same_told known (condition_on start p.way) p.last number p.earlier a b (told_at ds a h p) (told_at ds b k p)

  same_found : (number : ℕ) (xs ys : List RecordTree) (fs gs : List (ℕ × LoopAnswer)) → AllByRecursion (IsGood start) xs
      → map without_refutation xs ≡ map without_refutation ys → AreRight net i hops number xs fs → AreRight net i hops number ys gs
      → (loops_in fs ≡ loops_in gs) × (open_in fs ≡ open_in gs)
  same_found number [] [] fs gs good e h k = (ap loops_in (h ∙ sym k), ap open_in (h ∙ sym k))
  same_found number [] (y ∷ ys) fs gs good e h k = absurd (none_some e)
  same_found number (x ∷ xs) [] fs gs good e h k = absurd (none_some (sym e))
  same_found number (x ∷ xs) (y ∷ ys) fs gs good e (inl h) (inl k) =
      let ds : decisions_of y ≡ decisions_of x = sym (decisions_same y) ∙ (ap decisions_of (sym (first_same e)) ∙ decisions_same x) in
      let told = same_right number (decisions_of x) h.answer k.answer (cut_path net i hops arrive start explored x h.cut good.0) h.so
      (subst (λ (own : List Decision). IsRight net i hops own k.answer) ds k.so) in
      let (loops, opened) = same_found (suc number) xs ys h.rest k.rest good.1 (rest_same e) h.others k.others in (
        ap loops_in h.is ∙ (ap (with_loop number h.answer) loops ∙ (told.loops (loops_in k.rest) ∙ sym (ap loops_in k.is))),
        ap open_in h.is ∙ (ap (with_open number h.answer) opened ∙ (told.opened (open_in k.rest) ∙ sym (ap open_in k.is))),
      )
  same_found number (x ∷ xs) (y ∷ ys) fs gs good e (inl h) (inr k) =
      absurd (k.0 (cut_back y (subst IsCutRecord (first_same e) (cut_to x h.cut))))
  same_found number (x ∷ xs) (y ∷ ys) fs gs good e (inr h) (inl k) =
      absurd (h.0 (cut_back x (subst IsCutRecord (sym (first_same e)) (cut_to y k.cut))))
  same_found number (x ∷ xs) (y ∷ ys) fs gs good e (inr h) (inr k) = same_found (suc number) xs ys fs gs good.1 (rest_same e) h.1 k.1

-- ---- the text

-- all explorations of a job end alike
abbrev EndAlike : Type 0
EndAlike = (hops limit : ℕ) (net : Network) (i : Entry) (rs qs : List RecordTree) (a b : Ending) → AreExactFor net i hops limit rs
    → AreExactFor net i hops limit qs → IsEnding a rs → IsEnding b qs → a ≡ b

same_text : (detail : OpenPaths) (fs gs : List (ℕ × LoopAnswer)) → loops_in fs ≡ loops_in gs → open_in fs ≡ open_in gs → loops_text detail fs ≡ loops_text detail gs
unfolding loops_text
same_text detail fs gs loops opened = λ j. compact_text (found_data detail (loops j) (opened j)) ++ codes "\n"

pub loops_once : Verdicts → ((net : Network) (i : Entry) (hops : ℕ) → CutPathsArrive net i hops) → ((net : Network) (i : Entry) (hops : ℕ) → RecordsAreOne net i hops)
    → EndAlike → (hops limit : ℕ) (net : Network) (i : Entry) (detail : OpenPaths) (a b : Outcome) → LoopsOf hops limit net i detail a
    → LoopsOf hops limit net i detail b → a ≡ b
loops_once known arrive one alike hops limit net i detail (text ending whole) (text other line) h k =
    let rs = h.are.records in
    let qs = k.are.records in
    let exact = h.are.exact in
    let ends = alike hops limit net i rs qs ending other exact k.are.exact h.are.ends k.are.ends in
    let (loops, opened) = same_found known net i hops (arrive net i hops) exact.start exact.explored 0 rs qs h.found k.found exact.exact.good
    (one net i hops limit rs qs exact k.are.exact) h.are.right k.are.right in
    let lines = h.line ∙ (same_text detail h.found k.found loops opened ∙ sym k.line) in
    λ j. text (ends j) (lines j)
loops_once known arrive one alike hops limit net i detail (text ending whole) (refused fault) h k = absurd k
loops_once known arrive one alike hops limit net i detail (refused fault) b h k = absurd h
