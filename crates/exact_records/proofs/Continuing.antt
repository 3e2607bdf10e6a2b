-- Records that are done, and work that is left.
use Rattle.std.proofs.Common.{◌≡◌, ℕ, suc, ◌<◌, ◌≤◌, ◌⊎◌, inl, inr, true, false, List, [], ◌∷◌, ◌++◌, length, map, refl, sym, ap, subst, ◌∙◌, append_assoc, None}
use Rattle.std.specs.List.{AllByRecursion}
use Rattle.lin_term.specs.Terms.{LinearTerm}
use Rattle.path_formula.specs.Formulas.{FormulaTree}
use Rattle.sefl_meaning.specs.declared.walk.Decision.{Decision}
use Rattle.sefl_meaning.specs.declared.walk.Decision.TheVariants.{Copy}
use Rattle.sefl_meaning.specs.Courses.{Asking, Progress}
use Rattle.sefl_meaning.specs.Trees.{Tree, over, arrives, tests, splits, Copies, no_copies, copy_and}
use Rattle.sefl_meaning.specs.Taken.{decision_at}
use Rattle.sefl_meaning.specs.Routes.{Splits}
use Rattle.sefl_meaning.specs.Order.{BeginsWith, Parts}
use Rattle.exact_records.specs.Below.{Facts}
use Rattle.exact_records.specs.Records.{RecordTree, SymStart, Takes, decisions_of, pruned}
use Rattle.exact_records.specs.Exact.{AreExact, AreExactUpTo, ExactlyOne, IsCutOff, IsGood, IsTried, IsUpTo, IsWhole, IsWithin, RecordsAscend, SomeOne}
use Rattle.exact_records.specs.Shapes.{BeginsTried, Continues, CoverAll, CoverCopies, Covers, Joined, Piece, SideOf}
use Rattle.exact_records.specs.Points.{node_of}
use Rattle.exact_records.proofs.Lists.{append_nil, all_first, all_weaker, one_of_first, some_first, some_later, some_either}
use Rattle.exact_records.proofs.Begins.{parts_apart, parts_apart_back, parts_asym, parts_longer}
use Rattle.exact_records.proofs.Ordered.{Behind, side_of_ascends, covers_once, side_once}
use Rattle.exact_records.proofs.Begun.{side_of_some, side_of_begun}
use Rattle.exact_records.proofs.Shown.{shown_once}

first_tried : (xs ys : List RecordTree) → BeginsTried (xs ++ ys) → BeginsTried xs
first_tried [] ys h = tt
first_tried (x ∷ xs) ys h = h

module _ {V F : Type 0} where
  -- both sides of a test
  abbrev pub both_sides : List Decision → Asking → Tree V F → Tree V F → List (Piece V F)
  both_sides ds asking held broken =
      record { decisions = ds ++ decision_at asking true ∷ []; tree = held } ∷ record { decisions = ds ++ decision_at asking false ∷ []; tree = broken } ∷ []

  -- all copies, numbered from a number on
  abbrev pub all_copies : List Decision → ℕ → Copies V F → List (Piece V F)
  all_copies ds number no_copies = []
  all_copies ds number (copy_and t branches) = record { decisions = ds ++ Copy number ∷ []; tree = t } ∷ all_copies ds (suc number) branches

module _ {V F : Type 0} where
  -- ---- one step

  pub continue_made : (t : Tree V F) (limit : ℕ) (done : List RecordTree) (piece : Piece V F) (left : List (Piece V F)) (x : RecordTree)
      → SideOf piece.tree piece.decisions (x ∷ []) → (length done < limit → IsTried x) → Continues t limit done (piece ∷ left) → Continues t limit (done ++ x ∷ []) left
  continue_made t limit done piece left x side tried h = record {
    goes_on = λ rest covers next.
        subst (SideOf t []) (sym (append_assoc done (x ∷ []) rest))
        (h.goes_on (x ∷ rest) (record { first = x ∷ []; later = rest; is = refl; firsts = side; laters = covers }) tried);
  }

  cover_all_apart : (xs ys : List (Piece V F)) (rs : List RecordTree) → CoverAll (xs ++ ys) rs → Joined (CoverAll xs) (CoverAll ys) rs
  cover_all_apart [] ys rs h = record { first = []; later = rs; is = refl; firsts = refl; laters = h }
  cover_all_apart (x ∷ xs) ys rs h =
      let k = cover_all_apart xs ys h.later h.laters in
      record {
        first = h.first ++ k.first;
        later = k.later;
        is = h.is ∙ (ap (λ zs. h.first ++ zs) k.is ∙ sym (append_assoc h.first k.first k.later));
        firsts = record { first = h.first; later = k.first; is = refl; firsts = h.firsts; laters = k.firsts };
        laters = k.laters;
      }

  pub continue_opened : (t : Tree V F) (limit : ℕ) (done : List RecordTree) (piece : Piece V F) (opened left : List (Piece V F))
      → ((rs : List RecordTree) → CoverAll opened rs → Covers piece.tree piece.decisions rs) → length done < limit → Continues t limit done (piece ∷ left)
      → Continues t limit done (opened ++ left)
  continue_opened t limit done piece opened left opens below h = record {
    goes_on = λ rest covers next.
        let k = cover_all_apart opened left rest covers in
        h.goes_on rest (record { first = k.first; later = k.later; is = k.is; firsts = inr (first_tried k.first k.later (subst BeginsTried k.is (next below)), opens k.first k.firsts); laters = k.laters })
        (λ b. next b);
  }

  pub continue_start : (t : Tree V F) (limit : ℕ) → Continues t limit [] (record { decisions = []; tree = t } ∷ [])
  continue_start t limit = record {
    goes_on = λ rest covers next. subst (SideOf t []) (sym (append_nil covers.first) ∙ (ap (λ zs. covers.first ++ zs) (sym covers.laters) ∙ sym covers.is)) covers.firsts;
  }

  -- ---- nodes

  pub covers_node : (t : Tree V F) (ds : List Decision) (rs : List RecordTree) → Covers (node_of t) ds rs → Covers t ds rs
  covers_node (over p end') ds rs h = h
  covers_node (arrives place p t) ds rs h = covers_node t ds rs h
  covers_node (tests asking p test held broken) ds rs h = h
  covers_node (splits p branches) ds rs h = h

  pub sides_cover : (ds : List Decision) (asking : Asking) (p : Progress V) (test : F) (held broken : Tree V F) (rs : List RecordTree)
      → CoverAll (both_sides ds asking held broken) rs → Covers (tests asking p test held broken) ds rs
  sides_cover ds asking p test held broken rs h = record {
    first = h.first;
    later = h.laters.first;
    is = h.is ∙ ap (λ zs. h.first ++ zs) (h.laters.is ∙ (ap (λ zs. h.laters.first ++ zs) h.laters.laters ∙ append_nil h.laters.first));
    firsts = h.firsts;
    laters = h.laters.firsts;
  }

  pub copies_cover : (branches : Copies V F) (ds : List Decision) (number : ℕ) (rs : List RecordTree) → CoverAll (all_copies ds number branches) rs → CoverCopies branches number ds rs
  copies_cover no_copies ds number rs h = h
  copies_cover (copy_and t branches) ds number rs h =
      record { first = h.first; later = h.later; is = h.is; firsts = h.firsts; laters = copies_cover branches ds (suc number) h.later h.laters }

-- ---- at each moment

module _ {V F : Type 0} where
  -- as if each piece that is left were refuted
  abbrev stands_in : Piece V F → RecordTree
  stands_in piece = pruned piece.decisions None []

  as_if : (left : List (Piece V F)) → CoverAll left (map stands_in left)
  as_if [] = refl
  as_if (piece ∷ left) = record {
    first = stands_in piece ∷ [];
    later = map stands_in left;
    is = refl;
    firsts = inl (record { it = stands_in piece; is = refl; has = refl });
    laters = as_if left;
  }

  as_if_tried : (left : List (Piece V F)) → BeginsTried (map stands_in left)
  as_if_tried [] = tt
  as_if_tried (piece ∷ left) = λ h. h

  -- whatever is left, some records go on from those that are done
  can_go_on : (t : Tree V F) (limit : ℕ) (done : List RecordTree) (left : List (Piece V F)) → Continues t limit done left
      → (rest : List RecordTree) × SideOf t [] (done ++ rest)
  can_go_on t limit done left h = (map stands_in left, h.goes_on (map stands_in left) (as_if left) (λ b. as_if_tried left))

ascend_first : (xs ys : List RecordTree) → RecordsAscend (xs ++ ys) → RecordsAscend xs
ascend_first [] ys h = tt
ascend_first (x ∷ xs) ys h = (all_first _ xs ys h.0, ascend_first xs ys h.1)

-- what stands later comes after
comes_after : (xs : List RecordTree) (x : RecordTree) (ys : List RecordTree) → RecordsAscend ((xs ++ x ∷ []) ++ ys) → AllByRecursion (λ y. Parts (decisions_of x) (decisions_of y)) ys
comes_after [] x ys h = h.0
comes_after (z ∷ xs) x ys h = comes_after xs x ys h.1

-- lists that begin the same do not part
begin_alike : (xs ys zs : List Decision) → BeginsWith xs zs → BeginsWith ys zs → Parts xs ys → ⊥
begin_alike xs ys zs b c p =
    parts_apart zs [] (subst (λ us. Parts zs us) (sym (append_nil zs)) (subst (λ us. Parts us zs) b.1 (subst (λ us. Parts (xs ++ b.0) us) c.1 (parts_longer xs ys b.0 c.0 p))))

-- a later record begins none of what is up to the last one
later_not_begun : (last ds : List Decision) (y : RecordTree) → BeginsWith last ds ⊎ IsUpTo ds last → Parts last (decisions_of y) → BeginsWith (decisions_of y) ds → ⊥
later_not_begun last ds y (inl begins) parts k = begin_alike last (decisions_of y) ds begins k parts
later_not_begun last ds y (inr (inl begins)) parts k =
    parts_apart_back (decisions_of y) (k.0 ++ begins.0)
    (subst (λ us. Parts us (decisions_of y)) (sym begins.1 ∙ (ap (λ us. us ++ begins.0) (sym k.1) ∙ append_assoc (decisions_of y) k.0 begins.0)) parts)
later_not_begun last ds y (inr (inr before)) parts k =
    parts_asym last ds
    (subst (λ us. Parts us ds) (append_nil last) (subst (λ us. Parts (last ++ []) us) k.1 (parts_longer last (decisions_of y) [] k.0 parts))) before

-- of what is offered up to the last record, a record that begins with it is done
later_is_done : (last ds : List Decision) (y : RecordTree) → IsUpTo ds last → Parts last (decisions_of y) → BeginsWith ds (decisions_of y) → BeginsWith ds last
later_is_done last ds y (inl begins) parts k = begins
later_is_done last ds y (inr before) parts k =
    absurd (parts_asym last (decisions_of y) parts (subst (λ us. Parts us last) k.1 (subst (λ us. Parts (ds ++ k.0) us) (append_nil last) (parts_longer ds last k.0 [] before))))

among : (last : RecordTree) (ys : List RecordTree) (ds : List Decision) → IsUpTo ds (decisions_of last) → SomeOne (λ y. BeginsWith ds (decisions_of y)) ys
    → AllByRecursion (λ y. Parts (decisions_of last) (decisions_of y)) ys → BeginsWith ds (decisions_of last)
among last [] ds within k after = absurd k
among last (y ∷ ys) ds within (inl k) after = later_is_done (decisions_of last) ds y within after.0 k
among last (y ∷ ys) ds within (inr k) after = among last ys ds within k after.1

nothing_left : (rs : List RecordTree) → SomeOne (Behind []) rs → rs ≡ [] → ⊥
nothing_left [] h e = h
nothing_left (x ∷ rs) h e = cc

module _ (facts : Facts) (s : SymStart) where
  side_shown : (rs : List RecordTree) → SideOf s.tree [] rs → (v : List ℕ) (ds : List Decision) → Takes s v ds → ExactlyOne (λ x. BeginsWith (decisions_of x) ds) rs
  side_shown rs h v ds t = side_once [] ds rs _ (λ m. covers_once s.tree [] rs m ds t.way t.progress t.end' t.leads t.ended) h

  -- records that are done, with others behind them that stand for what is left
  so_far : (limit : ℕ) (done : List RecordTree) (last : RecordTree) (rest : List RecordTree) → Splits s.tree → SideOf s.tree [] ((done ++ last ∷ []) ++ rest)
      → AllByRecursion (IsGood s) (done ++ last ∷ []) → IsWithin limit (done ++ last ∷ []) → AreExactUpTo s limit done last
  so_far limit done last rest spl h good within' =
      let order = side_of_ascends s.tree [] ((done ++ last ∷ []) ++ rest) h in
      let after = comes_after done last rest order in
      record {
        ascend = ascend_first (done ++ last ∷ []) rest order;
        good = good;
        once = λ v ds t within.
            shown_once facts s v ds (done ++ last ∷ []) t good
            (one_of_first _ (done ++ last ∷ []) rest (all_weaker _ _ rest (λ y p k. later_not_begun (decisions_of last) ds y within p k) after)
            (side_shown ((done ++ last ∷ []) ++ rest) h v ds t));
        begun = λ p c d more some opens within.
            elim (some_either _ (done ++ last ∷ []) rest (side_of_begun s.tree ((done ++ last ∷ []) ++ rest) spl h p c d more (some_first _ (done ++ last ∷ []) rest some) opens.0 opens.1)) [
              | inl k ↦ k
              | inr k ↦ some_later _ done (last ∷ []) (inl (among last rest (p ++ d ∷ []) within k after))
            ];
        within = within';
      }

  -- at each moment
  pub exact_so_far : (limit : ℕ) (done : List RecordTree) (last : RecordTree) (left : List (Piece LinearTerm FormulaTree)) → Splits s.tree → Continues s.tree limit (done ++ last ∷ []) left
      → AllByRecursion (IsGood s) (done ++ last ∷ []) → IsWithin limit (done ++ last ∷ []) → AreExactUpTo s limit done last
  exact_so_far limit done last left spl h good within =
      let k = can_go_on s.tree limit (done ++ last ∷ []) left h in
      so_far limit done last k.0 spl k.1 good within

  -- the last record comes before the next piece
  pub exact_apart : (limit : ℕ) (done : List RecordTree) (last : RecordTree) (piece : Piece LinearTerm FormulaTree) (left : List (Piece LinearTerm FormulaTree))
      → Continues s.tree limit (done ++ last ∷ []) (piece ∷ left) → Parts (decisions_of last) piece.decisions
  exact_apart limit done last piece left h =
      let side = h.goes_on (map stands_in (piece ∷ left)) (as_if (piece ∷ left)) (λ b. as_if_tried (piece ∷ left)) in
      (comes_after done last (map stands_in (piece ∷ left)) (side_of_ascends s.tree [] ((done ++ last ∷ []) ++ map stands_in (piece ∷ left)) side)).0

  -- in the end, but for the limit
  pub exact_by : (limit : ℕ) (rs : List RecordTree) → Splits s.tree → SideOf s.tree [] rs → AllByRecursion (IsGood s) rs
      → (IsWhole limit rs ⊎ IsCutOff s limit rs) → AreExact s limit rs
  exact_by limit rs spl h good limited = record {
    ascend = side_of_ascends s.tree [] rs h;
    good = good;
    once = λ v ds t. shown_once facts s v ds rs t good (side_shown rs h v ds t);
    limited = limited;
    some = nothing_left rs (side_of_some s.tree [] rs spl h);
    begun = λ p c d more some opens within. side_of_begun s.tree rs spl h p c d more some opens.0 opens.1;
  }

  -- in the end, below the limit
  pub exact_whole : (limit : ℕ) (rs : List RecordTree) → Splits s.tree → Continues s.tree limit rs [] → AllByRecursion (IsGood s) rs
      → AllByRecursion IsTried rs → length rs ≤ limit → AreExact s limit rs
  exact_whole limit rs spl h good tried count =
      exact_by limit rs spl (subst (SideOf s.tree []) (append_nil rs) (h.goes_on [] refl (λ b. tt))) good (inl (record { tried = tried; count = count }))
