-- Formulas that follow from a condition, those that values break, and what they decide of it.
use denote.Ref.{Bor}
use Rattle.std.proofs.Common.{◌≡◌, ◌∙◌, ◌⊎◌, ◌<◌, ◌≤◌, inl, inr, ℕ, zero, suc, ◌+◌, ◌-◌, ◌^◌, Bool, true, false, true≢false, not, cond, ◌&&◌, ◌||◌, List, [], ◌∷◌, ◌++◌, drop, get_or, length, map, refl, sym, ap, subst, arith, None, Some, slice_get}
use Rattle.std.proofs.lemmas.List.{drop_all}
use Rattle.std.specs.List.{AllByRecursion, list_all, position_from}
use Rattle.path_formula.specs.Formulas.{FormulaTree}
use Rattle.path_formula.specs.Typed.{IsTyped}
use Rattle.path_formula.specs.View.{view}
use Rattle.path_formula.specs.declared.formula.Formula.{Formula}
use Rattle.path_cond.specs.Conditions.{Condition}
use Rattle.path_cond.specs.Seen.{AllTyped, entry_holds, entry_seen, itself, seen, tried}
use Rattle.refutation_check.specs.Longer.{condition_of, with_entries}
use Rattle.refutation_check.specs.Seen.{AreLeast, IsMetBy, IsWithinLimits, holds_unless_outside, is_broken_outside, is_outside}
use Rattle.sefl_meaning.specs.Order.{Has}
use Rattle.exact_records.specs.Records.{SymCondition}
use Rattle.compare_meaning.specs.Facing.{IsImpossible}
use Rattle.compare_typing.specs.Selecting.{FewAreWithin, Follows, LeastOfSome, SomeRefuteAll}
use Rattle.net_compare.specs.declared.joining.Decidable.{Decidable}
use Rattle.net_compare.specs.Joining.{IsReady, each_with}
use Rattle.net_compare.specs.Needing.{IsNeeded}
use Rattle.net_compare.specs.Rows.{lent_seen, row_seen}
use Rattle.net_compare.specs.Weighing.{AreTypedAs, FollowsFrom, IsSelectionOf, IsSmall}
use Rattle.net_compare.proofs.SliceLemmas.{split_mapped}
use Rattle.net_compare.proofs.TornLemmas.{has_lent}

-- ---- a formula that is outside or has its truth

pub either_holds : (outside holds : Bool) → holds ≡ true → true ≡ (outside || holds)
either_holds true holds h = refl
either_holds false holds h = sym h

pub only_outside : (outside holds : Bool) → holds ≡ false → outside ≡ (outside || holds)
only_outside true holds h = refl
only_outside false holds h = sym h

not_outside : (outside holds : Bool) → (outside || holds) ≡ false → outside ≡ false
not_outside true holds h = h
not_outside false holds h = refl

only_holds : (outside holds : Bool) → outside ≡ false → (outside || holds) ≡ true → holds ≡ true
only_holds true holds e h = absurd (true≢false e)
only_holds false holds e h = h

left_is : (a b : Bool) → (a && b) ≡ true → a ≡ true
left_is true b h = refl
left_is false b h = h

right_is : (a b : Bool) → (a && b) ≡ true → b ≡ true
right_is true b h = h
right_is false b h = absurd (true≢false (sym h))

both_are : (a b : Bool) → a ≡ true → b ≡ true → (a && b) ≡ true
both_are a b h k = λ i. h i && k i

-- ---- lists

has_pass : (p : FormulaTree × Bool → Bool) (es : List (FormulaTree × Bool)) (e : FormulaTree × Bool) → list_all p es ≡ true → Has es e → p e ≡ true
has_pass p [] e h k = absurd k
has_pass p (x ∷ es) e h (inl same) = subst (λ z. p z ≡ true) same (left_is (p x) (list_all p es) h)
has_pass p (x ∷ es) e h (inr k) = has_pass p es e (right_is (p x) (list_all p es) h) k

typed_at : (ws : List ℕ) (es : List (FormulaTree × Bool)) (e : FormulaTree × Bool) → AllTyped itself ws es → Has es e → IsTyped ws e.0
typed_at ws [] e h k = absurd k
typed_at ws (x ∷ es) e h (inl same) = subst (λ y. IsTyped ws y.0) same h.0
typed_at ws (x ∷ es) e h (inr k) = typed_at ws es e h.1 k

pass_first : (p : FormulaTree × Bool → Bool) (xs ys : List (FormulaTree × Bool)) → list_all p (xs ++ ys) ≡ true → list_all p xs ≡ true
pass_first p [] ys h = refl
pass_first p (x ∷ xs) ys h = both_are (p x) (list_all p xs) (left_is (p x) (list_all p (xs ++ ys)) h) (pass_first p xs ys (right_is (p x) (list_all p (xs ++ ys)) h))

pass_later : (p : FormulaTree × Bool → Bool) (xs ys : List (FormulaTree × Bool)) → list_all p (xs ++ ys) ≡ true → list_all p ys ≡ true
pass_later p [] ys h = h
pass_later p (x ∷ xs) ys h = pass_later p xs ys (right_is (p x) (list_all p (xs ++ ys)) h)

pub pass_both : (p : FormulaTree × Bool → Bool) (xs ys : List (FormulaTree × Bool)) → list_all p xs ≡ true → list_all p ys ≡ true → list_all p (xs ++ ys) ≡ true
pass_both p [] ys h k = k
pass_both p (x ∷ xs) ys h k =
    both_are (p x) (list_all p (xs ++ ys)) (left_is (p x) (list_all p xs) h) (pass_both p xs ys (right_is (p x) (list_all p xs) h) k)

typed_first : (ws : List ℕ) (xs ys : List (FormulaTree × Bool)) → AllTyped itself ws (xs ++ ys) → AllTyped itself ws xs
typed_first ws [] ys h = tt
typed_first ws (x ∷ xs) ys h = (h.0, typed_first ws xs ys h.1)

typed_later : (ws : List ℕ) (xs ys : List (FormulaTree × Bool)) → AllTyped itself ws (xs ++ ys) → AllTyped itself ws ys
typed_later ws [] ys h = h
typed_later ws (x ∷ xs) ys h = typed_later ws xs ys h.1

all_weaker : {A : Type 0} (P Q : A → Type 0) (xs : List A) → ((x : A) → P x → Q x) → AllByRecursion P xs → AllByRecursion Q xs
all_weaker P Q [] f h = tt
all_weaker P Q (x ∷ xs) f h = (f x h.0, all_weaker P Q xs f h.1)

all_join : {A : Type 0} (P : A → Type 0) (xs ys : List A) → AllByRecursion P xs → AllByRecursion P ys → AllByRecursion P (xs ++ ys)
all_join P [] ys h k = k
all_join P (x ∷ xs) ys h k = (h.0, all_join P xs ys h.1 k)

has_there : (row : List (Bor Formula × Bool)) (n : ℕ) (d : Bor Formula × Bool) → n < length row → Has (row_seen row) (lent_seen (get_or row n d))
has_there [] n d less = absurd (omega (arith, less))
has_there (x ∷ row) zero d less = inl refl
has_there (x ∷ row) (suc n) d less = inr (has_there row n d (omega (arith, less)))

-- ---- formulas that follow from a row

-- what is needed of a formula of it that is not outside
module _ (es : List (FormulaTree × Bool)) (e : FormulaTree × Bool) (has : Has es e) (g : Formula) (need : IsNeeded e.0 e.1 (view g)) where
  needed_follows : is_outside itself e ≡ false → FollowsFrom es g
  needed_follows inner = record {
    holds = λ values h.
        need.follows values (only_holds (is_outside itself e) (entry_holds itself values e) inner (has_pass (holds_unless_outside itself values) es e h has));
  }

  needed_typed : (ws : List ℕ) → AllTyped itself ws es → IsTyped ws (view g)
  needed_typed ws h = need.typed ws (typed_at ws es e h has)

-- the loop over a row
module _ (values : List ℕ) (row : List (Bor Formula × Bool)) where
  abbrev stands : FormulaTree × Bool → Bool
  stands e = holds_unless_outside itself values e

  pub record BrokenSoFar (n : ℕ) (list : List Formula) : Type 0 where
    pub follow : AllByRecursion (FollowsFrom (row_seen row)) list
    pub typed : AreTypedAs (row_seen row) list
    pub none : list ≡ [] → list_all stands (row_seen (drop n row)) ≡ true → list_all stands (row_seen row) ≡ true

  pub broken_first : BrokenSoFar 0 []
  broken_first = record { follow = tt; typed = λ ws h. tt; none = λ e h. h }

  module _ (n : ℕ) (d : Bor Formula × Bool) (less : n < length row) (is : d ≡ get_or row n d) (list : List Formula) (so : BrokenSoFar n list) where
    here : list_all stands (row_seen (drop n row)) ≡ (stands (lent_seen d) && list_all stands (row_seen (drop (n + 1) row)))
    here = ap (list_all stands) (split_mapped lent_seen row n d less is)

    pub broken_past : stands (lent_seen d) ≡ true → BrokenSoFar (n + 1) list
    broken_past h = record {
      follow = so.follow;
      typed = so.typed;
      none = λ e k. so.none e (here ∙ both_are (stands (lent_seen d)) (list_all stands (row_seen (drop (n + 1) row))) h k);
    }

    never : (g : Formula) → list ++ g ∷ [] ≡ [] → ⊥
    never g e = by list e
      where
        by : (xs : List Formula) → xs ++ g ∷ [] ≡ [] → ⊥
        by [] e = let bad : g ∷ [] ≡ [] = e in cc
        by (x ∷ xs) e = let bad : x ∷ (xs ++ g ∷ []) ≡ [] = e in cc

    pub broken_here : stands (lent_seen d) ≡ false → (g : Formula) (more : List Formula) → IsNeeded (view d.0.now) d.1 (view g) → more ≡ list ++ g ∷ [] → BrokenSoFar (n + 1) more
    broken_here h g more need longer =
        let has : Has (row_seen row) (lent_seen d) = subst (λ x. Has (row_seen row) (lent_seen x)) (sym is) (has_there row n d less) in
        let inner = not_outside (is_outside itself (lent_seen d)) (entry_holds itself values (lent_seen d)) h in
        let follows = needed_follows (row_seen row) (lent_seen d) has g need inner in
        subst (BrokenSoFar (n + 1)) (sym longer) (record {
          follow = all_join (FollowsFrom (row_seen row)) list (g ∷ []) so.follow (follows, tt);
          typed = λ ws k. all_join (λ f. IsTyped ws (view f)) list (g ∷ []) (so.typed ws k) (needed_typed (row_seen row) (lent_seen d) has g need ws k, tt);
          none = λ e k. absurd (never g e);
        })

  pub broken_end : (n : ℕ) → length row ≤ n → (list : List Formula) → BrokenSoFar n list → list ≡ [] → list_all stands (row_seen row) ≡ true
  broken_end n past list so e = so.none e (ap (λ xs. list_all stands (row_seen xs)) (drop_all n row past))

-- the last formula of a row
module _ (row : List (Bor Formula × Bool)) (n : ℕ) (d : Bor Formula × Bool) (at : slice_get row n ≡ Some d) (g : Formula) (need : IsNeeded (view d.0.now) d.1 (view g)) (list : List Formula)
    (is : list ≡ g ∷ []) where
  pub last_follows : is_outside itself (lent_seen d) ≡ false → AllByRecursion (FollowsFrom (row_seen row)) list
  last_follows inner = subst (AllByRecursion (FollowsFrom (row_seen row))) (sym is) (needed_follows (row_seen row) (lent_seen d) (has_lent row n d at) g need inner, tt)

  pub last_typed : AreTypedAs (row_seen row) list
  last_typed ws h = subst (AllByRecursion (λ f. IsTyped ws (view f))) (sym is) (needed_typed (row_seen row) (lent_seen d) (has_lent row n d at) g need ws h, tt)

pub nothing_follows : (es : List (FormulaTree × Bool)) (list : List Formula) → list ≡ [] → AllByRecursion (FollowsFrom es) list
nothing_follows es list is = subst (AllByRecursion (FollowsFrom es)) (sym is) tt

pub nothing_typed : (es : List (FormulaTree × Bool)) (list : List Formula) → list ≡ [] → AreTypedAs es list
nothing_typed es list is ws h = subst (AllByRecursion (λ f. IsTyped ws (view f))) (sym is) tt

-- ---- few symbols, and all choices of cases

pub small_by : FewAreWithin → (widths : List ℕ) (most : ℕ) → most ≡ 2 ^ 64 - 1 → length widths ≤ 64 → IsSmall widths most
small_by law widths most is few es = law (condition_of most widths es) few (subst (λ m. 2 ^ 64 - 1 ≤ tried m) (sym is) (omega arith))

-- ---- selections

pub selection_first : (whole : SymCondition) (most : ℕ) (start : Decidable) → IsReady start → start.condition ≡ condition_of most whole.widths [] → IsSelectionOf whole start
selection_first whole most start ready is = record {
  ready = ready;
  widths = ap (λ (c : Condition). c.widths) is;
  follow = subst (λ (c : Condition). AllByRecursion (Follows whole.entries) (map (entry_seen view) c.entries)) (sym is) tt;
}

-- those that follow from one of two rows follow from both
follows_first : (xs ys : List (FormulaTree × Bool)) (f : Formula) → FollowsFrom xs f → FollowsFrom (xs ++ ys) f
follows_first xs ys f h = record { holds = λ values k. h.holds values (pass_first (holds_unless_outside itself values) xs ys k) }

follows_later : (xs ys : List (FormulaTree × Bool)) (f : Formula) → FollowsFrom ys f → FollowsFrom (xs ++ ys) f
follows_later xs ys f h = record { holds = λ values k. h.holds values (pass_later (holds_unless_outside itself values) xs ys k) }

-- formulas that are added to a selection
pub record AreToAdd (whole : SymCondition) (fs : List Formula) : Type 0 where
  pub follow : AllByRecursion (FollowsFrom whole.entries) fs
  pub typed : AllByRecursion (λ f. IsTyped whole.widths (view f)) fs

module _ (most : ℕ) (widths : List ℕ) (xs ys : List (FormulaTree × Bool)) (typed : AllTyped itself widths (xs ++ ys)) where
  pub first_to_add : (now list : List Formula) → now ≡ list → AllByRecursion (FollowsFrom xs) list → AreTypedAs xs list → AreToAdd (condition_of most widths (xs ++ ys)) now
  first_to_add now list lent_as follow as_they = subst (AreToAdd (condition_of most widths (xs ++ ys))) (sym lent_as) (record {
    follow = all_weaker (FollowsFrom xs) (FollowsFrom (xs ++ ys)) list (follows_first xs ys) follow;
    typed = as_they widths (typed_first widths xs ys typed);
  })

  pub later_to_add : (now list : List Formula) → now ≡ list → AllByRecursion (FollowsFrom ys) list → AreTypedAs ys list → AreToAdd (condition_of most widths (xs ++ ys)) now
  later_to_add now list lent_as follow as_they = subst (AreToAdd (condition_of most widths (xs ++ ys))) (sym lent_as) (record {
    follow = all_weaker (FollowsFrom ys) (FollowsFrom (xs ++ ys)) list (follows_later xs ys) follow;
    typed = as_they widths (typed_later widths xs ys typed);
  })

each_follows : (es : List (FormulaTree × Bool)) (fs : List Formula) → AllByRecursion (FollowsFrom es) fs → AllByRecursion (Follows es) (each_with true (map view fs))
each_follows es [] h = tt
each_follows es (f ∷ fs) h = (h.0, each_follows es fs h.1)

module _ (whole : SymCondition) (old : Decidable) (selection : IsSelectionOf whole old) (fs : List Formula) (add : AreToAdd whole fs) where
  pub added_typed : AllByRecursion (λ f. IsTyped old.condition.widths (view f)) fs
  added_typed = subst (λ ws. AllByRecursion (λ f. IsTyped ws (view f)) fs) (sym selection.widths) add.typed

  pub selection_more : (new : Decidable) → IsReady new → seen view new.condition ≡ with_entries (seen view old.condition) (each_with true (map view fs)) → IsSelectionOf whole new
  selection_more new ready is = record {
    ready = ready;
    widths = ap (λ (c : SymCondition). c.widths) is ∙ selection.widths;
    follow = subst (AllByRecursion (Follows whole.entries)) (sym (ap (λ (c : SymCondition). c.entries) is))
        (all_join (Follows whole.entries) (map (entry_seen view) old.condition.entries) (each_with true (map view fs)) selection.follow (each_follows whole.entries fs add.follow));
  }

-- what a selection decides of the whole
module _ (whole : SymCondition) (chosen : Decidable) (selection : IsSelectionOf whole chosen) where
  pub never_by : SomeRefuteAll → IsWithinLimits itself whole → IsImpossible (seen view chosen.condition) → IsImpossible whole
  never_by law within h = law whole (map (entry_seen view) chosen.condition.entries) within selection.follow h.never

  pub least_by : LeastOfSome → (values : List ℕ) → AreLeast itself (seen view chosen.condition) values
      → list_all (holds_unless_outside itself values) whole.entries ≡ true → AreLeast itself whole values
  least_by law values least all = law whole (seen view chosen.condition) values selection.widths selection.follow least all

-- where none is broken all stand
pub none_left : (values now : List ℕ) (es : List (FormulaTree × Bool)) (list rest : List Formula) → now ≡ values
    → (list ≡ [] → list_all (holds_unless_outside itself now) es ≡ true) → rest ≡ list → rest ≡ [] → list_all (holds_unless_outside itself values) es ≡ true
none_left values now es list rest same all lent_as nothing = subst (λ vs. list_all (holds_unless_outside itself vs) es ≡ true) same (all (sym lent_as ∙ nothing))

-- ---- least values that satisfy the outside formulas too

module _ (values : List ℕ) (row : List (Bor Formula × Bool)) where
  abbrev pub AgreeFrom : ℕ → Type 0
  AgreeFrom n = list_all (entry_holds itself values) (row_seen (drop n row)) ≡ true → list_all (entry_holds itself values) (row_seen row) ≡ true

none_outside : (values : List ℕ) (first : ℕ) (es : List (FormulaTree × Bool)) → list_all (entry_holds itself values) es ≡ true
    → position_from (is_broken_outside itself values) first es ≡ None
none_outside values first [] h = refl
none_outside values first (e ∷ es) h =
    by (is_outside itself e) (entry_holds itself values e) (left_is (entry_holds itself values e) (list_all (entry_holds itself values) es) h)
    (none_outside values (first + 1) es (right_is (entry_holds itself values e) (list_all (entry_holds itself values) es) h))
  where
    by : (outside holds : Bool) → holds ≡ true → position_from (is_broken_outside itself values) (first + 1) es ≡ None
        → cond (outside && not holds) (Some first) (position_from (is_broken_outside itself values) (first + 1) es) ≡ None
    by outside false k rest = absurd (true≢false (sym k))
    by true true k rest = rest
    by false true k rest = rest

pub met_by : (whole : SymCondition) (values : List ℕ) → IsWithinLimits itself whole → AreLeast itself whole values
    → list_all (entry_holds itself values) whole.entries ≡ true → IsMetBy itself whole values
met_by whole values within least all = record { within = within; least = least; broken_is = none_outside values 0 whole.entries all }
