-- Formulas that follow from others.
use Rattle.std.proofs.Common.{◌≡◌, ◌∙◌, ◌<◌, ◌≤◌, ◌+◌, ℕ, zero, suc, Bool, true, false, true≢false, not, ◌&&◌, ◌||◌, List, [], ◌∷◌, ◌++◌, arith, get_or, length, map, refl, sym, ap, subst, take, rules, Vec, Global}
use Rattle.std.proofs.lemmas.List.{map-append, take_all, take_more}
use Rattle.path_formula.specs.Formulas.{FormulaTree, Formulas, no_formulas, formula, all_of, all_true, any_of, any_true, opposite, truth_at}
use Rattle.path_formula.specs.Solutions.{agrees}
use Rattle.path_formula.specs.Typed.{AreTyped, IsTyped}
use Rattle.path_formula.specs.View.{formulas_of, view, views}
use Rattle.path_formula.specs.declared.formula.Formula.{Formula, And, Or, the_lemmas}
use Rattle.compare_meaning.specs.Facing.{must_be}
use Rattle.net_compare.specs.Needing.{AreNeeded, IsNeeded, IsNeededOfAll, IsNeededOfOne, all_agree, one_agrees}

left_is : (a b : Bool) → (a && b) ≡ true → a ≡ true
left_is true b h = refl
left_is false b h = h

right_is : (a b : Bool) → (a && b) ≡ true → b ≡ true
right_is true b h = h
right_is false b h = absurd (true≢false (sym h))

-- ---- a formula as it must be

pub required_is_needed : (f : FormulaTree) (holds : Bool) (g : FormulaTree) → g ≡ must_be (f, holds) → IsNeeded f holds g
required_is_needed f true g is = record {
  follows = λ values h. ap (λ x. truth_at x values) is ∙ h;
  typed = λ widths h. subst (IsTyped widths) (sym is) h;
}
required_is_needed f false g is = record {
  follows = λ values h. ap (λ x. truth_at x values) is ∙ h;
  typed = λ widths h. subst (IsTyped widths) (sym is) h;
}

-- ---- parts

pub view_and : (parts : Vec Formula Global) → view (And parts) ≡ all_of (views parts.items)
view_and parts = search (rules, the_lemmas)

pub view_or : (parts : Vec Formula Global) → view (Or parts) ≡ any_of (views parts.items)
view_or parts = search (rules, the_lemmas)

all_true_agree : (fs : Formulas) (values : List ℕ) → all_true fs values ≡ all_agree true fs values
all_true_agree no_formulas values = refl
all_true_agree (formula f fs) values = ap (λ b. truth_at f values && b) (all_true_agree fs values)

any_true_agrees : (fs : Formulas) (values : List ℕ) → any_true fs values ≡ one_agrees true fs values
any_true_agrees no_formulas values = refl
any_true_agrees (formula f fs) values = ap (λ b. truth_at f values || b) (any_true_agrees fs values)

not_or : (a b c : Bool) → not b ≡ c → not (a || b) ≡ (not a && c)
not_or true b c h = refl
not_or false b c h = h

not_and : (a b c : Bool) → not b ≡ c → not (a && b) ≡ (not a || c)
not_and true b c h = h
not_and false b c h = refl

not_any_agree : (fs : Formulas) (values : List ℕ) → not (any_true fs values) ≡ all_agree false fs values
not_any_agree no_formulas values = refl
not_any_agree (formula f fs) values = not_or (truth_at f values) (any_true fs values) (all_agree false fs values) (not_any_agree fs values)

not_all_agrees : (fs : Formulas) (values : List ℕ) → not (all_true fs values) ≡ one_agrees false fs values
not_all_agrees no_formulas values = refl
not_all_agrees (formula f fs) values = not_and (truth_at f values) (all_true fs values) (one_agrees false fs values) (not_all_agrees fs values)

-- of a conjunction that is to be true, and of a choice that is to be false, each part
pub of_true_and : (fs : Formulas) (g : FormulaTree) → IsNeededOfAll fs true g → IsNeeded (all_of fs) true g
of_true_and fs g h = record { follows = λ values k. h.follows values (sym (all_true_agree fs values) ∙ k); typed = h.typed }

pub of_false_or : (fs : Formulas) (g : FormulaTree) → IsNeededOfAll fs false g → IsNeeded (any_of fs) false g
of_false_or fs g h = record { follows = λ values k. h.follows values (sym (not_any_agree fs values) ∙ k); typed = h.typed }

-- of a choice that is to be true, and of a conjunction that is to be false, one part
pub of_true_or : (fs : Formulas) (g : FormulaTree) → IsNeededOfOne fs true g → IsNeeded (any_of fs) true g
of_true_or fs g h = record { follows = λ values k. h.follows values (sym (any_true_agrees fs values) ∙ k); typed = h.typed }

pub of_false_and : (fs : Formulas) (g : FormulaTree) → IsNeededOfOne fs false g → IsNeeded (all_of fs) false g
of_false_and fs g h = record { follows = λ values k. h.follows values (sym (not_all_agrees fs values) ∙ k); typed = h.typed }

turned : (holds truth : Bool) → agrees holds (not truth) ≡ agrees (not holds) truth
turned true truth = refl
turned false true = refl
turned false false = refl

pub of_opposite : (f : FormulaTree) (holds : Bool) (g : FormulaTree) → IsNeeded f (not holds) g → IsNeeded (opposite f) holds g
of_opposite f holds g h = record { follows = λ values k. h.follows values (sym (turned holds (truth_at f values)) ∙ k); typed = h.typed }

-- ---- one of the parts

agree_there : (holds : Bool) (fs : List Formula) (n : ℕ) (d : Formula) (values : List ℕ) → n < length fs → all_agree holds (formulas_of (map view fs)) values ≡ true
    → agrees holds (truth_at (view (get_or fs n d)) values) ≡ true
agree_there holds [] n d values less h = absurd (omega (arith, less))
agree_there holds (f ∷ fs) zero d values less h = left_is (agrees holds (truth_at (view f) values)) (all_agree holds (formulas_of (map view fs)) values) h
agree_there holds (f ∷ fs) (suc n) d values less h =
    agree_there holds fs n d values (omega (arith, less)) (right_is (agrees holds (truth_at (view f) values)) (all_agree holds (formulas_of (map view fs)) values) h)

typed_there : (fs : List Formula) (n : ℕ) (d : Formula) (widths : List ℕ) → n < length fs → AreTyped widths (formulas_of (map view fs)) → IsTyped widths (view (get_or fs n d))
typed_there [] n d widths less h = absurd (omega (arith, less))
typed_there (f ∷ fs) zero d widths less h = h.0
typed_there (f ∷ fs) (suc n) d widths less h = typed_there fs n d widths (omega (arith, less)) h.1

pub of_part : (holds : Bool) (fs : List Formula) (n : ℕ) (d : Formula) (g : FormulaTree) → n < length fs → d ≡ get_or fs n d → IsNeeded (view d) holds g
    → IsNeededOfAll (formulas_of (map view fs)) holds g
of_part holds fs n d g less is h = record {
  follows = λ values k. h.follows values (ap (λ x. agrees holds (truth_at (view x) values)) is ∙ agree_there holds fs n d values less k);
  typed = λ widths k. h.typed widths (subst (λ x. IsTyped widths (view x)) (sym is) (typed_there fs n d widths less k));
}

-- ---- one for each part

either : (a b c d : Bool) → (a ≡ true → b ≡ true) → (c ≡ true → d ≡ true) → (a || c) ≡ true → (b || d) ≡ true
either true true c d f g h = refl
either true false c d f g h = absurd (true≢false (sym (f refl)))
either false true c d f g h = refl
either false false c d f g h = g h

one_follows : (holds : Bool) (fs gs : List FormulaTree) → AreNeeded holds fs gs → (values : List ℕ) → one_agrees holds (formulas_of fs) values ≡ true
    → any_true (formulas_of gs) values ≡ true
one_follows holds [] [] h values k = k
one_follows holds [] (g ∷ gs) h values k = absurd h
one_follows holds (f ∷ fs) [] h values k = absurd h
one_follows holds (f ∷ fs) (g ∷ gs) h values k =
    either (agrees holds (truth_at f values)) (truth_at g values) (one_agrees holds (formulas_of fs) values) (any_true (formulas_of gs) values)
    (h.0.follows values) (one_follows holds fs gs h.1 values) k

all_typed : (holds : Bool) (fs gs : List FormulaTree) → AreNeeded holds fs gs → (widths : List ℕ) → AreTyped widths (formulas_of fs) → AreTyped widths (formulas_of gs)
all_typed holds [] [] h widths k = tt
all_typed holds [] (g ∷ gs) h widths k = absurd h
all_typed holds (f ∷ fs) [] h widths k = absurd h
all_typed holds (f ∷ fs) (g ∷ gs) h widths k = (h.0.typed widths k.0, all_typed holds fs gs h.1 widths k.1)

pub of_each : (holds : Bool) (fs gs : List FormulaTree) → AreNeeded holds fs gs → IsNeededOfOne (formulas_of fs) holds (any_of (formulas_of gs))
of_each holds fs gs h = record { follows = one_follows holds fs gs h; typed = all_typed holds fs gs h }

pub needed_append : (holds : Bool) (fs gs : List FormulaTree) (f g : FormulaTree) → AreNeeded holds fs gs → IsNeeded f holds g → AreNeeded holds (fs ++ f ∷ []) (gs ++ g ∷ [])
needed_append holds [] [] f g h k = (k, tt)
needed_append holds [] (y ∷ gs) f g h k = absurd h
needed_append holds (x ∷ fs) [] f g h k = absurd h
needed_append holds (x ∷ fs) (y ∷ gs) f g h k = (h.0, needed_append holds fs gs f g h.1 k)

-- the loop over parts
module _ (holds : Bool) (parts : List Formula) (n : ℕ) where
  pub each_next : (d : Formula) → n < length parts → d ≡ get_or parts n d → (list more : List Formula) (g : Formula) → AreNeeded holds (map view (take n parts)) (map view list)
      → more ≡ list ++ g ∷ [] → IsNeeded (view d) holds (view g) → AreNeeded holds (map view (take (n + 1) parts)) (map view more)
  each_next d less is list more g h longer needed =
      let first : take (n + 1) parts ≡ take n parts ++ d ∷ [] = take_more parts n d less ∙ ap (λ x. take n parts ++ x ∷ []) (sym is) in
      let fronts = ap (map view) first ∙ map-append view (take n parts) (d ∷ []) in
      let backs = ap (map view) longer ∙ map-append view list (g ∷ []) in
      subst (λ fs. AreNeeded holds fs (map view more)) (sym fronts)
      (subst (AreNeeded holds (map view (take n parts) ++ view d ∷ [])) (sym backs) (needed_append holds (map view (take n parts)) (map view list) (view d) (view g) h needed))

  pub each_end : length parts ≤ n → (list : List Formula) → AreNeeded holds (map view (take n parts)) (map view list)
      → IsNeededOfOne (formulas_of (map view parts)) holds (any_of (formulas_of (map view list)))
  each_end past list h = of_each holds (map view parts) (map view list) (subst (λ fs. AreNeeded holds (map view fs) (map view list)) (take_all n parts past) h)
