-- What holds of the members of a formula.
use Rattle.std.proofs.Common.{◌≡◌, ℕ, zero, suc, Bool, true, false, not, ◌&&◌, ◌||◌, List, [], ◌∷◌, length, get_or, ◌<◌, ◌≤◌, Some, None, refl, sym, ap, subst, arith}
use Rattle.path_formula.specs.Formulas.{FormulaTree, always, compared, belongs, all_of, any_of, opposite, Formulas, no_formulas, formula, truth_at, all_true, any_true}
use Rattle.path_formula.specs.Members.{Member, member_of, member_among}
use Rattle.path_formula.specs.Solutions.{agrees}
use Rattle.path_formula.specs.Splits.{CanSplit, EachCanSplit}
use Rattle.path_formula.specs.Typed.{IsTyped, AreTyped}
use Rattle.path_formula.specs.View.{view, views}
use Rattle.path_formula.specs.declared.formula.Formula.{Formula}

-- what a formula with a truth hands down to its parts, and these to each other
pub record GoesDown (P : FormulaTree → Bool → Type 0) (Q : Formulas → Bool → Type 0) : Type 1 where
  pub all : (fs : Formulas) → P (all_of fs) true → Q fs true
  pub any : (fs : Formulas) → P (any_of fs) false → Q fs false
  pub other : (f : FormulaTree) (holds : Bool) → P (opposite f) holds → P f (not holds)
  pub first : (f : FormulaTree) (fs : Formulas) (holds : Bool) → Q (formula f fs) holds → P f holds
  pub rest : (f : FormulaTree) (fs : Formulas) (holds : Bool) → Q (formula f fs) holds → Q fs holds

module _ (P : FormulaTree → Bool → Type 0) (Q : Formulas → Bool → Type 0) (down : GoesDown P Q) where
  mutual
    -- what goes down holds of each member
    pub goes_down : (f : FormulaTree) (holds : Bool) (way : List ℕ) (m : Member) → member_of f holds way ≡ Some m → P f holds → P m.0 m.1
    goes_down f holds [] m e h =
        let same : (f, holds) ≡ m = cc in
        subst (λ (n : Member). P n.0 n.1) same h
    goes_down (always truth) holds (n ∷ way) m e h = absurd (cc)
    goes_down (compared rel left right) holds (n ∷ way) m e h = absurd (cc)
    goes_down (belongs term set) holds (n ∷ way) m e h = absurd (cc)
    goes_down (all_of fs) true (n ∷ way) m e h = goes_among fs true n way m e (down.all fs h)
    goes_down (all_of fs) false (n ∷ way) m e h = absurd (cc)
    goes_down (any_of fs) true (n ∷ way) m e h = absurd (cc)
    goes_down (any_of fs) false (n ∷ way) m e h = goes_among fs false n way m e (down.any fs h)
    goes_down (opposite f) holds (n ∷ way) m e h = goes_down f (not holds) (n ∷ way) m e (down.other f holds h)

    goes_among : (fs : Formulas) (holds : Bool) (number : ℕ) (way : List ℕ) (m : Member) → member_among fs holds number way ≡ Some m → Q fs holds → P m.0 m.1
    goes_among no_formulas holds number way m e h = absurd (cc)
    goes_among (formula f fs) holds zero way m e h = goes_down f holds way m e (down.first f fs holds h)
    goes_among (formula f fs) holds (suc number) way m e h = goes_among fs holds number way m e (down.rest f fs holds h)

-- the truth

left_of : (a b : Bool) → (a && b) ≡ true → a ≡ true
left_of true b e = refl
left_of false b e = e

right_of : (a b : Bool) → (a && b) ≡ true → b ≡ true
right_of true b e = e
right_of false b e = absurd (cc)

none_left : (a b : Bool) → not (a || b) ≡ true → not a ≡ true
none_left true b e = e
none_left false b e = refl

none_right : (a b : Bool) → not (a || b) ≡ true → not b ≡ true
none_right true b e = absurd (cc)
none_right false b e = e

-- each of several formulas has the truth
abbrev HaveTruth : List ℕ → Formulas → Bool → Type 0
HaveTruth values fs true = all_true fs values ≡ true
HaveTruth values fs false = not (any_true fs values) ≡ true

abbrev HasTruth : List ℕ → FormulaTree → Bool → Type 0
HasTruth values f holds = agrees holds (truth_at f values) ≡ true

turned_truth : (truth holds : Bool) → agrees holds (not truth) ≡ true → agrees (not holds) truth ≡ true
turned_truth truth true e = e
turned_truth true false e = refl
turned_truth false false e = e

first_true : (values : List ℕ) (f : FormulaTree) (fs : Formulas) (holds : Bool) → HaveTruth values (formula f fs) holds → HasTruth values f holds
first_true values f fs true h = left_of (truth_at f values) (all_true fs values) h
first_true values f fs false h = none_left (truth_at f values) (any_true fs values) h

rest_true : (values : List ℕ) (f : FormulaTree) (fs : Formulas) (holds : Bool) → HaveTruth values (formula f fs) holds → HaveTruth values fs holds
rest_true values f fs true h = right_of (truth_at f values) (all_true fs values) h
rest_true values f fs false h = none_right (truth_at f values) (any_true fs values) h

truth_down : (values : List ℕ) → GoesDown (HasTruth values) (HaveTruth values)
truth_down values = record {
  all = λ fs h. h;
  any = λ fs h. h;
  other = λ f holds h. turned_truth (truth_at f values) holds h;
  first = first_true values;
  rest = rest_true values;
}

pub member_truth : (f : FormulaTree) (holds : Bool) (way : List ℕ) (m : Member) (values : List ℕ) → member_of f holds way ≡ Some m → agrees holds (truth_at f values) ≡ true → agrees m.1 (truth_at m.0 values) ≡ true
member_truth f holds way m values e h = goes_down (HasTruth values) (HaveTruth values) (truth_down values) f holds way m e h

-- types and cases

typed_down : (widths : List ℕ) → GoesDown (λ f holds. IsTyped widths f) (λ fs holds. AreTyped widths fs)
typed_down widths = record {
  all = λ fs h. h;
  any = λ fs h. h;
  other = λ f holds h. h;
  first = λ f fs holds h. h.0;
  rest = λ f fs holds h. h.1;
}

pub member_typed : (f : FormulaTree) (holds : Bool) (way : List ℕ) (m : Member) (widths : List ℕ) → member_of f holds way ≡ Some m → IsTyped widths f → IsTyped widths m.0
member_typed f holds way m widths e h = goes_down (λ g holds. IsTyped widths g) (λ fs holds. AreTyped widths fs) (typed_down widths) f holds way m e h

splits_down : GoesDown (λ f holds. CanSplit f) (λ fs holds. EachCanSplit fs)
splits_down = record {
  all = λ fs h. h;
  any = λ fs h. h;
  other = λ f holds h. h;
  first = λ f fs holds h. h.0;
  rest = λ f fs holds h. h.1;
}

pub member_splits : (f : FormulaTree) (holds : Bool) (way : List ℕ) (m : Member) → member_of f holds way ≡ Some m → CanSplit f → CanSplit m.0
member_splits f holds way m e h = goes_down (λ g holds. CanSplit g) (λ fs holds. EachCanSplit fs) splits_down f holds way m e h

-- parts by their numbers

pub part_among : (fs : List Formula) (holds : Bool) (number : ℕ) (way : List ℕ) (f : Formula) → number < length fs → f ≡ get_or fs number f
    → member_among (views fs) holds number way ≡ member_of (view f) holds way
part_among [] holds number way f lt is = absurd (omega arith)
part_among (g ∷ fs) holds zero way f lt is = ap (λ (h : Formula). member_of (view h) holds way) (sym is)
part_among (g ∷ fs) holds (suc number) way f lt is = part_among fs holds number way f (omega arith) is

pub no_part_among : (fs : List Formula) (holds : Bool) (number : ℕ) (way : List ℕ) → length fs ≤ number → member_among (views fs) holds number way ≡ None
no_part_among [] holds number way le = refl
no_part_among (g ∷ fs) holds zero way le = absurd (omega arith)
no_part_among (g ∷ fs) holds (suc number) way le = no_part_among fs holds number way (omega arith)
