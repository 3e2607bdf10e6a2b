-- What stays where a condition has more formulas.
use Rattle.std.proofs.Common.{◌≡◌, ℕ, suc, ◌+◌, ◌&&◌, Bool, true, false, cond, List, [], ◌∷◌, ◌++◌, length, Option, Some, refl, sym, ap, ap₂, ◌∙◌, arith}
use Rattle.std.specs.List.{list_all, position_from}
use Rattle.std.proofs.lemmas.List.Folds.{list_all-append}
use Rattle.path_formula.specs.Formulas.{FormulaTree}
use Rattle.path_cond.specs.Seen.{ConditionOf}
use Rattle.refutation_check.specs.Longer.{with_entries, with_widths, or_later, zeros, LeastStay}
use Rattle.refutation_check.specs.Seen.{AreCandidates, AreLeast, holds_unless_outside, is_broken_outside}
use Rattle.refutation_check.proofs.Fronts.{least_wider}

and_left : (a b : Bool) → (a && b) ≡ true → a ≡ true
and_left true b h = refl
and_left false b h = h

on_by : (b : Bool) (n : ℕ) (o q r : Option ℕ) → o ≡ or_later q r → cond b (Some n) o ≡ or_later (cond b (Some n) q) r
on_by true n o q r h = refl
on_by false n o q r h = h

position_on : {X : Type 0} (p : X → Bool) (n : ℕ) (xs ys : List X) → position_from p n (xs ++ ys) ≡ or_later (position_from p n xs) (position_from p (n + length xs) ys)
position_on p n [] ys = let here : n ≡ n + 0 = omega arith in ap (λ k. position_from p k ys) here
position_on p n (x ∷ xs) ys =
    let next : n + 1 + length xs ≡ n + suc (length xs) = omega arith in
    on_by (p x) n (position_from p (n + 1) (xs ++ ys)) (position_from p (n + 1) xs) (position_from p (n + suc (length xs)) ys)
    (position_on p (n + 1) xs ys ∙ ap (λ k. or_later (position_from p (n + 1) xs) (position_from p k ys)) next)

module _ {X : Type 0} (tree : X → FormulaTree) where
  -- candidates of the longer condition are those of the shorter one
  candidates_before : (c : ConditionOf X) (more : List (X × Bool)) (values : List ℕ) → AreCandidates tree (with_entries c more) values → AreCandidates tree c values
  candidates_before c more values h = record {
    fitting = h.fitting;
    satisfied = and_left (list_all (holds_unless_outside tree values) c.entries) (list_all (holds_unless_outside tree values) more)
        (sym (list_all-append (holds_unless_outside tree values) c.entries more) ∙ h.satisfied);
  }

  least_longer : (c : ConditionOf X) (more : List (X × Bool)) (values : List ℕ) → AreLeast tree c values → list_all (holds_unless_outside tree values) more ≡ true → AreLeast tree (with_entries c more) values
  least_longer c more values h holds = record {
    candidates = record {
      fitting = h.candidates.fitting;
      satisfied = list_all-append (holds_unless_outside tree values) c.entries more ∙ ap₂ (λ a b. a && b) h.candidates.satisfied holds;
    };
    first = λ others k. h.first others (candidates_before c more others k);
  }

  broken_goes_on : (c : ConditionOf X) (more : List (X × Bool)) (values : List ℕ) → position_from (is_broken_outside tree values) 0 (c.entries ++ more)
      ≡ or_later (position_from (is_broken_outside tree values) 0 c.entries) (position_from (is_broken_outside tree values) (length c.entries) more)
  broken_goes_on c more values =
      let here : 0 + length c.entries ≡ length c.entries = omega arith in
      position_on (is_broken_outside tree values) 0 c.entries more
      ∙ ap (λ k. or_later (position_from (is_broken_outside tree values) 0 c.entries) (position_from (is_broken_outside tree values) k more)) here

  pub least_stay : LeastStay tree
  least_stay = record {
    least = least_longer;
    wider = λ c widths more values typed h holds. least_longer (with_widths c widths) more (values ++ zeros widths) (least_wider tree widths c values typed h) holds;
    broken = broken_goes_on;
    none = λ c more none values h. none values (candidates_before c more values h);
  }
