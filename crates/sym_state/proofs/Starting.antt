-- What an injection makes, step by step.
use Rattle.std.proofs.Common.{◌≡◌, ℕ, suc, ◌+◌, ◌<◌, ◌≤◌, true, List, [], ◌∷◌, ◌++◌, length, get_or, drop, map, append_assoc, drop-cons, add-one, Result, Ok, Err, IfOk, refl, sym, ap, ◌∙◌, subst}
use Rattle.std.proofs.lemmas.List.{drop_all}
use Rattle.sn_width.specs.declared.faults.LayoutFault.{LayoutFault}
use Rattle.sefl_syntax.specs.Trees.{InjectionTree}
use Rattle.sefl_syntax.specs.Views.{cond_tree}
use Rattle.sefl_syntax.specs.declared.cond.Cond.{Cond}
use Rattle.lin_term.specs.Terms.{LinearTerm}
use Rattle.path_formula.specs.Formulas.{FormulaTree}
use Rattle.path_formula.specs.View.{view}
use Rattle.path_cond.specs.Conditions.{Entry}
use Rattle.cell_stacks.specs.Outcome.{and_then, on_ok}
use Rattle.sefl_meaning.specs.Carried.{Carried, Scene}
use Rattle.sefl_meaning.specs.Injected.{injected}
use Rattle.sefl_meaning.specs.Start.{tests_in}
use Rattle.sefl_meaning.specs.Terms.{truth_in}
use Rattle.sefl_meaning.specs.Valued.{CarriedFits}
use Rattle.term_values.specs.Fits.{typed_fits}
use Rattle.term_values.specs.TermValues.{terms}
use Rattle.sym_state.specs.Beginning.{IsAsking, MustBeTrue, trees_of}
use Rattle.sym_state.specs.Symbolic.{Symbolic, with_entries}

next_of : {A : Type 0} (xs : List A) (i : ℕ) (x : A) → i < length xs → x ≡ get_or xs i x → drop i xs ≡ x ∷ drop (i + 1) xs
next_of xs i x h is = rw add-one (drop-cons xs i x h ∙ ap (λ y. y ∷ drop (suc i) xs) (sym is))

-- tests: those that are left, behind the formulas so far, are all

on_ok_same : {A E : Type 0} (r : Result A E) → on_ok (λ (x : A). x) r ≡ r
on_ok_same (Ok x) = refl
on_ok_same (Err e) = refl

end_of : {A : Type 0} (xs : List A) → xs ++ [] ≡ xs
end_of [] = refl
end_of (x ∷ xs) = ap (λ ys. x ∷ ys) (end_of xs)

trees-append : (es fs : List Entry) → trees_of (es ++ fs) ≡ trees_of es ++ trees_of fs
trees-append [] fs = refl
trees-append (e ∷ es) fs = ap (λ ts. view e.0 ∷ ts) (trees-append es fs)

true-append : (es fs : List Entry) → MustBeTrue es → MustBeTrue fs → MustBeTrue (es ++ fs)
true-append [] fs h k = k
true-append (e ∷ es) fs h k = (h.0, true-append es fs h.1 k)

behind_both : (ts : List FormulaTree) (f : FormulaTree) (r : Result (List FormulaTree) LayoutFault)
    → on_ok (λ fs. ts ++ fs) (on_ok (λ fs. f ∷ fs) r) ≡ on_ok (λ fs. (ts ++ f ∷ []) ++ fs) r
behind_both ts f (Ok fs) = ap Ok (sym (append_assoc ts (f ∷ []) fs))
behind_both ts f (Err e) = refl

-- in a loop over the tests: those from a place on are left
pub record AskedTo (unknowns : ℕ) (at : Scene) (tests : List Cond) (i : ℕ) (first now : Symbolic) : Type 0 where
  pub more : List Entry
  pub is : now ≡ with_entries first more
  pub true_tests : MustBeTrue more
  pub whole : tests_in (terms unknowns) at (map cond_tree tests) first.carried
      ≡ on_ok (λ fs. trees_of more ++ fs) (tests_in (terms unknowns) at (map cond_tree (drop i tests)) first.carried)

with_none : (s : Symbolic) → s ≡ with_entries s []
with_none s = λ j. record s { condition = record s.condition { entries = sym (end_of s.condition.entries) j } }

with_both : (s : Symbolic) (es fs : List Entry) → with_entries (with_entries s es) fs ≡ with_entries s (es ++ fs)
with_both s es fs = λ j. record s { condition = record s.condition { entries = append_assoc s.condition.entries es fs j } }

pub asked_none : (unknowns : ℕ) (at : Scene) (tests : List Cond) (first : Symbolic) → AskedTo unknowns at tests 0 first first
asked_none unknowns at tests first = record {
  more = [];
  is = with_none first;
  true_tests = tt;
  whole = sym (on_ok_same (tests_in (terms unknowns) at (map cond_tree tests) first.carried));
}

module _ (unknowns : ℕ) (at : Scene) (tests : List Cond) (i : ℕ) (first now : Symbolic) (t : Cond) (some : i < length tests) (here : t ≡ get_or tests i t)
    (asked : AskedTo unknowns at tests i first now) where
  tests_at : tests_in (terms unknowns) at (map cond_tree (drop i tests)) first.carried
      ≡ and_then (truth_in (terms unknowns) at (cond_tree t) first.carried) (λ f. on_ok (λ fs. f ∷ fs) (tests_in (terms unknowns) at (map cond_tree (drop (i + 1) tests)) first.carried))
  tests_at = ap (λ l. tests_in (terms unknowns) at (map cond_tree l) first.carried) (next_of tests i t some here)

  pub asked_more : (entry : Entry) (new : Symbolic) → entry.1 ≡ true → truth_in (terms unknowns) at (cond_tree t) first.carried ≡ Ok (view entry.0)
      → new ≡ with_entries now (entry ∷ []) → AskedTo unknowns at tests (i + 1) first new
  asked_more entry new must truth is = record {
    more = asked.more ++ entry ∷ [];
    is = is ∙ ap (λ s. with_entries s (entry ∷ [])) asked.is ∙ with_both first asked.more (entry ∷ []);
    true_tests = true-append asked.more (entry ∷ []) asked.true_tests (must, tt);
    whole =
        let rest : Result (List FormulaTree) LayoutFault = tests_in (terms unknowns) at (map cond_tree (drop (i + 1) tests)) first.carried in
        asked.whole
        ∙ ap (on_ok (λ fs. trees_of asked.more ++ fs)) (tests_at ∙ ap (λ r. and_then r (λ f. on_ok (λ fs. f ∷ fs) rest)) truth)
        ∙ behind_both (trees_of asked.more) (view entry.0) rest
        ∙ ap (λ ts. on_ok (λ fs. ts ++ fs) rest) (sym (trees-append asked.more (entry ∷ [])));
  }

pub asked_all : (unknowns : ℕ) (at : Scene) (tests : List Cond) (i : ℕ) (first now : Symbolic) → length tests ≤ i → AskedTo unknowns at tests i first now
    → IsAsking unknowns at (map cond_tree tests) first now
asked_all unknowns at tests i first now h asked = record {
  more = asked.more;
  is = asked.is;
  trees = asked.whole
      ∙ ap (λ l. on_ok (λ fs. trees_of asked.more ++ fs) (tests_in (terms unknowns) at (map cond_tree l) first.carried)) (drop_all i tests h)
      ∙ ap Ok (end_of (trees_of asked.more));
  true_tests = asked.true_tests;
}

-- the terms of an injection are typed over its unknown fields
pub typed_start : (at : Scene) (i : InjectionTree) (unknowns : ℕ) (widths : List ℕ) (carried : Carried LinearTerm)
    → IfOk (injected (terms (length widths)) at i) (CarriedFits (typed_fits widths)) → unknowns ≡ length widths
    → injected (terms unknowns) at i ≡ Ok carried → CarriedFits (typed_fits widths) carried
typed_start at i unknowns widths carried h count is =
    subst (λ (r : Result (Carried LinearTerm) LayoutFault). IfOk r (CarriedFits (typed_fits widths))) is
    (subst (λ (n : ℕ). IfOk (injected (terms n) at i) (CarriedFits (typed_fits widths))) (sym count) h)
