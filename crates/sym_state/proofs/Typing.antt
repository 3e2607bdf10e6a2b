-- The formulas of conditions are typed, where the terms that are carried are.
use Rattle.std.proofs.Common.{◌≡◌, ℕ, List, [], ◌∷◌, IfOk, sym, ◌∙◌}
use Rattle.std.specs.List.{AllByRecursion}
use Rattle.std.specs.Prelude.{◌↔◌}
use Rattle.sn_width.specs.declared.rel.Rel.{Rel}
use Rattle.lin_term.specs.Terms.{LinearTerm, IsReduced}
use Rattle.sn_ranges.specs.Ranges.{is_member}
use Rattle.sn_ranges.specs.Sets.{set_of}
use Rattle.path_formula.specs.Formulas as formulas
use Rattle.path_formula.specs.Formulas.{FormulaTree}
use Rattle.path_formula.specs.Typed.{IsTyped, AreTyped, TermIsTyped}
use Rattle.path_formula.specs.View.{formulas_of}
use Rattle.sefl_syntax.specs.Trees.{ExprTree, CondTree, always, compare, member, all_of, any_of, negation, CondTrees, no_conds, cond_and}
use Rattle.cell_stacks.specs.Outcome.{on_ok}
use Rattle.job_items.specs.Atoms.{comparison, membership}
use Rattle.job_items.specs.AtomRules.{atom_width}
use Rattle.sefl_meaning.specs.Carried.{Carried, Scene}
use Rattle.sefl_meaning.specs.Terms.{value_in, truth_in, truths_in}
use Rattle.sefl_meaning.specs.Valued.{Fits}
use Rattle.term_values.specs.Fits.{term_fits, typed_fits}
use Rattle.term_values.specs.TermValues.{terms}
use Rattle.sym_state.proofs.Keeping.{then_keeps, on_ok_keeps}

-- what the tests of terms say
pub record FitLaws : Type 0 where
  pub fits : (w : ℕ) (t : LinearTerm) → Fits term_fits w t ↔ ((t.width ≡ w) × IsReduced t)
  pub typed : (widths : List ℕ) (w : ℕ) (t : LinearTerm) → Fits (typed_fits widths) w t ↔ (Fits term_fits w t × TermIsTyped widths t)

pub closer : (laws : FitLaws) (widths : List ℕ) (w : ℕ) (t : LinearTerm) → Fits (typed_fits widths) w t → Fits term_fits w t
closer laws widths w t h = ((laws.typed widths w t).0 h).0

are_typed : (widths : List ℕ) (fs : List FormulaTree) → AllByRecursion (IsTyped widths) fs → AreTyped widths (formulas_of fs)
are_typed widths [] h = tt
are_typed widths (f ∷ fs) h = (h.0, are_typed widths fs h.1)

module _ (laws : FitLaws) (widths : List ℕ) (unknowns : ℕ) (at : Scene) (s : Carried LinearTerm)
    (values : (w : ℕ) (e : ExprTree) → IfOk (value_in (terms unknowns) at w e s) (Fits (typed_fits widths) w)) where
  width_is : (w : ℕ) (t : LinearTerm) → Fits (typed_fits widths) w t → t.width ≡ w
  width_is w t h = ((laws.fits w t).0 (closer laws widths w t h)).0

  term_typed : (w : ℕ) (t : LinearTerm) → Fits (typed_fits widths) w t → TermIsTyped widths t
  term_typed w t h = ((laws.typed widths w t).0 h).1

  comparison_typed : (w : ℕ) (rel : Rel) (a b : LinearTerm) → Fits (typed_fits widths) w a → Fits (typed_fits widths) w b
      → IsTyped widths (formulas.compared rel a b)
  comparison_typed w rel a b ha hb = (width_is w a ha ∙ sym (width_is w b hb), term_typed w a ha, term_typed w b hb)

  mutual
    pub truth_typed : (test : CondTree) → IfOk (truth_in (terms unknowns) at test s) (IsTyped widths)
    truth_typed always = tt
    truth_typed (compare rel left right) =
        let w : ℕ = atom_width (comparison left right) in
        then_keeps (Fits (typed_fits widths) w) (IsTyped widths) (value_in (terms unknowns) at w left s)
        (λ a. on_ok (formulas.compared rel a) (value_in (terms unknowns) at w right s)) (values w left)
        (λ a ha. on_ok_keeps (Fits (typed_fits widths) w) (IsTyped widths) (formulas.compared rel a) (value_in (terms unknowns) at w right s) (values w right)
        (λ b hb. comparison_typed w rel a b ha hb))
    truth_typed (member value ranges) =
        let w : ℕ = atom_width (membership value ranges) in
        on_ok_keeps (Fits (typed_fits widths) w) (IsTyped widths) (λ a. formulas.belongs a (set_of w (is_member ranges))) (value_in (terms unknowns) at w value s)
        (values w value) (λ a ha. (width_is w a ha, term_typed w a ha))
    truth_typed (all_of conds) =
        on_ok_keeps (AllByRecursion (IsTyped widths)) (IsTyped widths) (λ fs. formulas.all_of (formulas_of fs)) (truths_in (terms unknowns) at conds s)
        (truths_typed conds) (λ fs h. are_typed widths fs h)
    truth_typed (any_of conds) =
        on_ok_keeps (AllByRecursion (IsTyped widths)) (IsTyped widths) (λ fs. formulas.any_of (formulas_of fs)) (truths_in (terms unknowns) at conds s)
        (truths_typed conds) (λ fs h. are_typed widths fs h)
    truth_typed (negation c) =
        on_ok_keeps (IsTyped widths) (IsTyped widths) formulas.opposite (truth_in (terms unknowns) at c s) (truth_typed c) (λ f h. h)

    truths_typed : (conds : CondTrees) → IfOk (truths_in (terms unknowns) at conds s) (AllByRecursion (IsTyped widths))
    truths_typed no_conds = tt
    truths_typed (cond_and c conds) =
        then_keeps (IsTyped widths) (AllByRecursion (IsTyped widths)) (truth_in (terms unknowns) at c s) (λ f. on_ok (λ fs. f ∷ fs) (truths_in (terms unknowns) at conds s))
        (truth_typed c)
        (λ f h. on_ok_keeps (AllByRecursion (IsTyped widths)) (AllByRecursion (IsTyped widths)) (λ fs. f ∷ fs) (truths_in (terms unknowns) at conds s)
        (truths_typed conds) (λ fs hs. (h, hs)))
