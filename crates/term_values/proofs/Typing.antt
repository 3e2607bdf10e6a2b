-- The operations keep terms and formulas typed.
use Rattle.std.proofs.Common.{ℕ, ◌%◌, ◌^◌, Bool, true, false, List, [], ◌∷◌, ◌++◌, length, refl, subst}
use Rattle.std.specs.Prelude.{nat_lt, if◌then◌else◌}
use Rattle.std.specs.List.{AllByRecursion}
use Rattle.std.proofs.lemmas.List.{length-append}
use Rattle.lin_term.specs.Terms.{LinearTerm}
use Rattle.lin_term.specs.Sums.{term_sum, term_difference}
use Rattle.sn_ranges.specs.Ranges.{is_member}
use Rattle.sn_ranges.specs.Sets.{set_of}
use Rattle.path_formula.specs.Formulas.{FormulaTree, compared, belongs, all_of, any_of}
use Rattle.path_formula.specs.Typed.{IsTyped, TermIsTyped}
use Rattle.path_formula.specs.TypeTests.{is_typed, is_typed_term}
use Rattle.path_formula.specs.View.{formulas_of}
use Rattle.sefl_meaning.specs.Valued.{Fits, IsGood, KeepsSums, KeepsSymbols, KeepsTests}
use Rattle.term_values.specs.Fits.{term_fits, typed_fits}
use Rattle.term_values.specs.TermValues.{have_width, number_term, symbol_term, terms}
use Rattle.term_values.proofs.LawsBelow.{ReducedLaws, TypeLaws}
use Rattle.term_values.proofs.FitLemmas.{both, left_of, right_of, fits_width, same_width, symbol_fits, terms_keep}

pub fits_of : (widths : List ℕ) (w : ℕ) (t : LinearTerm) → Fits (typed_fits widths) w t → Fits term_fits w t
fits_of widths w t h = left_of (term_fits w t) (is_typed_term widths t) h

either_typed : (widths : List ℕ) (w : ℕ) (b : Bool) (t : LinearTerm) → TermIsTyped widths (number_term w 0) → TermIsTyped widths t → TermIsTyped widths (if b then t else number_term w 0)
either_typed widths w true t n h = h
either_typed widths w false t n h = n

module _ (laws : TypeLaws) where
  pub typed_of : (widths : List ℕ) (w : ℕ) (t : LinearTerm) → Fits (typed_fits widths) w t → TermIsTyped widths t
  typed_of widths w t h = (laws.term_test widths t).0 (right_of (term_fits w t) (is_typed_term widths t) h)

  pub typed_as : (widths : List ℕ) (w : ℕ) (t : LinearTerm) → Fits term_fits w t → TermIsTyped widths t → Fits (typed_fits widths) w t
  typed_as widths w t h k = both (term_fits w t) (is_typed_term widths t) h ((laws.term_test widths t).1 k)

  symbol_typed : (widths : List ℕ) (w : ℕ) → TermIsTyped (widths ++ w ∷ []) (symbol_term w (length widths))
  symbol_typed widths w = by (nat_lt 0 w)
    where
      by : (b : Bool) → TermIsTyped (widths ++ w ∷ []) (record { width = w; constant = 0; parts = if b then (record { 0 = length widths }, 1) ∷ [] else [] })
      by true = laws.next widths [] w
      by false = laws.number (widths ++ w ∷ []) w 0

  all_good : (widths : List ℕ) (fs : List FormulaTree) → AllByRecursion (IsGood (is_typed widths)) fs → AllByRecursion (IsTyped widths) fs
  all_good widths [] h = tt
  all_good widths (f ∷ fs) h = ((laws.test widths f).0 h.0, all_good widths fs h.1)

  module _ (reduced : ReducedLaws) where
    pub sums_keep : (widths : List ℕ) (unknowns : ℕ) → KeepsSums (typed_fits widths) (terms unknowns)
    sums_keep widths unknowns =
        let keeps = terms_keep reduced unknowns in
        record {
          constant = λ w n. typed_as widths w (number_term w n) (keeps.constant w n) (laws.number widths w (n % 2 ^ w));
          plus = λ w a b ha hb.
              let fa = fits_of widths w a ha in
              let fb = fits_of widths w b hb in
              typed_as widths w ((terms unknowns).plus w a b) (keeps.plus w a b fa fb)
              (either_typed widths w (have_width w a b) (term_sum a b) (laws.number widths w (0 % 2 ^ w))
              (laws.sum widths a b (same_width w a b fa fb) (typed_of widths w a ha) (typed_of widths w b hb)));
          minus = λ w a b ha hb.
              let fa = fits_of widths w a ha in
              let fb = fits_of widths w b hb in
              typed_as widths w ((terms unknowns).minus w a b) (keeps.minus w a b fa fb)
              (either_typed widths w (have_width w a b) (term_difference a b) (laws.number widths w (0 % 2 ^ w))
              (laws.difference widths a b (same_width w a b fa fb) (typed_of widths w a ha) (typed_of widths w b hb)));
        }

    pub tests_keep : (widths : List ℕ) (unknowns : ℕ) → KeepsTests (typed_fits widths) (is_typed widths) (terms unknowns)
    tests_keep widths unknowns = record {
      sums = sums_keep widths unknowns;
      compare = λ w rel a b some ha hb. (laws.test widths (compared rel a b)).1
          (laws.comparison widths rel a b (same_width w a b (fits_of widths w a ha) (fits_of widths w b hb)) (typed_of widths w a ha) (typed_of widths w b hb));
      member = λ w a ranges some ha. (laws.test widths (belongs a (set_of w (is_member ranges)))).1
          (laws.membership widths a (set_of w (is_member ranges)) (fits_width w a (fits_of widths w a ha)) (typed_of widths w a ha));
      always = refl;
      all_of = λ fs h. (laws.test widths (all_of (formulas_of fs))).1 (laws.every widths fs (all_good widths fs h));
      any_of = λ fs h. (laws.test widths (any_of (formulas_of fs))).1 (laws.some widths fs (all_good widths fs h));
      negation = λ f h. h;
    }

    next_symbol : (widths : List ℕ) (w : ℕ) → Fits (typed_fits (widths ++ w ∷ [])) w (symbol_term w (length widths))
    next_symbol widths w = typed_as (widths ++ w ∷ []) w (symbol_term w (length widths)) (symbol_fits reduced w (length widths)) (symbol_typed widths w)

    pub symbols_keep : (widths : List ℕ) → KeepsSymbols typed_fits widths (terms (length widths))
    symbols_keep unknowns = record {
      sums = λ widths. sums_keep widths (length unknowns);
      wider = λ widths more w t h. typed_as (widths ++ more ∷ []) w t (fits_of widths w t h) (laws.wider widths (more ∷ []) t (typed_of widths w t h));
      unknown = next_symbol;
      choice = λ choices w. subst (λ (n : ℕ). Fits (typed_fits ((unknowns ++ choices) ++ w ∷ [])) w (symbol_term w n))
          (length-append unknowns choices) (next_symbol (unknowns ++ choices) w);
    }
