-- Which terms fit, and that the operations give such terms.
use Rattle.std.proofs.Common.{◌≡◌, ℕ, ◌+◌, ◌^◌, ◌<◌, Bool, true, false, [], ◌∷◌, refl, sym, ap, ◌∙◌, subst, arith}
use Rattle.std.specs.Prelude.{◌&&◌, nat_lt, if◌then◌else◌, ◌==◌}
use Rattle.std.proofs.lemmas.Bool.Decides.{nat_tests}
use Rattle.std.proofs.lemmas.Nat.{mod_below, pow_pos, pow_below}
use Rattle.lin_term.specs.Terms.{LinearTerm, IsReduced}
use Rattle.lin_term.specs.Sums.{term_sum, term_difference}
use Rattle.lin_term.specs.Reduced.{is_reduced}
use Rattle.sefl_meaning.specs.Valued.{Fits, Keeps}
use Rattle.term_values.specs.Fits.{term_fits}
use Rattle.term_values.specs.TermValues.{have_width, number_term, symbol_term, terms}
use Rattle.term_values.proofs.LawsBelow.{ReducedLaws}

pub both : (a b : Bool) → a ≡ true → b ≡ true → (a && b) ≡ true
both true b e f = f
both false b e f = e

pub left_of : (a b : Bool) → (a && b) ≡ true → a ≡ true
left_of true b e = refl
left_of false b e = e

pub right_of : (a b : Bool) → (a && b) ≡ true → b ≡ true
right_of true b e = e
right_of false b e = absurd (grind arith)

pub same_true : (a b : ℕ) → (a == b) ≡ true → a ≡ b
same_true a b h = grind (arith, nat_tests)

pub true_same : (a b : ℕ) → a ≡ b → (a == b) ≡ true
true_same a b e = grind (arith, nat_tests)

pub fits_width : (w : ℕ) (t : LinearTerm) → Fits term_fits w t → t.width ≡ w
fits_width w t h = same_true t.width w (left_of (t.width == w) (is_reduced t) h)

pub same_width : (w : ℕ) (a b : LinearTerm) → Fits term_fits w a → Fits term_fits w b → a.width ≡ b.width
same_width w a b ha hb = fits_width w a ha ∙ sym (fits_width w b hb)

pub fits_test : (w : ℕ) (t : LinearTerm) → Fits term_fits w t → is_reduced t ≡ true
fits_test w t h = right_of (t.width == w) (is_reduced t) h

widths_same : (w : ℕ) (a b : LinearTerm) → Fits term_fits w a → Fits term_fits w b → have_width w a b ≡ true
widths_same w a b ha hb = both (a.width == w) (b.width == w) (true_same a.width w (fits_width w a ha)) (true_same b.width w (fits_width w b hb))

-- what comes where both have the width
pub chosen : (w : ℕ) (a b x y : LinearTerm) → Fits term_fits w a → Fits term_fits w b → (if have_width w a b then x else y) ≡ x
chosen w a b x y ha hb = ap (λ c. if c then x else y) (widths_same w a b ha hb)

number_reduced : (w n : ℕ) → IsReduced (number_term w n)
number_reduced w n = record { constant = mod_below n (2 ^ w) (pow_pos w); coefficients = tt; ascending = tt }

symbol_reduced : (w s : ℕ) → IsReduced (symbol_term w s)
symbol_reduced w s = by (nat_lt 0 w) refl
  where
    by : (b : Bool) → nat_lt 0 w ≡ b → IsReduced (record { width = w; constant = 0; parts = if b then (record { 0 = s }, 1) ∷ [] else [] })
    by true e =
        let one : 1 < 2 ^ w = pow_below 0 w (grind (arith, nat_tests)) in
        record { constant = pow_pos w; coefficients = ((omega arith, one), tt); ascending = (omega arith, tt) }
    by false e = record { constant = pow_pos w; coefficients = tt; ascending = tt }

module _ (laws : ReducedLaws) where
  pub fits_reduced : (w : ℕ) (t : LinearTerm) → Fits term_fits w t → IsReduced t
  fits_reduced w t h = (laws.test t).0 (fits_test w t h)

  pub fitting : (w : ℕ) (t : LinearTerm) → t.width ≡ w → IsReduced t → Fits term_fits w t
  fitting w t e h = both (t.width == w) (is_reduced t) (true_same t.width w e) ((laws.test t).1 h)

  pub number_fits : (w n : ℕ) → Fits term_fits w (number_term w n)
  number_fits w n = fitting w (number_term w n) refl (number_reduced w n)

  pub symbol_fits : (w s : ℕ) → Fits term_fits w (symbol_term w s)
  symbol_fits w s = fitting w (symbol_term w s) refl (symbol_reduced w s)

  pub terms_keep : (unknowns : ℕ) → Keeps term_fits (terms unknowns)
  terms_keep unknowns = record {
    constant = number_fits;
    plus = λ w a b ha hb. subst (λ (t : LinearTerm). Fits term_fits w t) (sym (chosen w a b (term_sum a b) (number_term w 0) ha hb))
        (fitting w (term_sum a b) (fits_width w a ha) (laws.sum a b));
    minus = λ w a b ha hb. subst (λ (t : LinearTerm). Fits term_fits w t) (sym (chosen w a b (term_difference a b) (number_term w 0) ha hb))
        (fitting w (term_difference a b) (fits_width w a ha) (laws.difference a b));
    unknown = symbol_fits;
    choice = λ w k. symbol_fits w (unknowns + k);
  }
