-- Values of terms and truths of formulas respect the operations.
use Rattle.std.proofs.Common.{◌≡◌, ℕ, ◌+◌, ◌%◌, ◌^◌, Bool, true, false, List, [], ◌∷◌, map, refl, sym, ap, ◌∙◌, arith}
use Rattle.std.specs.Prelude.{◌&&◌, ◌||◌, nat_lt, if◌then◌else◌}
use Rattle.std.specs.List.{list_all, list_any}
use Rattle.std.proofs.lemmas.Bool.Decides.{nat_tests}
use Rattle.std.proofs.lemmas.Option.{unwrap_or-slice_get}
use Rattle.std.proofs.lemmas.Nat.{mod_below, pow_pos}
use Rattle.sn_width.specs.Width.{wrapped_sum, wrapped_difference}
use Rattle.lin_term.specs.Terms.{value_at}
use Rattle.lin_term.specs.Sums.{term_sum, term_difference}
use Rattle.sn_ranges.specs.Ranges.{is_member}
use Rattle.sn_ranges.specs.Sets.{set_of}
use Rattle.path_formula.specs.Formulas.{belongs, truth_at}
use Rattle.sefl_meaning.specs.Values.{numbers, number_at}
use Rattle.sefl_meaning.specs.Valued.{Respects}
use Rattle.term_values.specs.Fits.{term_fits}
use Rattle.term_values.specs.TermValues.{number_term, symbol_term, terms}
use Rattle.term_values.proofs.LawsBelow.{ReducedLaws, ValueLaws}
use Rattle.term_values.proofs.FitLemmas.{chosen, fits_reduced, fits_width, same_width, terms_keep}

all_mapped : {A : Type 0} (g : A → Bool) (fs : List A) → list_all g fs ≡ list_all (λ truth. truth) (map g fs)
all_mapped g [] = refl
all_mapped g (f ∷ fs) = ap (λ b. g f && b) (all_mapped g fs)

any_mapped : {A : Type 0} (g : A → Bool) (fs : List A) → list_any g fs ≡ list_any (λ truth. truth) (map g fs)
any_mapped g [] = refl
any_mapped g (f ∷ fs) = ap (λ b. g f || b) (any_mapped g fs)

one : (n : ℕ) → n % 2 ^ 0 ≡ 0
one n = omega arith

module _ (reduced : ReducedLaws) (laws : ValueLaws) (v : List ℕ) where
  symbol_value : (w s : ℕ) → value_at (symbol_term w s) v ≡ number_at v s % 2 ^ w
  symbol_value w s = by (nat_lt 0 w) refl
    where
      by : (b : Bool) → nat_lt 0 w ≡ b → value_at (record { width = w; constant = 0; parts = if b then (record { 0 = s }, 1) ∷ [] else [] }) v ≡ number_at v s % 2 ^ w
      by true e = laws.symbol w (record { 0 = s }) v ∙ ap (λ n. n % 2 ^ w) (sym (unwrap_or-slice_get v s 0))
      by false e = laws.number w 0 v (pow_pos w) ∙ sym (nothing (number_at v s))
        where
          nothing : (n : ℕ) → n % 2 ^ w ≡ 0
          nothing n = let zero : w ≡ 0 = grind (arith, nat_tests) in ap (λ k. n % 2 ^ k) zero ∙ one n

  pub terms_respect : (unknowns : ℕ) → Respects term_fits (terms unknowns) (numbers v unknowns) (λ t. value_at t v) (λ f. truth_at f v)
  terms_respect unknowns = record {
    keeps = terms_keep reduced unknowns;
    constant = λ w n. laws.number w (n % 2 ^ w) v (mod_below n (2 ^ w) (pow_pos w));
    plus = λ w a b ha hb.
        ap (λ t. value_at t v) (chosen w a b (term_sum a b) (number_term w 0) ha hb)
        ∙ laws.sum a b v (same_width w a b ha hb)
        ∙ ap (λ n. wrapped_sum n (value_at a v) (value_at b v)) (fits_width w a ha);
    minus = λ w a b ha hb.
        ap (λ t. value_at t v) (chosen w a b (term_difference a b) (number_term w 0) ha hb)
        ∙ laws.difference a b v (same_width w a b ha hb) (fits_reduced reduced w b hb)
        ∙ ap (λ n. wrapped_difference n (value_at a v) (value_at b v)) (fits_width w a ha);
    unknown = symbol_value;
    choice = λ w k. symbol_value w (unknowns + k);
    compare = λ w rel a b ha hb. refl;
    member = λ w a ranges ha.
        ap (λ n. truth_at (belongs a (set_of n (is_member ranges))) v) (sym (fits_width w a ha)) ∙ laws.member a ranges v;
    always = refl;
    all_of = λ fs. laws.every fs v ∙ all_mapped (λ f. truth_at f v) fs;
    any_of = λ fs. laws.some fs v ∙ any_mapped (λ f. truth_at f v) fs;
    negation = λ f. refl;
  }
