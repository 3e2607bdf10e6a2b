use Rattle.std.specs.Prelude.{◌==◌}
use Rattle.lin_term.specs.Reduced.{is_reduced}
use Rattle.path_formula.specs.TypeTests.{is_typed_term}
use Rattle.term_values.specs.Fits.{term_fits}
use Rattle.term_values.proofs.FitLemmas.{both, left_of, right_of, fits_test, fits_width, true_same}
use Rattle.term_values.proofs.laws.the_tests_of_fitting_terms.Goals as goal

pub returns : goal.returns
returns c = record {
  fits = λ w t. (
    λ h. (fits_width w t h, (c.the_test_of_reduced_terms.ensures t).0 (fits_test w t h)),
    λ h. both (t.width == w) (is_reduced t) (true_same t.width w h.0) ((c.the_test_of_reduced_terms.ensures t).1 h.1),
  );
  typed = λ widths w t. (
    λ h. (left_of (term_fits w t) (is_typed_term widths t) h, (c.the_tests_of_types.ensures.term widths t).0 (right_of (term_fits w t) (is_typed_term widths t) h)),
    λ h. both (term_fits w t) (is_typed_term widths t) h.0 ((c.the_tests_of_types.ensures.term widths t).1 h.1),
  );
}
