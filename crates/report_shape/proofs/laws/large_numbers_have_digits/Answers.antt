use Rattle.report_shape.proofs.LargeLemmas.{digits_are_large, number_is_large}
use Rattle.report_shape.proofs.laws.large_numbers_have_digits.Goals as goal

pub returns-clause-digits : goal.returns-clause-digits
returns-clause-digits c = digits_are_large

pub returns-clause-number : goal.returns-clause-number
returns-clause-number c = number_is_large
