use Rattle.report_forms.proofs.Written.{line_form}
use Rattle.report_forms.proofs.Back.{line_one}
use Rattle.report_forms.proofs.laws.lines_have_their_form.Goals as goal

pub returns-clause-form : goal.returns-clause-form
returns-clause-form c = λ net cases hops limit records refuted complete fits.
    line_form net c.large_numbers_have_digits.ensures.digits c.places_are_found.ensures cases hops limit records refuted complete fits

pub returns-clause-one : goal.returns-clause-one
returns-clause-one c = λ net cases hops limit records refuted complete found fits other same.
    line_one net c.large_numbers_have_digits.ensures.digits c.places_are_found.ensures cases hops limit records refuted complete found fits other same
