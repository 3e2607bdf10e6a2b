use Rattle.report_forms.proofs.Written.{report_form}
use Rattle.report_forms.proofs.Back.{report_one}
use Rattle.report_forms.proofs.laws.reports_have_their_form.Goals as goal

pub returns-clause-form : goal.returns-clause-form
returns-clause-form c = λ net report fits. report_form net c.large_numbers_have_digits.ensures.digits c.places_are_found.ensures report fits

pub returns-clause-one : goal.returns-clause-one
returns-clause-one c = λ net report found fits other same. report_one net c.large_numbers_have_digits.ensures.digits c.places_are_found.ensures report found fits other same
