use Rattle.report_names.proofs.Placing.{place_found}
use Rattle.report_names.proofs.laws.places_are_found.Goals as goal

pub returns : goal.returns
returns c = place_found
