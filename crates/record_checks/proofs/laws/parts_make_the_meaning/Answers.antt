use Rattle.record_checks.proofs.Parts.{parts_make_it}
use Rattle.record_checks.proofs.laws.parts_make_the_meaning.Goals as goal

pub returns : goal.returns
returns c = parts_make_it
