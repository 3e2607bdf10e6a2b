use Rattle.sefl_meaning.proofs.RouteLemmas.{routes_commute}
use Rattle.sefl_meaning.proofs.laws.routes_commute.Goals as goal

pub returns : goal.returns
returns g c = λ f k t decisions. routes_commute f k t decisions
