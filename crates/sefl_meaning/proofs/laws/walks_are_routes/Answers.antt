use Rattle.sefl_meaning.proofs.RouteLemmas.{walks_are_ways, ways_are_walks, shown_of_one, one_is_shown}
use Rattle.sefl_meaning.proofs.laws.walks_are_routes.Goals as goal

pub returns-clause-ways : goal.returns-clause-ways
returns-clause-ways c = λ t. walks_are_ways t

pub returns-clause-walks : goal.returns-clause-walks
returns-clause-walks c = λ t w h. ways_are_walks t w h

pub returns-clause-shown : goal.returns-clause-shown
returns-clause-shown c = λ ws t. (λ h. shown_of_one ws t h, λ h. one_is_shown ws h.0 t h.1 h.2)
