use Rattle.sefl_meaning.proofs.Tracks.{value_tracks, truth_tracks, evaluated_tracks, injected_tracks}
use Rattle.sefl_meaning.proofs.CourseTracks.{code_tracks, enter_tracks}
use Rattle.sefl_meaning.proofs.laws.valuing_commutes.Goals as goal

pub returns-clause-values : goal.returns-clause-values
returns-clause-values g c =
    λ fits o p f k rules at width e s h. (value_tracks fits o p f k rules (c.state_laws.ensures f) at width e s h).same

pub returns-clause-truths : goal.returns-clause-truths
returns-clause-truths g c =
    λ fits o p f k rules at test s h. (truth_tracks fits o p f k rules (c.state_laws.ensures f) at test s h).same

pub returns-clause-injection : goal.returns-clause-injection
returns-clause-injection g c =
    λ fits o p f k rules at i. (injected_tracks fits o p f k rules (c.state_laws.ensures f) at i).same

pub returns-clause-courses : goal.returns-clause-courses
returns-clause-courses g c =
    λ fits o p f k rules at site code from h.
    (code_tracks fits o p f k rules (c.state_laws.ensures f) at site code from h).same

pub returns-clause-trees : goal.returns-clause-trees
returns-clause-trees g c =
    λ fits o p f k rules net hops port node from h. enter_tracks fits o p f k rules (c.state_laws.ensures f) net hops
    node port from h

pub returns-clause-evaluated : goal.returns-clause-evaluated
returns-clause-evaluated g c =
    λ fits o p f k rules at target e s h. (evaluated_tracks fits o p f k rules (c.state_laws.ensures f) at target e s h).same
