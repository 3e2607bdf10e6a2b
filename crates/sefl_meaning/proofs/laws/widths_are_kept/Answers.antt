use Rattle.sefl_meaning.proofs.Itself.{itself}
use Rattle.sefl_meaning.proofs.Tracks.{value_tracks, injected_tracks}
use Rattle.sefl_meaning.proofs.CourseTracks.{code_tracks}
use Rattle.sefl_meaning.proofs.laws.widths_are_kept.Goals as goal

pub returns-clause-values : goal.returns-clause-values
returns-clause-values g c =
    λ fits o keeps at width e s h.
    (value_tracks fits o o (λ x. x) (λ t. t) (itself fits o keeps) (c.state_laws.ensures (λ x. x)) at width e s h).has

pub returns-clause-injection : goal.returns-clause-injection
returns-clause-injection g c =
    λ fits o keeps at i.
    (injected_tracks fits o o (λ x. x) (λ t. t) (itself fits o keeps) (c.state_laws.ensures (λ x. x)) at i).has

pub returns-clause-courses : goal.returns-clause-courses
returns-clause-courses g c = λ fits o keeps at site code from h.
    (code_tracks fits o o (λ x. x) (λ t. t) (itself fits o keeps) (c.state_laws.ensures (λ x. x)) at site code from
    h).has
