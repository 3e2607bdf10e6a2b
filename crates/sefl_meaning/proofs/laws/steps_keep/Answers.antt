use Rattle.sefl_meaning.proofs.Tracks.{allocated_tracks, deallocated_tracks, assigned_tracks, tag_created_tracks, tag_set_tracks, tag_destroyed_tracks}
use Rattle.sefl_meaning.proofs.Typing.{carried_weaker}
use Rattle.sefl_meaning.proofs.laws.steps_keep.Goals as goal

pub returns-clause-weaker : goal.returns-clause-weaker
returns-clause-weaker g c = λ closer fits s k h. carried_weaker closer fits k s h

pub returns-clause-allocated : goal.returns-clause-allocated
returns-clause-allocated g c = λ fits at target s h. (allocated_tracks fits (λ x. x) (c.state_laws.ensures (λ x. x)) at target s h).has

pub returns-clause-deallocated : goal.returns-clause-deallocated
returns-clause-deallocated g c = λ fits at target s h. (deallocated_tracks fits (λ x. x) (c.state_laws.ensures (λ x. x)) at target s h).has

pub returns-clause-assigned : goal.returns-clause-assigned
returns-clause-assigned g c = λ fits at target value s h held. (assigned_tracks fits (λ x. x) (c.state_laws.ensures (λ x. x)) at target value s held h).has

pub returns-clause-created : goal.returns-clause-created
returns-clause-created g c = λ fits at name addr s h. (tag_created_tracks fits (λ x. x) (c.state_laws.ensures (λ x. x)) at name addr s h).has

pub returns-clause-set : goal.returns-clause-set
returns-clause-set g c = λ fits at name addr s h. (tag_set_tracks fits (λ x. x) (c.state_laws.ensures (λ x. x)) at name addr s h).has

pub returns-clause-destroyed : goal.returns-clause-destroyed
returns-clause-destroyed g c = λ fits at name s h. (tag_destroyed_tracks fits (λ x. x) (c.state_laws.ensures (λ x. x)) at name s h).has
