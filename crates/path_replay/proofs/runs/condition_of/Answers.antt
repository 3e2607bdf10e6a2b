use Rattle.std.proofs.Common.{ap, ◌∙◌}
use Rattle.sym_state.specs.Symbolic.{Symbolic}
use Rattle.path_replay.proofs.runs.condition_of.Goals as goal

pub returns-clause-condition : goal.returns-clause-condition
returns-clause-condition g c = c.in_ok-condition.ensures ∙ (c.condition.ensures ∙ ap (λ (x : Symbolic). x.condition) c.state.ensures.is)
