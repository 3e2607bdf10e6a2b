use Rattle.std.proofs.Common.{[], ◌∷◌, inl, arith}
use Rattle.difference_solver.proofs.Reading.{refuted_unmet}
use Rattle.difference_solver.proofs.search_laws.refuted_choices_are_not_met.Goals as goal

pub returns : goal.returns
returns c = λ choices steps v h each. refuted_unmet c.cycle_refutes.ensures choices ([] ∷ []) steps v h each (inl (λ k d lt. absurd (omega arith)))
