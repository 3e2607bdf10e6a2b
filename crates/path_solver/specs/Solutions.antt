-- What the cases of a condition decide.
use Rattle.std.specs.Prelude.{List, length}
use Rattle.difference_solver.specs.Choices.{IsLeast}
use Rattle.path_cond.specs.Conditions.{Condition}
use Rattle.path_cond.specs.Coupled.{coupled_symbols}
use Rattle.refutation_check.specs.Accepted.{IsAccepted}
use Rattle.refutation_check.specs.Least.{AreCandidates, AreLeast, HasNoCandidates}
use Rattle.refutation_check.specs.declared.steps.Refute.{Refute}
use Rattle.path_solver.specs.Origins.{choices_from, origins_of}
use Rattle.path_solver.specs.declared.found.Found.{Found}
use Rattle.path_solver.specs.declared.found.Found.TheVariants.{Integers, Refuted as Unmet}
use Rattle.path_solver.specs.declared.solve.Solved.{Solved}
use Rattle.path_solver.specs.declared.solve.Solved.TheVariants.{Values, Refuted}

-- the values are the least that satisfy every formula that is not outside; or no values do, and the refutation is accepted
abbrev pub IsSolved : Condition → Solved → Type 0
IsSolved cond (Values values) = AreLeast cond values.items
IsSolved cond (Refuted refutation) = HasNoCandidates cond × IsAccepted cond refutation

-- the integers are the least that meet one case of each of these choices; or no values satisfy every formula that is not
-- outside, and the refutation is accepted
abbrev pub IsFoundAmong : Condition → List Refute → Found → Type 0
IsFoundAmong cond origins (Integers values) = IsLeast (length (coupled_symbols cond)) (choices_from cond origins) values.items
IsFoundAmong cond origins (Unmet refutation) = HasNoCandidates cond × IsAccepted cond refutation

-- the same of all choices of the condition
abbrev pub IsFound : Condition → Found → Type 0
IsFound cond = IsFoundAmong cond (origins_of cond)

-- the values are the least that satisfy every formula that is not outside, if they satisfy them; or no values do, and the
-- refutation is accepted
abbrev pub IsSolvedAmong : Condition → Solved → Type 0
IsSolvedAmong cond (Values values) = AreCandidates cond values.items → AreLeast cond values.items
IsSolvedAmong cond (Refuted refutation) = HasNoCandidates cond × IsAccepted cond refutation
