use Rattle.path_formula.specs.View.{view}
use Rattle.path_solver.proofs.Exact.{undecided_apart}
use Rattle.path_solver.proofs.Verdicts.{refuted_met, undecided_met}
use Rattle.path_solver.proofs.laws.no_condition_is_two_of_refuted_undecided_and_met.Goals as goal

pub returns : goal.returns
returns c =
    record {
      undecided = λ cond cause r h. undecided_apart view c.facts.ensures cond cause h r;
      met = λ cond values r h. refuted_met view c.facts.ensures cond values r h;
      either = λ cond cause values h g. undecided_met view cond cause values h g;
    }
