use Rattle.std.proofs.Common.{◌↔◌, ◌≡◌, ◌+◌, length, drop}
use Rattle.refutation_check.specs.Accepted.{IsAccepted, Refutes}
use Rattle.refutation_check.specs.Agenda.{pending, IsNested}
use Rattle.refutation_check.proofs.checker.is_accepted.Given as goal

-- the steps that are left decide
abbrev pub invariant-loop-step : goal.invariant-loop-step
invariant-loop-step l = record {
  rest : IsAccepted l.cond l.refutation ↔ Refutes l.cond (pending l.agenda) (drop l.step-index l.step-items);
  nested : IsNested l.agenda;
  left : l.left + l.step-index ≡ length l.step-items;
}
