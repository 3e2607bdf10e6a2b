use Rattle.std.proofs.Common.{sym, subst}
use Rattle.path_cond.specs.Conditions.{Condition}
use Rattle.interval_solver.specs.Domains.{AreDomainsOf}
use Rattle.path_trace.proofs.trace.Trace.with_symbol.Goals as goal

pub invariant_of-result : goal.invariant_of-result
invariant_of-result c =
    subst (λ (k : Condition). AreDomainsOf k c.in_ok-domains.domains) (sym c.in_ok-condition.ensures)
    (c.in_ok-domains.ensures c.self.inside.condition c.self.invariant c.formulas_are_typed.ensures)
