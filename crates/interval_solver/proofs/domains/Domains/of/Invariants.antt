use Rattle.interval_solver.specs.Domains.{AreDomainsOfFirst}
use Rattle.interval_solver.proofs.domains.Domains.of.Given as goal

-- the domains of the symbols so far
abbrev pub invariant-loop-symbol : goal.invariant-loop-symbol
invariant-loop-symbol l = AreDomainsOfFirst l.cond l.symbol l.domains
