use Rattle.interval_solver.proofs.Meeting.{domains_wider_ok}
use Rattle.interval_solver.proofs.domains.Domains.with_symbol.Goals as goal

pub returns : goal.returns
returns c = domains_wider_ok c.no_formula_is_simple_on_an_unknown_symbol.ensures c.push.result c.args.self.now c.args.width c.in_ok-all.all c.in_ok-all.ensures c.push.ensures
