use Rattle.path_formula.specs.Bounds.{lists_of}
use Rattle.path_solver.specs.Origins.{refute_of}
use Rattle.path_cond.specs.Coupled.{coupled_symbols}
use Rattle.path_solver.proofs.Joining.{singles_more}
use Rattle.path_solver.proofs.singles.Singles.push.Goals as goal

pub returns-in_ok-push_case-in-Some : goal.returns-in_ok-push_case-in-Some
returns-in_ok-push_case-in-Some c = λ cond origins yes table from h.
    singles_more cond origins (refute_of c.args.origin) c.args.self.now c.push_case.new.self (lists_of c.args.cases.now) c.in-Some.case.now
    c.in-Some.ensures from (c.in_ok-push_case-in-Some.ensures (coupled_symbols cond) table) h
