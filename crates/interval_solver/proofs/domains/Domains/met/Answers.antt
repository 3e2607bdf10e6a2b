use Rattle.std.proofs.Common.{sym, ap}
use Rattle.path_cond.specs.Conditions.{is_simple_on}
use Rattle.interval_solver.specs.Domains.{AreDomainsOf}
use Rattle.interval_solver.proofs.Meeting.{domains_stay_off, ok_same}
use Rattle.interval_solver.proofs.domains.Domains.met.Goals as goal

pub returns-in-Constant : goal.returns-in-Constant
returns-in-Constant c =
    let path = c.args.cond.now in
    let sets = c.args.self.now in
    let stay = domains_stay_off path sets (c.args.formula.now, c.args.holds) c.requires.before (λ s. ap (is_simple_on s) (sym c.in-Constant.ensures)) in
    ok_same c.fork.result (AreDomainsOf path) sets stay c.fork.ensures

pub returns-in-Inside : goal.returns-in-Inside
returns-in-Inside c =
    let path = c.args.cond.now in
    let sets = c.args.self.now in
    let stay = domains_stay_off path sets (c.args.formula.now, c.args.holds) c.requires.before (λ s. ap (is_simple_on s) (sym c.in-Inside.ensures)) in
    ok_same c.fork-in-Inside.result (AreDomainsOf path) sets stay c.fork-in-Inside.ensures

pub returns-in-Outside : goal.returns-in-Outside
returns-in-Outside c =
    let path = c.args.cond.now in
    let sets = c.args.self.now in
    let stay = domains_stay_off path sets (c.args.formula.now, c.args.holds) c.requires.before (λ s. ap (is_simple_on s) (sym c.in-Outside.ensures)) in
    ok_same c.fork-in-Outside.result (AreDomainsOf path) sets stay c.fork-in-Outside.ensures
