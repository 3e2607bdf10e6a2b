use Rattle.decision_tests.proofs.intervals.extended.Goals as goal

pub meet-requires : goal.meet-requires
meet-requires c =
    c.one_formula_more_may_be_met.ensures c.args.cond.now c.in_ok-next.next (c.args.formula, c.args.holds) c.args.domains.now c.in_ok-next.ensures c.requires.domains
