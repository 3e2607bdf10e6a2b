use Rattle.path_trace.proofs.trace.Trace.assume.Goals as goal

pub meet-requires : goal.meet-requires
meet-requires c =
    c.one_formula_more_may_be_met.ensures c.self.inside.condition c.in_ok-condition.condition (c.args.formula, c.args.holds) c.self.inside.domains
    c.in_ok-condition.ensures c.self.invariant
