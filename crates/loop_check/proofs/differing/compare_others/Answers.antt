use Rattle.std.proofs.Common.{◌∙◌, true}
use Rattle.sn_width.specs.declared.rel.Rel.TheVariants.{Ne}
use Rattle.path_formula.specs.Formulas.{compared}
use Rattle.loop_check.proofs.Comparing.{base_longer, tells_with}
use Rattle.loop_check.proofs.differing.compare_others.Goals as goal

pub decide_longer-told-requires-clause-domains : goal.decide_longer-told-requires-clause-domains
decide_longer-told-requires-clause-domains c =
    c.one_formula_more_may_be_met.ensures c.args.condition.now c.in_ok-longer.longer (c.not_equal.result, true) c.args.domains.now
    c.in_ok-longer.ensures c.requires.domains

pub decide_longer-told-requires-clause-base : goal.decide_longer-told-requires-clause-base
decide_longer-told-requires-clause-base c =
    base_longer c.a_base_stays_one.ensures.formulas c.args.condition.now c.in_ok-longer.longer (c.not_equal.result, true) c.in_ok-longer.ensures c.args.base
    c.requires.base

pub returns : goal.returns
returns c =
    tells_with c.args.condition.now c.in_ok-longer.longer c.not_equal.result c.in_ok-longer.ensures (compared Ne c.args.earlier.now c.args.later.now)
    (c.not_equal.ensures ∙ (λ i. compared Ne (c.in_ok-left.ensures.same i) (c.in_ok-right.ensures.same i))) c.decide_longer-told.result c.decide_longer-told.ensures
