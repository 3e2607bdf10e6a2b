use Rattle.one_list.proofs.Together.{records_are_one}
use Rattle.one_list.proofs.laws.explored_records_are_one.Goals as goal

pub returns : goal.returns
returns c = λ net i hops.
    records_are_one c.verdicts_on_trees_are_exact.ensures c.symbols_that_no_formula_has_change_nothing.ensures.trees
    c.routes_compose.ensures.composed c.routes_compose.ensures.prefix net i hops
