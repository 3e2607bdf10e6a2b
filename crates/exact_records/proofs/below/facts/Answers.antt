use Rattle.exact_records.proofs.below.facts.Goals as goal

pub returns : goal.returns
returns c = record {
  verdicts = c.verdicts_on_trees_are_exact.ensures;
  refute = c.an_accepted_refutation_of_trees_refutes.ensures;
  widen = c.symbols_that_no_formula_has_change_nothing.ensures.trees;
  composed = c.routes_compose.ensures.composed;
}
