use Rattle.path_solver.proofs.below.facts.Goals as goal

pub returns : goal.returns
returns c =
    record {
      cases_are_truth = c.one_case_is_met_exactly_where_the_formula_has_the_truth.ensures;
      ranges_are_test = c.one_range_is_met_exactly_where_the_value_passes.ensures;
      inside_splits = c.an_inside_formula_has_cases.ensures;
      member_truth = c.a_member_of_a_formula_that_has_its_truth_has_its_own.ensures.truth;
      member_typed = c.a_member_of_a_formula_that_has_its_truth_has_its_own.ensures.typed;
      member_splits = c.a_member_of_a_formula_that_has_its_truth_has_its_own.ensures.splits;
      constant_truth = c.a_constant_formula_has_one_truth.ensures;
      simple_alone = c.a_simple_formula_may_stand_alone.ensures;
      simple_known = c.a_simple_formula_has_a_known_symbol.ensures;
      set_ranges = c.a_set_has_the_ranges_of_its_test.ensures;
    }
