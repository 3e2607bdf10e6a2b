use Rattle.path_cond.specs.Seen.{itself}
use Rattle.refutation_check.proofs.Soundness.{Laws, accepted_refutes}
use Rattle.refutation_check.proofs.laws.an_accepted_refutation_of_trees_refutes.Goals as goal

pub returns : goal.returns
returns c =
    let laws : Laws = record {
      alone_is = c.a_simple_formula_may_stand_alone.ensures;
      range_is = c.one_range_is_met_exactly_where_the_value_passes.ensures;
      case_is = c.one_case_is_met_exactly_where_the_formula_has_the_truth.ensures;
      member_is = c.a_member_of_a_formula_that_has_its_truth_has_its_own.ensures.truth;
      member_typed = c.a_member_of_a_formula_that_has_its_truth_has_its_own.ensures.typed;
      more_is = c.bounds_before_cases_are_met_with_one_of_them.ensures;
    } in
    accepted_refutes itself laws
