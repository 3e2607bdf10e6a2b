use Rattle.term_values.proofs.LawsBelow.{ReducedLaws, ValueLaws}
use Rattle.term_values.proofs.Respecting.{terms_respect}
use Rattle.term_values.proofs.laws.values_respect_the_operations.Goals as goal

pub returns : goal.returns
returns c =
    let reduced : ReducedLaws = record {
      test = c.the_test_of_reduced_terms.ensures;
      sum = c.the_sum_of_terms.ensures.reduced;
      difference = c.the_difference_of_terms.ensures.reduced;
    } in
    let laws : ValueLaws = record {
      number = c.value_of_a_number.ensures;
      symbol = c.value_of_a_symbol.ensures;
      sum = c.the_sum_of_terms.ensures.value;
      difference = c.the_difference_of_terms.ensures.value;
      member = c.truths_go_by_the_parts.ensures.membership;
      every = c.truths_go_by_the_parts.ensures.all;
      some = c.truths_go_by_the_parts.ensures.any;
    } in
    λ v unknowns. terms_respect reduced laws v unknowns
