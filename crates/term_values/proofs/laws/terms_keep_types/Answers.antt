use Rattle.term_values.proofs.LawsBelow.{ReducedLaws, TypeLaws}
use Rattle.term_values.proofs.Typing.{sums_keep, tests_keep, symbols_keep}
use Rattle.term_values.proofs.laws.terms_keep_types.Goals as goal

pub returns : goal.returns
returns c =
    let reduced : ReducedLaws = record {
      test = c.the_test_of_reduced_terms.ensures;
      sum = c.the_sum_of_terms.ensures.reduced;
      difference = c.the_difference_of_terms.ensures.reduced;
    } in
    let laws : TypeLaws = record {
      term_test = c.the_tests_of_types.ensures.term;
      test = c.the_tests_of_types.ensures.formula;
      sum = c.sums_of_typed_terms_are_typed.ensures.sum;
      difference = c.sums_of_typed_terms_are_typed.ensures.difference;
      number = c.numbers_and_symbols_are_typed.ensures.number;
      next = c.numbers_and_symbols_are_typed.ensures.next;
      wider = c.more_symbols_keep_types.ensures.term;
      comparison = c.formulas_of_typed_parts_are_typed.ensures.comparison;
      membership = c.formulas_of_typed_parts_are_typed.ensures.membership;
      every = c.formulas_of_typed_parts_are_typed.ensures.all;
      some = c.formulas_of_typed_parts_are_typed.ensures.any;
      negation = c.formulas_of_typed_parts_are_typed.ensures.opposite;
    } in
    record { sums = sums_keep laws reduced; tests = tests_keep laws reduced; symbols = symbols_keep laws reduced }
