use Rattle.std.proofs.Common.{[]}
use Rattle.net_check.specs.Network.{unknown_count, unknown_widths}
use Rattle.sefl_meaning.specs.Values.{numbers}
use Rattle.term_values.specs.Fits.{term_fits, typed_fits}
use Rattle.term_values.specs.TermValues.{terms}
use Rattle.path_questions.specs.Below.{term_at, truth_of}
use Rattle.path_questions.proofs.below.below.Goals as goal

pub returns : goal.returns
returns c = λ net i hops.
    let n = unknown_count i in
    let ws = unknown_widths i.own.fields in
    record {
      verdicts = c.verdicts_on_trees_are_exact.ensures;
      refute = c.an_accepted_refutation_of_trees_refutes.ensures;
      takes = c.packets_take_routes.ensures.decisions net i hops;
      passages = c.packets_take_routes.ensures.passages net i hops;
      shown_of = c.walks_are_routes.ensures.shown;
      valuing = record {
        respects = λ v. c.values_respect_the_operations.ensures v n;
        values = λ v at w e s fit. c.valuing_commutes.ensures.values term_fits (terms n) (numbers v n) (term_at v) (truth_of v) (c.values_respect_the_operations.ensures v n) at w e s fit;
        truths = λ v at test s fit. c.valuing_commutes.ensures.truths term_fits (terms n) (numbers v n) (term_at v) (truth_of v) (c.values_respect_the_operations.ensures v n) at test s fit;
        kept = λ at w e s fit. c.widths_are_kept.ensures.values term_fits (terms n) (c.values_respect_the_operations.ensures [] n).keeps at w e s fit;
      };
      typing = record {
        fits = c.the_tests_of_fitting_terms.ensures.fits;
        typed = c.the_tests_of_fitting_terms.ensures.typed;
        symbols = c.terms_keep_types.ensures.symbols ws;
        weaker = c.steps_keep.ensures.weaker;
        values = λ widths at w e s fit. c.expressions_keep.ensures.values (typed_fits widths) (terms n) (c.terms_keep_types.ensures.sums widths n) at w e s fit;
        injection = λ at. c.symbols_are_typed.ensures.injection typed_fits (terms n) i.own (c.terms_keep_types.ensures.symbols ws) at;
        trees = λ net hops port node p fit. c.symbols_are_typed.ensures.trees typed_fits ws (terms n) (c.terms_keep_types.ensures.symbols ws) net hops port node p fit;
      };
    }
