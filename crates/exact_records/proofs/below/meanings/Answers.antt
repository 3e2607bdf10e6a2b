use Rattle.sefl_meaning.specs.Injected.{unknown_count}
use Rattle.sefl_meaning.specs.Values.{numbers}
use Rattle.term_values.specs.Fits.{term_fits}
use Rattle.term_values.specs.TermValues.{terms}
use Rattle.exact_records.specs.Below.{formula_at, term_at}
use Rattle.exact_records.proofs.below.meanings.Goals as goal

pub returns : goal.returns
returns c = record {
  walks = c.injections_have_a_start.ensures.walks;
  starts = c.injections_have_a_start.ensures.starts;
  valued = λ v net i hops.
      c.injections_have_a_start.ensures.valued term_fits (terms (unknown_count i)) (numbers v (unknown_count i)) (term_at v) (formula_at v)
      (c.values_respect_the_operations.ensures v (unknown_count i)) net i hops;
  routes = λ v t ds. c.routes_commute.ensures (term_at v) (formula_at v) t ds;
  ways = c.walks_are_routes.ensures.ways;
  to_walk = c.walks_are_routes.ensures.walks;
  shown_of = c.walks_are_routes.ensures.shown;
}
