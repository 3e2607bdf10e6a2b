use Rattle.std.proofs.Common.{◌∙◌, ap}
use Rattle.cell_stacks.specs.Outcome.{and_then, on_ok}
use Rattle.sefl_meaning.specs.Values.{numbers}
use Rattle.sefl_meaning.specs.Carried.{scene_at}
use Rattle.sefl_meaning.specs.Injected.{injected, unknown_count, unknown_widths}
use Rattle.sefl_meaning.specs.Runs.{starting}
use Rattle.sefl_meaning.specs.Start.{start_from, tree_from}
use Rattle.sefl_meaning.proofs.StartLemmas.{all_so, all_true, its_tests, start_from_valued, start_valued_of, truths_go}
use Rattle.sefl_meaning.proofs.starts.injections_have_a_start.Goals as goal

pub returns-clause-walks : goal.returns-clause-walks
returns-clause-walks g c = λ net i v hops s.
    c.runs_are_ways.ensures.walks net v (unknown_count i) hops i.own.port i.node (starting s)

pub returns-clause-starts : goal.returns-clause-starts
returns-clause-starts g c = λ net i v hops s. (
  (λ h.
      let true' = all_true (numbers v (unknown_count i)) (scene_at net i.node) s i.own.tests h.holds in
      record {
        fits = h.fits;
        carries = h.carries;
        start = record { unknowns = unknown_widths i.own.fields; tests = true'.truths; tree = tree_from (numbers v (unknown_count i)) net i hops s; most_choices = i.most_choices };
        starts = ap (on_ok (λ fs. record { unknowns = unknown_widths i.own.fields; tests = fs; tree = tree_from (numbers v (unknown_count i)) net i hops s; most_choices = i.most_choices })) true'.is;
        holds = true'.true';
      }),
  (λ h. record {
    fits = h.fits;
    carries = h.carries;
    holds = all_so (numbers v (unknown_count i)) (scene_at net i.node) s i.own.tests h.start.tests
        (its_tests (numbers v (unknown_count i)) net i hops s h.start h.starts) h.holds;
  }),
)

pub returns-clause-valued : goal.returns-clause-valued
returns-clause-valued g c = λ fits o p f g' respects net i hops.
    ap (λ r. and_then r (start_from p net i hops)) (c.valuing_commutes.ensures.injection fits o p f g' respects (scene_at net i.node) i.own)
    ∙ start_valued_of o p f g' net i hops fits (injected o (scene_at net i.node) i.own)
    (c.widths_are_kept.ensures.injection fits o respects.keeps (scene_at net i.node) i.own)
    (λ s held. start_from_valued o p f g' net i hops s
    (λ test. c.valuing_commutes.ensures.truths fits o p f g' respects (scene_at net i.node) test s held)
    (c.valuing_commutes.ensures.trees fits o p f g' respects net hops i.own.port i.node (starting s) held))

pub returns-clause-goes : goal.returns-clause-goes
returns-clause-goes g c = λ o net i hops one widths.
    let carried = c.accepted_injections_go.ensures.carries o net i one widths in
    let tests = truths_go o (scene_at net i.node) carried.0 i.own.tests (c.accepted_injections_go.ensures.tests o net i one widths carried.0 carried.1) in (
      record { unknowns = unknown_widths i.own.fields; tests = tests.0; tree = tree_from o net i hops carried.0; most_choices = i.most_choices },
      ap (λ r. and_then r (start_from o net i hops)) carried.1
          ∙ ap (on_ok (λ fs. record { unknowns = unknown_widths i.own.fields; tests = fs; tree = tree_from o net i hops carried.0; most_choices = i.most_choices })) tests.1,
    )
