use Rattle.net_check.specs.Network.{unknown_count, unknown_widths}
use Rattle.sefl_meaning.specs.Carried.{scene_at}
use Rattle.term_values.specs.Fits.{typed_fits}
use Rattle.term_values.specs.TermValues.{terms}
use Rattle.report_forms.proofs.below.names_and_widths.Goals as goal

pub returns : goal.returns
returns c = λ net i.
    let o = terms (unknown_count i) in
    let ws = unknown_widths i.own.fields in
    let symbols = c.terms_keep_types.ensures.symbols ws in
    record {
      injection = λ one s is. c.ids_are_the_nets_own.ensures.injection o net i one s is;
      trees = λ accepted hops port node p there own. c.ids_are_the_nets_own.ensures.trees o net accepted hops port node p there own;
      typed_injection = c.symbols_are_typed.ensures.injection typed_fits o i.own symbols (scene_at net i.node);
      typed_trees = λ hops port node p fit. c.symbols_are_typed.ensures.trees typed_fits ws o symbols net hops port node p fit;
      width = λ widths w t fits. ((c.the_tests_of_fitting_terms.ensures.fits w t).0 ((c.the_tests_of_fitting_terms.ensures.typed widths w t).0 fits).0).0;
    }
