use denote.Ref.{Bor}
use Rattle.std.proofs.Common.{◌≡◌, ◌∙◌, Option, Some, map, option_map, ap, sym, subst, rules}
use Rattle.net_check.specs.Network.{entry, network}
use Rattle.path_cond.specs.Seen.{entry_seen}
use Rattle.path_formula.specs.View.{view}
use Rattle.path_records.specs.Shown.{fields_seen, held_head}
use Rattle.path_records.specs.declared.records.Record.{Record}
use Rattle.interval_solver.specs.Domains.{AreDomainsOf}
use Rattle.sefl_meaning.specs.Valued.{CarriedFits}
use Rattle.term_values.specs.Fits.{typed_fits}
use Rattle.exact_records.specs.Records.{HasMeaning}
use Rattle.exact_records.specs.View.{record_tree}
use Rattle.path_questions.specs.Formulas.{explored}
use Rattle.sym_state.specs.Symbolic.{Symbolic}
use Rattle.compare_typing.specs.Typing.{HeadsAreTyped}
use Rattle.net_compare.specs.Delivering.{LeadsBy, LeadsToState, delivered_along}
use Rattle.net_compare.proofs.DeliveryLemmas.{heads_are, heads_typed}
use Rattle.net_compare.proofs.Entries.{row_is_seen}
use Rattle.net_compare.proofs.deliveries.delivery_of.Goals as goal

pub returns-in_ok-marks-in-Path-default-default-Delivered-default-default-clause-sound :
    goal.returns-in_ok-marks-in-Path-default-default-Delivered-default-default-clause-sound
returns-in_ok-marks-in-Path-default-default-Delivered-default-default-clause-sound c =
    let start = explored (network c.args.net.now) (entry c.args.injection.now) c.args.hops in
    let path = c.in-Path-default-default-Delivered-default-default in
    let ds = path.decisions.items in
    let state = c.in-Some.state.now in
    let condition = c.condition-condition.result.now in
    let row = (c.in_ok-formulas-in-Path-default-default-Delivered-default-default).formulas.items in
    let same : condition ≡ state.condition = c.condition-condition.ensures in
    let means = subst (λ (r : Record). HasMeaning start (record_tree r)) path.is c.requires.meaning in
    let along : delivered_along (record_tree c.args.one.now) ≡ Some ds = search rules in
    let led = subst (λ o. LeadsBy start o (option_map (λ s. s.now) c.args.state)) along c.requires.state in
    let at : LeadsToState start ds state = subst (λ (o : Option (Bor Symbolic)). LeadsBy start (Some ds) (option_map (λ s. s.now) o)) c.in-Some.is led in
    let heads = heads_are start ds path.places.items path.end (fields_seen path.fields) path.verdict state at means in
    let shown : map held_head path.fields.heads.items ≡ map held_head (c.deref-in-Path-default-default-Delivered-default-default-3).result.now =
    ap (map held_head) (sym (c.deref-in-Path-default-default-Delivered-default-default-3).ensures.value) in
    record {
      domains = subst (λ x. AreDomainsOf x c.domains.result.now) (sym same) c.domains.ensures;
      row = row_is_seen row ∙ ap (map (entry_seen view)) (c.in_ok-formulas-in-Path-default-default-Delivered-default-default).ensures;
      typed = record {
        formulas = (c.a_condition_is_judged_by_its_trees.ensures condition).typed.0 c.formulas_are_typed.ensures;
        cells = subst (HeadsAreTyped condition.widths) (heads ∙ shown)
            (heads_typed (record { fits = c.the_tests_of_fitting_terms.ensures.fits; typed = c.the_tests_of_fitting_terms.ensures.typed }) condition.widths
            state.carried.layers.heads (subst (λ x. CarriedFits (typed_fits x.widths) state.carried) (sym same) c.terms_are_typed.ensures).heads);
      };
    }
