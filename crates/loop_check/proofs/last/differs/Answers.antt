use Rattle.std.proofs.Common.{◌≡◌, ◌∙◌, List, map, true≢false, ap, sym, subst}
use Rattle.std.specs.List.{AllByRecursion}
use Rattle.sn_width.specs.declared.rel.Rel.TheVariants.{Ne}
use Rattle.lin_term.specs.Terms.{LinearTerm}
use Rattle.path_cond.specs.Conditions.{Condition}
use Rattle.path_formula.specs.Formulas.{compared}
use Rattle.path_formula.specs.Typed.{IsTyped}
use Rattle.sefl_meaning.specs.Valued.{CarriedFits}
use Rattle.term_values.specs.Fits.{typed_fits}
use Rattle.sym_state.specs.Symbolic.{held_of}
use Rattle.symbolic_engine.specs.Origins.{condition_seen}
use Rattle.loop_meaning.specs.Visits.{difference, layout_of, paired, values_of}
use Rattle.loop_check.specs.Lists.{terms_of}
use Rattle.loop_check.specs.Seen.{SaysOf}
use Rattle.loop_check.specs.Telling.{FirstTells}
use Rattle.loop_check.proofs.Layouts.{same_layout, same_shape}
use Rattle.loop_check.proofs.Symbols.{same_choices, same_widths, says_so}
use Rattle.loop_check.proofs.Values.{values_listed, values_typed}
use Rattle.loop_check.proofs.last.differs.Goals as goal

pub returns-then-not-have_same_symbols : goal.returns-then-not-have_same_symbols
returns-then-not-have_same_symbols c = λ e.
    let widths = same_widths c.args.last.now.state.now c.args.visit.now c.requires.start e in
    let yes = c.have_same_symbols.ensures.1
    (ap (λ (d : Condition). d.widths) c.condition.ensures ∙ (widths ∙ sym (ap (λ (d : Condition). d.widths) c.condition-2.ensures))) in
    true≢false (sym yes ∙ c.if-not-have_same_symbols.true)

pub returns-then-not-have_same_shape : goal.returns-then-not-have_same_shape
returns-then-not-have_same_shape c =
    let widths = sym (ap (λ (d : Condition). d.widths) c.condition.ensures)
    ∙ (c.have_same_symbols.ensures.0 c.if-not-have_same_symbols.false ∙ ap (λ (d : Condition). d.widths) c.condition-2.ensures) in (
      same_choices c.args.last.now.state.now c.args.visit.now c.requires.start widths,
      λ l. true≢false (sym (c.have_same_shape.ensures.1
          (same_shape c.args.visit.now.carried c.args.last.now.state.now.carried c.in_ok-lists.lists c.args.last.now.lists c.in_ok-lists.ensures c.requires.last.lists l))
          ∙ c.if-not-have_same_shape.true),
    )

pub compare_values-requires-clause-typed : goal.compare_values-requires-clause-typed
compare_values-requires-clause-typed c =
    let visit = c.args.visit.now in
    let last = c.args.last.now.state.now in
    let widths : visit.condition.widths ≡ last.condition.widths =
    sym (ap (λ (d : Condition). d.widths) c.condition.ensures)
    ∙ (c.have_same_symbols.ensures.0 c.if-not-have_same_symbols.false ∙ ap (λ (d : Condition). d.widths) c.condition-2.ensures) in
    let layout : layout_of visit.carried ≡ layout_of last.carried =
    same_layout visit.carried last.carried c.in_ok-lists.lists c.args.last.now.lists c.in_ok-lists.ensures c.requires.last.lists
    c.listed_tags_fix_the_tags.ensures (c.have_same_shape.ensures.0 c.if-not-have_same_shape.false) in
    let fits : CarriedFits (typed_fits last.condition.widths) visit.carried =
    subst (λ (ws : List _). CarriedFits (typed_fits ws) visit.carried) widths c.terms_are_typed.ensures in
    let earlier : values_of visit.carried ≡ terms_of c.deref.result.now =
    sym (ap terms_of c.deref.ensures.value ∙ (c.in_ok-values.ensures ∙ values_listed visit.carried c.in_ok-lists.lists c.in_ok-lists.ensures)) in
    let later : values_of last.carried ≡ terms_of c.deref-2.result.now = sym (ap terms_of c.deref-2.ensures.value ∙ c.requires.last.values) in
    let Typed : LinearTerm × LinearTerm → Type 0 = λ p. IsTyped last.condition.widths (compared Ne p.0 p.1) in
    subst (λ (xs : List LinearTerm). AllByRecursion Typed (paired xs (terms_of c.deref-2.result.now))) earlier
    (subst (λ (ys : List LinearTerm). AllByRecursion Typed (paired (values_of visit.carried) ys)) later
    (values_typed (record { fits = c.the_tests_of_fitting_terms.ensures.fits; typed = c.the_tests_of_fitting_terms.ensures.typed }) last.condition.widths
    visit.carried last.carried layout fits c.terms_are_typed-2.ensures))

pub returns : goal.returns
returns c =
    let visit = c.args.visit.now in
    let last = c.args.last.now.state.now in
    let widths : visit.condition.widths ≡ last.condition.widths =
    sym (ap (λ (d : Condition). d.widths) c.condition.ensures)
    ∙ (c.have_same_symbols.ensures.0 c.if-not-have_same_symbols.false ∙ ap (λ (d : Condition). d.widths) c.condition-2.ensures) in
    let layout : layout_of visit.carried ≡ layout_of last.carried =
    same_layout visit.carried last.carried c.in_ok-lists.lists c.args.last.now.lists c.in_ok-lists.ensures c.requires.last.lists
    c.listed_tags_fix_the_tags.ensures (c.have_same_shape.ensures.0 c.if-not-have_same_shape.false) in
    let earlier : terms_of c.deref.result.now ≡ values_of visit.carried =
    ap terms_of c.deref.ensures.value ∙ (c.in_ok-values.ensures ∙ values_listed visit.carried c.in_ok-lists.lists c.in_ok-lists.ensures) in
    let later : terms_of c.deref-2.result.now ≡ values_of last.carried = ap terms_of c.deref-2.ensures.value ∙ c.requires.last.values in
    let tells =
    subst (λ (xs : List LinearTerm). FirstTells (map (difference (condition_seen last)) (paired xs (values_of last.carried))) c.in_ok-found.found) earlier
    (subst (λ (ys : List LinearTerm). FirstTells (map (difference (condition_seen last)) (paired (terms_of c.deref.result.now) ys)) c.in_ok-found.found) later c.in_ok-found.ensures) in
    subst (SaysOf (condition_seen last) (held_of last) visit) (sym c.why_of.ensures)
    (says_so (condition_seen last) (held_of last) visit (same_choices last visit c.requires.start widths) layout c.in_ok-found.found tells)
