use Rattle.std.proofs.Common.{◌≡◌, true, ◌&&◌, Some, None, sym, ap, ◌∙◌, subst, rules}
use Rattle.std.specs.Prelude.{slice_get}
use Rattle.std.proofs.Math.ListN.{set}
use Rattle.std.proofs.lemmas.Option.{none-some, same_Some}
use Rattle.sn_ranges.specs.Ranges.{IsSetOf, fits_width}
use Rattle.path_formula.specs.Formulas.{truth_at}
use Rattle.path_formula.specs.Solutions.{agrees, alone}
use Rattle.path_formula.specs.View.{view}
use Rattle.interval_solver.specs.Domains.{AreDomainsOf, is_empty}
use Rattle.interval_solver.proofs.Meeting.{domains_stay_at, domains_met_at, ok_same, width_there}
use Rattle.interval_solver.proofs.domains.Domains.met_at.Goals as goal

pub returns-in_default : goal.returns-in_default
returns-in_default c =
    let path = c.args.cond.now in
    let sets = c.args.self.now in
    let s = c.args.symbol in
    let none : slice_get sets s.0 ≡ None = search rules in
    let stay = domains_stay_at path sets (c.args.formula.now, c.args.holds) c.requires.before s c.requires.simple (λ found at. absurd (none-some found (sym none ∙ at))) in
    ok_same c.fork.result (AreDomainsOf path) sets stay c.fork.ensures

pub returns-then-is_empty : goal.returns-then-is_empty
returns-then-is_empty c =
    let path = c.args.cond.now in
    let sets = c.args.self.now in
    let s = c.args.symbol in
    let here = c.in-Some.set.now in
    let on : c.is_empty.result ≡ true = search rules in
    let empty : is_empty here ≡ true = sym c.is_empty.ensures ∙ on in
    let stay = domains_stay_at path sets (c.args.formula.now, c.args.holds) c.requires.before s c.requires.simple
    (λ found at. ap is_empty (sym (same_Some here found (c.in-Some.ensures ∙ at))) ∙ empty) in
    ok_same c.fork-then-is_empty.result (AreDomainsOf path) sets stay c.fork-then-is_empty.ensures

pub returns : goal.returns
returns c =
    let path = c.args.cond.now in
    let sets = c.args.self.now in
    let s = c.args.symbol in
    let here = c.in-Some.set.now in
    let more = c.in_ok-more.more in
    let next = c.in_ok-met.met in
    let solved = subst (λ w. IsSetOf w (λ x. fits_width w x && agrees c.args.holds (truth_at (view c.args.formula.now) (alone s x))) more) c.width-width.ensures.value c.in_ok-more.ensures in
    let met = domains_met_at path sets (c.args.formula.now, c.args.holds) c.requires.before s here more next c.requires.simple (sym c.in-Some.ensures) solved c.in_ok-met.ensures in
    ok_same c.with.result (AreDomainsOf path) (set sets s.0 next) met c.with.ensures

pub solutions-requires : goal.solutions-requires
solutions-requires c =
    let path = c.args.cond.now in
    let here = c.in-Some.set.now in
    let there = width_there path c.args.self.now (c.args.formula.now, c.args.holds) c.requires.before c.args.symbol here (sym c.in-Some.ensures) in
    c.a_simple_formula_is_over_its_symbol.ensures (view c.args.formula.now) c.args.symbol path.widths c.width-width.result c.requires.simple c.requires.typed
    (there ∙ ap Some (sym c.width-width.ensures.value))
