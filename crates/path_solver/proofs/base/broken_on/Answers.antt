use Rattle.std.proofs.Common.{◌≡◌, ◌∙◌, ℕ, Option, drop, length, sym, ap, subst}
use Rattle.std.specs.List.{position_from}
use Rattle.std.specs.Option.{option_or}
use Rattle.std.specs.Result.{IfOk}
use Rattle.refutation_check.specs.Least.{is_broken_outside}
use Rattle.path_solver.proofs.Bases.{broken_goes_on}
use Rattle.path_solver.proofs.base.broken_on.Goals as goal

pub returns-in-Some : goal.returns-in-Some
returns-in-Some c =
    let cond = c.args.cond.now in
    let b = c.args.base.now in
    let one_each : length b.least ≡ length cond.widths = sym (ap length c.as_slice.ensures) ∙ c.if-as_slice-symbols.false ∙ c.symbols.ensures in
    sym (broken_goes_on cond b c.args.values.now c.requires.base c.requires.padded one_each
    ∙ ap (λ o. option_or o (position_from (is_broken_outside c.args.values.now) b.formulas (drop b.formulas cond.entries))) c.in-Some.is)

pub returns-in-None : goal.returns-in-None
returns-in-None c =
    let cond = c.args.cond.now in
    let b = c.args.base.now in
    let one_each : length b.least ≡ length cond.widths = sym (ap length c.as_slice.ensures) ∙ c.if-as_slice-symbols.false ∙ c.symbols.ensures in
    let is = broken_goes_on cond b c.args.values.now c.requires.base c.requires.padded one_each
    ∙ ap (λ o. option_or o (position_from (is_broken_outside c.args.values.now) b.formulas (drop b.formulas cond.entries))) c.in-None.is in
    subst (λ (o : Option ℕ). IfOk c.first_broken_from.result (λ first. first ≡ o)) (sym is) c.first_broken_from.ensures
