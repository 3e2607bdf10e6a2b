use Rattle.std.proofs.Common.{◌≡◌, ◌++◌, List, ℕ, true, drop, length, sym, ap, ◌∙◌, subst}
use Rattle.std.specs.List.{list_all}
use Rattle.refutation_check.specs.Least.{holds_unless_outside}
use Rattle.refutation_check.specs.Longer.{zeros}
use Rattle.path_solver.proofs.Bases.{front_least, stay_least}
use Rattle.path_solver.proofs.base.values_on.Goals as goal

pub move_value-moved-requires-clause-least : goal.move_value-moved-requires-clause-least
move_value-moved-requires-clause-least c =
    let cond = c.args.cond.now in
    let is = c.in_ok-values.ensures ∙ ap (λ (least : List ℕ). least ++ zeros (drop (length least) cond.widths)) c.as_slice.ensures in
    front_least c.least_values_stay.ensures.formulas cond c.args.base.now c.in_ok-values.values.items c.requires.base is

pub returns-then-stay : goal.returns-then-stay
returns-then-stay c =
    let cond = c.args.cond.now in
    let b = c.args.base.now in
    let is = c.in_ok-values.ensures ∙ ap (λ (least : List ℕ). least ++ zeros (drop (length least) cond.widths)) c.as_slice.ensures in
    let holds = subst (λ (vs : List ℕ). list_all (holds_unless_outside vs) (drop b.formulas cond.entries) ≡ true) c.as_slice-2.ensures.value (sym c.in_ok-stay.ensures ∙ c.if-stay.true) in
    (stay_least c.least_values_stay.ensures.formulas cond b c.in_ok-values.values.items c.requires.base is holds, is)

pub returns-then-moved : goal.returns-then-moved
returns-then-moved c = c.move_value-moved.ensures c.if-moved.true
