use Rattle.std.proofs.Common.{sym, ◌∙◌}
use Rattle.path_formula.proofs.Solving.{by_right, by_left, by_constant}
use Rattle.path_formula.proofs.solutions.comparison.Goals as goal

pub returns-in-Number : goal.returns-in-Number
returns-in-Number c =
    let a = c.args.left.now in
    let b = c.args.right.now in
    by_right c.args.rel c.exchanged-rel.result a b c.args.symbol c.in-Single.symbol c.args.width c.args.holds c.moved_related.result (sym c.of_comparison.ensures ∙ c.in-Single.is) c.requires (sym c.of.ensures ∙ c.in-Number.is) c.constant-in-Number.ensures.reduced c.exchanged-rel.ensures
    (rw (← c.constant.ensures.constant, ← c.constant-in-Number.ensures.constant) c.moved_related.ensures)

pub returns-in_default-of : goal.returns-in_default-of
returns-in_default-of c =
    let a = c.args.left.now in
    let b = c.args.right.now in
    by_left c.args.rel a b c.args.symbol c.in-Single.symbol c.args.width c.args.holds c.moved_related-in_default-of.result (sym c.of_comparison.ensures ∙ c.in-Single.is) c.requires (λ h. c.in_default-of.not-Number (c.of.ensures ∙ h)) c.constant-in_default-of-2.ensures.reduced
    (rw (← c.constant-in_default-of.ensures.constant, ← c.constant-in_default-of-2.ensures.constant) c.moved_related-in_default-of.ensures)

pub returns-in_default : goal.returns-in_default
returns-in_default c =
    let a = c.args.left.now in
    let b = c.args.right.now in
    by_constant c.args.rel a b c.args.symbol c.args.width c.args.holds c.all_or_none.result (λ r h. c.in_default.not-Single r (c.of_comparison.ensures ∙ h)) c.requires
    (rw (← c.value.ensures.value, ← c.value-in_default.ensures.value, ← c.holds-truth.ensures, ← c.agree.ensures) c.all_or_none.ensures)
