use Rattle.std.proofs.Common.{ap, sym, subst}
use Rattle.path_formula.specs.Typed.{IsTyped}
use Rattle.path_formula.specs.View.{view}
use Rattle.path_cond.specs.Conditions.{Condition}
use Rattle.path_cond.proofs.Entries.{IsKept-more}
use Rattle.path_cond.proofs.condition.PathCond.with.Goals as goal

pub invariant_of-result : goal.invariant_of-result
invariant_of-result c =
    let old = c.self.inside in
    let typed = subst (λ ws. IsTyped ws (view c.args.formula)) (sym (ap (λ (d : Condition). d.widths) c.self.view_is)) c.requires in
    rw (c.in_ok-widths.ensures, c.in_ok-entries.ensures)
    (IsKept-more old.widths old.entries old.broken c.broken_with-broken.result old.simple c.in_ok-simple.simple (c.args.formula, c.args.holds) c.kind-kind.result c.len-pick.result c.self.invariant.0 typed c.kind-kind.ensures c.len-pick.ensures c.broken_with-broken.ensures c.in_ok-simple.ensures, c.in_ok-summary.ensures old.entries c.len-pick.ensures c.self.invariant.1)
