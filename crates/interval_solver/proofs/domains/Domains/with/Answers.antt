use Rattle.std.proofs.Common.{sym, ap, ◌∙◌, subst}
use Rattle.interval_solver.specs.Domains.{IsFilledAt, first_empty, first_with}
use Rattle.interval_solver.proofs.Firsts.{first_empty-with}
use Rattle.interval_solver.proofs.domains.Domains.with.Goals as goal

pub invariant_of-result : goal.invariant_of-result
invariant_of-result c =
    let old = c.self.inside in
    let place = c.args.symbol.0 in
    let filled = subst (λ sets. IsFilledAt sets place) (sym c.self.view_is) c.requires in
    c.after_change-empty.ensures ∙ ap (λ b. first_with old.empty b place) c.is_empty.ensures
    ∙ first_empty-with old.sets c.args.set old.empty place c.self.invariant filled ∙ sym (ap first_empty c.in_ok-sets.ensures)
