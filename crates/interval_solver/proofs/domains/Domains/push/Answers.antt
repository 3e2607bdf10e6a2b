use Rattle.std.proofs.Common.{sym, ap, ◌∙◌}
use Rattle.interval_solver.specs.Domains.{first_empty, first_or_last}
use Rattle.interval_solver.proofs.Firsts.{first_empty-more}
use Rattle.interval_solver.proofs.domains.Domains.push.Goals as goal

pub invariant_of-result : goal.invariant_of-result
invariant_of-result c =
    let old = c.self.inside in
    c.after_push-empty.ensures ∙ ap (λ b. first_or_last old.empty b c.len.result) c.is_empty.ensures
    ∙ first_empty-more old.sets c.args.set old.empty c.len.result c.self.invariant c.len.ensures ∙ sym (ap first_empty c.in_ok-sets.ensures)
