use Rattle.std.proofs.Common.{List, ap, ◌∙◌}
use Rattle.sn_width.specs.declared.ids.SymId.{SymId}
use Rattle.path_formula.specs.Bounds.{lists_of}
use Rattle.path_solver.specs.Unknowns.{choice_of}
use Rattle.path_solver.proofs.Gathering.{choices_push}
use Rattle.path_solver.proofs.problem.Problem.push.Goals as goal

pub returns : goal.returns
returns c = record {
  steps = c.in_ok-push-2.ensures.items;
  choices = λ cond same from h.
      choices_push cond c.args.step c.args.self.now
      (record { steps = c.push-2.new.self; choices = c.push.new.self }) c.in_ok-choice.choice
      (lists_of c.args.cases.now)
      (c.in_ok-choice.ensures ∙ ap (λ (ss : List SymId). choice_of ss (lists_of c.args.cases.now)) same) from
      c.in_ok-push-2.ensures.items c.in_ok-push.ensures.items h;
}
