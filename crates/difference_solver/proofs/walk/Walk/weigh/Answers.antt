use Rattle.std.proofs.Common.{◌≡◌, ◌∙◌, ℤ, List, true, false, reverse, ap, sym, subst}
use Rattle.difference_solver.specs.Choices.{lists_of, MeetsEach}
use Rattle.difference_solver.specs.Words.{is_behind}
use Rattle.difference_solver.proofs.Leading.{past_behind, past_values}
use Rattle.difference_solver.proofs.walk.Walk.weigh.Goals as goal

pub returns-then-is_behind : goal.returns-then-is_behind
returns-then-is_behind c =
    let behind : is_behind c.args.self.now.best c.args.values.items ≡ true =
    sym (c.is_behind.ensures ∙ ap (is_behind c.args.self.now.best) c.as_slice-integers.ensures.value) ∙ c.if-is_behind.true in
    past_behind c.args.count (lists_of c.args.choices.now) c.args.self.now.gathered.items (reverse c.args.self.now.branches.items) c.args.self.now.best c.args.values.items c.args.self.now.steps.items
    behind c.requires.values c.requires.at

pub returns-in-None : goal.returns-in-None
returns-in-None c =
    let before : is_behind c.args.self.now.best c.args.values.items ≡ false =
    sym (c.is_behind.ensures ∙ ap (is_behind c.args.self.now.best) c.as_slice-integers.ensures.value) ∙ c.if-is_behind.false in
    past_values c.args.count (lists_of c.args.choices.now) c.args.self.now.gathered.items (reverse c.args.self.now.branches.items) c.args.self.now.best c.args.values c.args.self.now.steps.items
    before (subst (λ (v : List ℤ). MeetsEach v (lists_of c.args.choices.now)) c.as_slice-integers.ensures.value c.in-None.ensures)
    c.requires.values c.requires.at
