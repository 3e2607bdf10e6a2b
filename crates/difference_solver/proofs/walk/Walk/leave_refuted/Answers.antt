use Rattle.std.proofs.Common.{◌≡◌, ◌∷◌, List, true, length, reverse, ap, refl, sym, arith, ◌∙◌}
use Rattle.difference_solver.specs.Choices.{Case, lists_of}
use Rattle.difference_solver.specs.Lifting.{all_avoid}
use Rattle.difference_solver.specs.declared.choice.Step.{Step}
use Rattle.difference_solver.specs.declared.walk.Branch.{Branch}
use Rattle.difference_solver.proofs.Leading.{left_refuted, past_split, same_past, steps_refute}
use Rattle.difference_solver.proofs.Lowering.{split_refuted}
use Rattle.difference_solver.proofs.walk.Walk.leave_refuted.Goals as goal

pub returns-then-all_avoid-clause-next : goal.returns-then-all_avoid-clause-next
returns-then-all_avoid-clause-next c =
    let g : Case = c.args.self.now.gathered.items in
    let b : Branch = c.args.branch in
    let old : List Branch = c.args.self.now.branches.items in
    let steps : List Step = c.args.self.now.steps.items in
    let limit : c.len.result ≡ length c.args.self.now.gathered.items = omega (arith, c.args.self.now.gathered.ok.0) in
    let away : all_avoid c.args.branch.start c.len.result c.args.self.now.steps.items ≡ true =
    sym (c.all_avoid.ensures ∙ ap (λ (ss : List Step). all_avoid b.start c.len.result ss) c.as_slice.ensures.value) ∙ c.if-all_avoid.true in
    same_past c.args.count (lists_of c.args.choices.now) _ c.go_back.new.self.gathered.items old c.go_back.new.self.branches.items c.args.self.now.best c.go_back.new.self.best c.go_back.new.self.steps.items
    c.in_ok-go_back.ensures.gathered c.in_ok-go_back.ensures.branches c.in_ok-go_back.ensures.best
    (past_split c.cycle_refutes.ensures c.args.count (lists_of c.args.choices.now) g b (reverse old) c.args.self.now.best steps c.go_back.new.self.steps.items c.requires.none
    (split_refuted (lists_of c.args.choices.now) g b c.len.result _ steps c.go_back.new.self.steps.items c.requires.past.way.leads.0 limit refl away c.in_ok-go_back.ensures.steps
    (steps_refute c.args.count (lists_of c.args.choices.now) g (b ∷ reverse old) c.args.self.now.best steps c.requires.none c.requires.past))
    c.requires.past)

pub next-requires-clause-left : goal.next-requires-clause-left
next-requires-clause-left c =
    left_refuted c.args.count (lists_of c.args.choices.now) c.args.self.now.gathered.items c.args.branch (reverse c.args.self.now.branches.items) c.args.self.now.best
    c.args.self.now.steps.items c.append.new.self c.in_ok-append.ensures.items c.requires.past
