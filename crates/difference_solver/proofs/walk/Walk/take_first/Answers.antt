use Rattle.std.proofs.Common.{◌≡◌, ◌<◌, ◌++◌, List, length, take, reverse, ap, refl, arith, ◌∙◌}
use Rattle.std.proofs.lemmas.List.{length-map, take_all}
use Rattle.difference_solver.specs.Branches.{case_of}
use Rattle.difference_solver.specs.Choices.{Case, lists_of, cases_of}
use Rattle.difference_solver.specs.declared.walk.Branch.{Branch}
use Rattle.difference_solver.proofs.Leading.{at_first, pushed_at}
use Rattle.difference_solver.proofs.walk.Walk.take_first.Goals as goal

pub returns : goal.returns
returns c =
    let g : Case = c.args.self.now.gathered.items in
    let old : List Branch = c.args.self.now.branches.items in
    let branch : Branch = record { choice = c.args.choice; case = 0; start = c.len-start.result; steps = c.in_ok-steps.steps } in
    let within : c.args.choice < length (lists_of c.args.choices.now) =
    omega (arith, length-map c.args.choices.now cases_of, c.requires.choice) in
    let start : c.len-start.result ≡ length c.args.self.now.gathered.items = omega (arith, c.args.self.now.gathered.ok.0) in
    let whole : take c.len-start.result c.args.self.now.gathered.items ≡ c.args.self.now.gathered.items =
    take_all c.len-start.result c.args.self.now.gathered.items (omega (arith, start)) in
    pushed_at c.args.count (lists_of c.args.choices.now) c.enter.new.self.gathered.items old c.enter.new.self.branches.items branch c.args.self.now.best c.enter.new.self.best
    c.in_ok-enter.ensures.branches c.in_ok-enter.ensures.best
    (at_first c.args.count (lists_of c.args.choices.now) g c.enter.new.self.gathered.items branch (reverse old) c.args.self.now.best c.requires.in_range within c.requires.some refl start c.in_ok-steps.ensures
    (c.in_ok-enter.ensures.gathered ∙ ap (λ (x : Case). x ++ case_of (lists_of c.args.choices.now) branch) whole) c.requires.at)
