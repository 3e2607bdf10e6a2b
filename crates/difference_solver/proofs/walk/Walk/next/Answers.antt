use Rattle.std.proofs.Common.{◌+◌, ◌≤◌, ◌<◌, List, length, reverse, ap, refl, sym, subst, arith}
use Rattle.std.specs.Prelude.{vec_len}
use Rattle.std.proofs.lemmas.List.{length-map}
use Rattle.difference_solver.specs.Choices.{Case, lists_of, cases_of, cases_at}
use Rattle.difference_solver.specs.Progress.{IsPast}
use Rattle.difference_solver.specs.declared.choice.Choice.{Choice}
use Rattle.difference_solver.specs.declared.walk.Branch.{Branch}
use Rattle.difference_solver.proofs.Leading.{at_next, past_last, pushed_at}
use Rattle.difference_solver.proofs.Solving.{cases_there-length}
use Rattle.difference_solver.proofs.walk.Walk.next.Goals as goal

pub overflow_add-case : goal.overflow_add-case
overflow_add-case c =
    let lt : c.args.branch.choice < length c.args.choices.now =
    omega (arith, length-map c.args.choices.now cases_of, c.requires.left.leads.0.choice) in
    let there = cases_there-length c.args.choices.now c.args.branch.choice c.index-choices-choice.result lt c.index-choices-choice.is in
    let seen = ap (λ (x : Choice). vec_len x.cases) c.index-choices-choice.is in
    omega (arith, there, seen, c.index-choices-choice.result.cases.ok.0, c.requires.left.leads.0.case, c.len-cases.type_inv)

pub returns-then-case-cases-clause-next : goal.returns-then-case-cases-clause-next
returns-then-case-cases-clause-next c =
    let b : Branch = c.args.branch in
    let old : List Branch = c.args.self.now.branches.items in
    let next : Branch = record { choice = b.choice; case = b.case + 1; start = b.start; steps = b.steps } in
    let lt : c.args.branch.choice < length c.args.choices.now =
    omega (arith, length-map c.args.choices.now cases_of, c.requires.left.leads.0.choice) in
    let there = cases_there-length c.args.choices.now c.args.branch.choice c.index-choices-choice.result lt c.index-choices-choice.is in
    let seen = ap (λ (x : Choice). vec_len x.cases) c.index-choices-choice.is in
    let within : c.args.branch.case + 1 < length (cases_at (lists_of c.args.choices.now) c.args.branch.choice) =
    omega (arith, there, seen, c.index-choices-choice.result.cases.ok.0, c.if-case-cases.true) in
    pushed_at c.args.count (lists_of c.args.choices.now) c.enter.new.self.gathered.items old c.enter.new.self.branches.items next c.args.self.now.best c.enter.new.self.best
    c.in_ok-enter.ensures.branches c.in_ok-enter.ensures.best
    (at_next c.args.count (lists_of c.args.choices.now) c.args.self.now.gathered.items c.enter.new.self.gathered.items b (reverse old) c.args.self.now.best (b.case + 1) c.requires.in_range refl within
    c.in_ok-enter.ensures.gathered c.requires.left)

pub returns-clause-next : goal.returns-clause-next
returns-clause-next c =
    let lt : c.args.branch.choice < length c.args.choices.now =
    omega (arith, length-map c.args.choices.now cases_of, c.requires.left.leads.0.choice) in
    let there = cases_there-length c.args.choices.now c.args.branch.choice c.index-choices-choice.result lt c.index-choices-choice.is in
    let seen = ap (λ (x : Choice). vec_len x.cases) c.index-choices-choice.is in
    let le : length (cases_at (lists_of c.args.choices.now) c.args.branch.choice) ≤ c.args.branch.case + 1 =
    omega (arith, there, seen, c.index-choices-choice.result.cases.ok.0, c.if-case-cases.false) in
    subst (λ (x : Case). IsPast c.args.count (lists_of c.args.choices.now) x (reverse c.args.self.now.branches.items) c.args.self.now.best c.args.branch.steps.items) (sym c.truncate.ensures.items)
    (past_last c.args.count (lists_of c.args.choices.now) c.args.self.now.gathered.items c.args.branch (reverse c.args.self.now.branches.items) c.args.self.now.best le c.requires.left)
