use Rattle.std.proofs.Common.{◌<◌, length, reverse, arith}
use Rattle.std.proofs.lemmas.List.{length-map, nil_from_length}
use Rattle.difference_solver.specs.Choices.{lists_of, cases_of, cases_at}
use Rattle.difference_solver.proofs.Leading.{past_empty}
use Rattle.difference_solver.proofs.walk.Walk.refute_empty.Goals as goal

pub returns : goal.returns
returns c =
    let within : c.args.choice < length (lists_of c.args.choices.now) =
    omega (arith, length-map c.args.choices.now cases_of, c.requires.choice) in
    past_empty c.args.count (lists_of c.args.choices.now) c.args.self.now.gathered.items (reverse c.args.self.now.branches.items) c.args.self.now.best c.args.choice c.in_ok-steps.steps.items
    within (nil_from_length (cases_at (lists_of c.args.choices.now) c.args.choice) c.requires.none) c.in_ok-steps.ensures c.requires.at
