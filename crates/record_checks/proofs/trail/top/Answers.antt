use Rattle.std.proofs.Common.{◌≡◌, ◌<◌, ◌-◌, get_or, length, sym, rules}
use Rattle.record_checks.proofs.Leading.{last_at}
use Rattle.record_checks.proofs.trail.top.Goals as goal

pub returns-in-Some : goal.returns-in-Some
returns-in-Some g c =
    let xs = c.args.trail.now.steps.items in
    let step = c.in-Some.step.now in
    let some : 0 < length xs = search rules in
    let at : get_or xs (length xs - 1) step ≡ step = search rules in
    sym (last_at c.args.trail.now.first xs step some at)
