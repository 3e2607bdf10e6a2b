use Rattle.std.proofs.Common.{◌≡◌, ◌+◌, ◌-◌, ◌<◌, arith, get_or, length, rules, sym}
use Rattle.whole_checks.proofs.Settled.{stop_there}
use Rattle.whole_checks.proofs.settling.stop_at.Goals as goal

pub returns : goal.returns
returns g c =
    let xs = c.args.trail.now.steps.items in
    let place = c.args.place in
    let step = c.index.result.now in
    let some = c.if-place-eq0.false in
    let within = c.requires in
    let more : place ≡ (place - 1) + 1 = omega (arith, some) in
    let less : place - 1 < length xs = omega (arith, some, within) in
    let at : step ≡ get_or xs (place - 1) step = search rules in
    sym (stop_there c.args.trail.now.first xs (place - 1) place step more less at)
