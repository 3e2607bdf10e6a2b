use Rattle.std.proofs.Common.{rules, ◌≡◌, ◌<◌, ◌^◌, true}
use Rattle.record_lines.proofs.lines.record_obligation.Goals as goal

pub returns-in-Ok : goal.returns-in-Ok
returns-in-Ok g c =
    let known : c.is_in_range.result ≡ true = search rules in
    let few : c.in-Some.refuted < 2 ^ 64 = search rules in
    (c.is_in_range.ensures known, few, c.in-Some.ensures, c.in-Ok.ensures)
