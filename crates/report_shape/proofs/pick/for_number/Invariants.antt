use Rattle.std.proofs.Common.{◌≡◌, drop, map}
use Rattle.serde_json.specs.View.{members_view}
use Rattle.report_shape.specs.Held.{number_of}
use Rattle.report_shape.specs.Faults.{for_number}
use Rattle.report_shape.proofs.pick.for_number.Given as goal

abbrev pub invariant-loop-least : goal.invariant-loop-least
invariant-loop-least l = for_number l.key (map number_of l.forms) l.number (members_view l.members.entries) ≡ for_number l.key (map number_of (drop l.least-index l.forms)) l.number (members_view l.members.entries)
