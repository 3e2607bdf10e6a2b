use Rattle.std.proofs.Common.{◌≡◌, drop, map}
use Rattle.serde_json.specs.View.{members_view}
use Rattle.report_shape.specs.Held.{fields_of}
use Rattle.report_shape.specs.Faults.{with_keys}
use Rattle.report_shape.proofs.pick.with_keys.Given as goal

abbrev pub invariant-loop-fields : goal.invariant-loop-fields
invariant-loop-fields l = with_keys (map fields_of l.lists) (members_view l.members.entries) ≡ with_keys (map fields_of (drop l.fields-index l.lists)) (members_view l.members.entries)
