use Rattle.std.proofs.Common.{◌≡◌, ◌≤◌, drop, map, length}
use Rattle.serde_json.specs.View.{members_view}
use Rattle.report_shape.specs.Held.{field_of}
use Rattle.report_shape.specs.Faults.{keys_are}
use Rattle.report_shape.proofs.pick.keys_are.Given as goal

abbrev pub invariant-loop-key : goal.invariant-loop-key
invariant-loop-key l = record {
  within : l.number ≤ length l.fields;
  rest : keys_are (map field_of l.fields) (members_view l.initial.key-iterator) ≡ keys_are (map field_of (drop l.number l.fields)) (members_view l.key-iterator);
}
