use Rattle.std.proofs.Common.{◌≡◌, drop, map}
use Rattle.serde_json.specs.View.{items_view, members_view}
use Rattle.report_shape.specs.Held.{field_of, parts_of}
use Rattle.report_shape.specs.Faults.{items_fault, members_fault}
use Rattle.report_shape.proofs.fault.+fault.Given as goal

-- what is left has the fault of the whole
abbrev pub invariant-items_fault-loop-item : goal.invariant-items_fault-loop-item
invariant-items_fault-loop-item g l = record {
  counted : l.number ≡ l.item-index;
  rest : items_fault (g.N.Names.knows l.names) (parts_of l.parts) 0 (items_view l.item-items) ≡ items_fault (g.N.Names.knows l.names) (parts_of l.parts) l.number (items_view (drop l.item-index l.item-items));
}

abbrev pub invariant-members_fault-loop-key : goal.invariant-members_fault-loop-key
invariant-members_fault-loop-key g l =
    members_fault (g.N.Names.knows l.names) (map field_of l.fields) (members_view l.initial.key-iterator) ≡ members_fault (g.N.Names.knows l.names) (map field_of l.fields) (members_view l.key-iterator)
