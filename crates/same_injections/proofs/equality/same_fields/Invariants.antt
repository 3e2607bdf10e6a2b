use Rattle.std.proofs.Common.{◌≡◌, drop}
use Rattle.same_injections.specs.SameTests.{SameFields}
use Rattle.same_injections.proofs.equality.same_fields.Given as goal

-- the lists are the same where what is left of them is, and the other way
abbrev pub invariant-loop-field : goal.invariant-loop-field
invariant-loop-field l = record {
  at : l.at ≡ l.field-index;
  all : SameFields (drop l.field-index l.field-items) (drop l.field-index l.others.items) → SameFields l.field-items l.others.items;
  rest : SameFields l.field-items l.others.items → SameFields (drop l.field-index l.field-items) (drop l.field-index l.others.items);
}
