use Rattle.std.proofs.Common.{◌≡◌, ◌++◌, drop}
use Rattle.net_check.specs.Network.{unknown_widths}
use Rattle.sym_state.proofs.beginning.widths_of.Given as goal

-- the widths so far, and those of the fields that are left, are all
abbrev pub invariant-loop-field : goal.invariant-loop-field
invariant-loop-field l = l.widths.items ++ unknown_widths (drop l.field-index l.fields) ≡ unknown_widths l.fields
