use Rattle.std.proofs.Common.{◌≡◌, ◌++◌, map}
use Rattle.header_layers.specs.Layout.{tag_pair}
use Rattle.header_layers.proofs.layers.tag_entries.Given as goal

abbrev pub invariant-loop-address : goal.invariant-loop-address
invariant-loop-address l = l.entries.items ++ map (tag_pair l.tag) l.address-iterator ≡ map (tag_pair l.tag) l.addresses
