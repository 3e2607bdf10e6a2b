use Rattle.std.proofs.Common.{◌≡◌, ◌++◌}
use Rattle.std.specs.List.{flat_map}
use Rattle.header_layers.specs.Layout.{tag_pairs}
use Rattle.header_layers.proofs.layers.Layers.tags.Given as goal

abbrev pub invariant-loop-tag : goal.invariant-loop-tag
invariant-loop-tag g l = l.listed.items ++ flat_map tag_pairs l.tag-iterator ≡ flat_map tag_pairs l.self.tags
