use Rattle.std.proofs.Common.{◌≡◌, ◌++◌, drop}
use Rattle.difference_solver.specs.Choices.{lists_of}
use Rattle.difference_solver.specs.Parts.{has_label, part_of, places_of}
use Rattle.difference_solver.specs.Renaming.{renamed_choices}
use Rattle.difference_solver.proofs.parts.Part.of.Given as goal

abbrev pub invariant-loop-index : goal.invariant-loop-index
invariant-loop-index l =
    (lists_of l.part.choices.items ++ renamed_choices l.names (part_of (has_label l.labels l.label) (lists_of (drop l.index l.choices)))
    ≡ renamed_choices l.names (part_of (has_label l.labels l.label) (lists_of l.choices)))
    × (l.part.places.items ++ places_of (has_label l.labels l.label) l.index (lists_of (drop l.index l.choices))
    ≡ places_of (has_label l.labels l.label) 0 (lists_of l.choices))
