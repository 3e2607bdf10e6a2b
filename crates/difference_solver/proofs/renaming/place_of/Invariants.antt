use Rattle.std.proofs.Common.{◌≡◌, ◌+◌, drop}
use Rattle.difference_solver.specs.Renaming.{place_of}
use Rattle.difference_solver.proofs.renaming.place_of.Given as goal

abbrev pub invariant-loop-name : goal.invariant-loop-name
invariant-loop-name l =
    (place_of l.names l.unknown ≡ l.place + place_of (drop l.name-index l.names) l.unknown) × (l.place ≡ l.name-index)
