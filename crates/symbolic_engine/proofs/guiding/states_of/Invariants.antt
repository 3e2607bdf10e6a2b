use Rattle.std.proofs.Common.{◌≡◌, ◌++◌, map}
use Rattle.std.specs.List.{AllByRecursion}
use Rattle.std.specs.Vec.Iter.{into_iter_items}
use Rattle.symbolic_engine.specs.Origins.{IsRunOf}
use Rattle.symbolic_engine.proofs.guiding.states_of.Given as goal

-- the states so far, and those of the places that are left; the states so far are of runs from the start
abbrev pub invariant-loop-place : goal.invariant-loop-place
invariant-loop-place g l =
    record {
      all : l.states.items ++ map (λ place. place.run) (into_iter_items l.place-iterator) ≡ map (λ place. place.run) l.fn.places.items;
      own : AllByRecursion (IsRunOf g.B.Origin.start) l.states.items;
    }
