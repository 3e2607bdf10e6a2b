use Rattle.std.specs.Prelude.{All, IfNone}
use Rattle.difference_solver.specs.Bound.{Meets}
use Rattle.difference_solver.specs.Raising.{Raises}
use Rattle.difference_solver.proofs.Rising.{MeetsFirst}
use Rattle.difference_solver.proofs.lifting.pass_over.Given as goal

-- where no number was raised so far, the bounds so far are met
abbrev pub invariant-loop-index : goal.invariant-loop-index
invariant-loop-index l = record {
  raises : Raises (λ w. All (Meets w) l.bounds) l.fn.values.items l.values.items;
  met : IfNone l.last (MeetsFirst l.bounds l.index l.values.items);
}
