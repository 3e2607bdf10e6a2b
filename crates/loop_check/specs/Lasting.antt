-- The last visit of a port, and states that begin alike.
use Rattle.std.specs.Prelude.{◌≡◌, take, IfSome}
use Rattle.path_solver.specs.Bases.{IsBaseOf}
use Rattle.sym_state.specs.Symbolic.{Symbolic}
use Rattle.loop_meaning.specs.Visits.{values_of}
use Rattle.loop_check.specs.declared.last.Last.{Last}
use Rattle.loop_check.specs.Lists.{AreListsOf, terms_of}

-- the base is one of its condition, and its lists and values are of what it carries
pub record IsLast (x : Last) : Type 0 where
  pub base : IfSome x.base (IsBaseOf x.state.now.condition)
  pub lists : AreListsOf x.state.now.carried x.lists
  pub values : terms_of x.values.items ≡ values_of x.state.now.carried

-- the unknown fields of both are the same: as many, of the same widths
pub record AreOfOneStart (x y : Symbolic) : Type 0 where
  pub unknowns : x.unknowns ≡ y.unknowns
  pub fields : take x.unknowns x.condition.widths ≡ take y.unknowns y.condition.widths
