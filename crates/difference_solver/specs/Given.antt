use Rattle.std.specs.Prelude.{◌≡◌, ℕ, pos, ◌<ℤ◌, ◌^◌, ◌<◌, List, Some, slice_get}
use Rattle.difference_solver.specs.declared.bound.Bound.{Bound}
use Rattle.difference_solver.specs.declared.table.Table.{Table}
use Rattle.difference_solver.specs.Elimination.{Implies, HasLimit, HasSources}

-- the bound at this index says that an unknown less itself is below zero
pub record IsBelowItself (bounds : List Bound) (index : ℕ) : Type 0 where
  pub bound : Bound
  pub at : slice_get bounds index ≡ Some bound
  pub same : bound.plus ≡ bound.minus
  pub negative : bound.at_most <ℤ pos 0

-- the table keeps given bounds alone, and implies the first n of them
pub record KeepsFirst (bounds : List Bound) (n : ℕ) (t : Table) : Type 0 where
  pub sources : HasSources bounds t.count t
  pub limit : HasLimit (2 ^ 66) t
  pub implied : (m : ℕ) (b : Bound) → m < n → slice_get bounds m ≡ Some b → Implies t b.plus b.minus b.at_most
