-- Numbers that are raised until they meet bounds.
use Rattle.std.specs.Prelude.{◌≡◌, ℕ, ℤ, pos, ◌+ℤ◌, ◌≤ℤ◌, ◌<◌, List, length}
use Rattle.difference_solver.specs.declared.bound.Bound.{Bound}
use Rattle.difference_solver.specs.declared.lifting.Raised.{Raised}
use Rattle.difference_solver.specs.declared.lifting.Raised.TheVariants.{Least, Cycle, Open}
use Rattle.difference_solver.specs.declared.lifting.Asked.{Asked}
use Rattle.difference_solver.specs.declared.lifting.Asked.TheVariants.{Nothing, More, TooFar as AskedTooFar}
use Rattle.difference_solver.specs.declared.lifting.Pass.{Pass}
use Rattle.difference_solver.specs.declared.lifting.Pass.TheVariants.{Met, Higher, TooFar}
use Rattle.difference_solver.specs.Bound.{number, Meets, IsSolution}

-- no unknown has more in v than in w
abbrev pub IsBelow : List ℤ → List ℤ → Type 0
IsBelow v w = (u : ℕ) → number v u ≤ℤ number w u

-- no number is below zero
abbrev pub IsNatural : List ℤ → Type 0
IsNatural w = (u : ℕ) → pos 0 ≤ℤ number w u

-- no solution without a number below zero has a smaller number at any unknown
abbrev pub IsLeastNatural : ℕ → List Bound → List ℤ → Type 0
IsLeastNatural count bounds v = (w : List ℤ) → IsSolution count bounds w → IsNatural w → IsBelow v w

-- there are numbers for both unknowns of the bound
pub record IsAmong (v : List ℤ) (b : Bound) : Type 0 where
  pub plus : b.plus < length v
  pub minus : b.minus < length v

-- what is asked of the unknown minus of a bound: nothing where the bound is met, else a larger number, as all that meet the
-- bound have
abbrev pub IsAsked : List ℤ → Bound → Asked → Type 0
IsAsked v b Nothing = Meets v b
IsAsked v b (More wanted) = number v b.plus ≡ (wanted +ℤ b.at_most)
IsAsked v b AskedTooFar = Unit {0}

-- as many numbers, with the same one for unknown 0; none has become larger than in numbers of which P is known
pub record Raises (P : List ℤ → Type 0) (old new : List ℤ) : Type 0 where
  pub one_each : length new ≡ length old
  pub first : number new 0 ≡ number old 0
  pub below : (w : List ℤ) → P w → IsBelow old w → IsBelow new w

-- a fact, where all bounds were met
abbrev pub IfMet : Pass → Type 0 → Type 0
IfMet Met P = P
IfMet (Higher unknown) P = Unit {0}
IfMet TooFar P = Unit {0}

-- a fact about the numbers of an answer that has them
abbrev pub IfRaised : Raised → (List ℤ → Type 0) → Type 0
IfRaised (Least values) P = P values.items
IfRaised (Cycle bounds) P = Unit {0}
IfRaised Open P = Unit {0}

-- a fact about the indices of an answer that is a cycle
abbrev pub IfCircle : Raised → (List ℕ → Type 0) → Type 0
IfCircle (Least values) P = Unit {0}
IfCircle (Cycle bounds) P = P bounds.items
IfCircle Open P = Unit {0}
