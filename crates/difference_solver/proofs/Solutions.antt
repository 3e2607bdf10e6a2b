-- What the table says of the numbers that meet the bounds.
use Rattle.std.proofs.Common.{◌≡◌, ◌≢◌, ℕ, zero, suc, ◌+◌, ◌≤◌, ◌<◌, ◌⊎◌, inl, inr, max, ℤ, pos, ◌+ℤ◌, ◌≤ℤ◌, List, [], ◌∷◌, length, get_or, Option, Some, refl, ap, sym, subst, ◌∙◌, arith}
use Rattle.std.specs.Prelude.{slice_get, All, FitsSigned}
use Rattle.std.specs.Int.{w128}
use Rattle.std.proofs.lemmas.Bool.{cases_lt}
use Rattle.std.proofs.lemmas.Int.{ints}
use Rattle.std.proofs.lemmas.Option.{slice_get_within, slice_get-get_or, get_or_from_slice_get}
use Rattle.difference_solver.specs.Table.{entry}
use Rattle.difference_solver.specs.Kept.{lesser}
use Rattle.difference_solver.specs.Bound.{number, Meets, IsInRange, IsSolution, IsUnsolvable, HasLowerBounds, IsLeast}
use Rattle.difference_solver.specs.Cycle.{IsWalk, total, at_most_of, IsNegativeCycle}
use Rattle.difference_solver.specs.Elimination.{AtMost, Implies, IsGiven, IsSum, IsFrom, HasSources, KeepsImplied}
use Rattle.difference_solver.specs.Given.{IsBelowItself, KeepsFirst}
use Rattle.difference_solver.specs.Values.{AreValues}
use Rattle.difference_solver.specs.declared.bound.Bound.{Bound}
use Rattle.difference_solver.specs.declared.table.Table.{Table}
use Rattle.difference_solver.specs.declared.table.Kept.{Kept}
use Rattle.difference_solver.specs.declared.table.Source.{Source}
use Rattle.difference_solver.specs.declared.table.Source.TheVariants.{Given, Sum}
use Rattle.difference_solver.proofs.Steps.{AtMost-some, lesser-kept, lesser-new, lesser-is, one_or_two}

pub all_at : {X : Type 0} (P : X → Type 0) (xs : List X) (i : ℕ) (x : X) → All P xs → slice_get xs i ≡ Some x → P x
all_at P xs i x h at = subst P (get_or_from_slice_get xs i x x at) (h i x (slice_get_within xs i x at))

pub all_from : {X : Type 0} (P : X → Type 0) (xs : List X) → ((i : ℕ) (x : X) → slice_get xs i ≡ Some x → P x) → All P xs
all_from P xs h = λ k d lt. h k (get_or xs k d) (slice_get-get_or xs k d lt)

-- ---- a cycle

walk_met : (bounds : List Bound) (v : List ℤ) (plus minus : ℕ) (indices : List ℕ) → All (Meets v) bounds → IsWalk bounds plus indices minus → number v plus ≤ℤ (number v minus +ℤ total bounds indices)
walk_met bounds v plus minus [] met w =
    let e : number v plus ≡ number v minus = ap (number v) w in omega (arith, ints)
walk_met bounds v plus minus (i ∷ indices) met (b, at, start, w) =
    let rest = walk_met bounds v b.minus minus indices met w in
    let here = all_at (Meets v) bounds i b met at in
    let first = ap at_most_of at in
    let e : number v b.plus ≡ number v plus = ap (number v) start in
    omega (arith, ints, rest, here, first, e)

pub cycle_refutes : (bounds : List Bound) (indices : List ℕ) (v : List ℤ) → IsNegativeCycle bounds indices → All (Meets v) bounds → ⊥
cycle_refutes bounds indices v c met =
    let around = walk_met bounds v c.start c.start indices met c.closed in
    omega (arith, ints, around, c.negative)

pub below_itself : (bounds : List Bound) (index : ℕ) → IsBelowItself bounds index → IsNegativeCycle bounds (index ∷ [])
below_itself bounds index h =
    let e = ap at_most_of h.at in
    record {
      start = h.bound.plus;
      closed = (h.bound, h.at, refl, sym h.same);
      negative = omega (arith, ints, e, h.negative);
    }

-- ---- what a table says holds of all numbers that meet the bounds

from_cases : (bounds : List Bound) (t : Table) (i j : ℕ) (c : ℤ) (f : Source) → IsFrom bounds t 0 i j c f → ((index : ℕ) × IsGiven bounds index i j c) ⊎ ((v : ℕ) × IsSum t 0 v i j c)
from_cases bounds t i j c (Given index) h = inl (index, h)
from_cases bounds t i j c (Sum v) h = inr (v, h)

given_met : (bounds : List Bound) (y : List ℤ) (index i j : ℕ) (c : ℤ) → All (Meets y) bounds → IsGiven bounds index i j c → number y i ≤ℤ (number y j +ℤ c)
given_met bounds y index i j c met g =
    let here = all_at (Meets y) bounds index g.bound met g.at in
    let p : number y g.bound.plus ≡ number y i = ap (number y) g.plus in
    let q : number y g.bound.minus ≡ number y j = ap (number y) g.minus in
    omega (arith, ints, here, p, q, g.at_most)

table_met : (bounds : List Bound) (t : Table) (y : List ℤ) → HasSources bounds 0 t → All (Meets y) bounds → (d i j : ℕ) (x : Kept) → t.count < d + max i j → entry t i j ≡ Some x → number y i ≤ℤ (number y j +ℤ x.at_most)
table_met bounds t y sources met zero i j x deep at =
    elim (from_cases bounds t i j x.at_most x.source (sources i j x at)) [
      | inl (index, g) ↦ given_met bounds y index i j x.at_most met g
      | inr (v, s) ↦ absurd (omega (arith, s.within, s.plus, s.minus))
    ]
table_met bounds t y sources met (suc d) i j x deep at =
    elim (from_cases bounds t i j x.at_most x.source (sources i j x at)) [
      | inl (index, g) ↦ given_met bounds y index i j x.at_most met g
      | inr (v, s) ↦
          let upper = table_met bounds t y sources met d i v s.upper (omega (arith, s.plus, s.minus)) s.upper_at in
          let lower = table_met bounds t y sources met d v j s.lower (omega (arith, s.plus, s.minus)) s.lower_at in
          omega (arith, ints, upper, lower, s.total)
    ]

pub table_holds : (bounds : List Bound) (t : Table) (y : List ℤ) (i j : ℕ) (x : Kept) → HasSources bounds 0 t → All (Meets y) bounds → entry t i j ≡ Some x → number y i ≤ℤ (number y j +ℤ x.at_most)
table_holds bounds t y i j x sources met at = table_met bounds t y sources met (t.count + 1) i j x (omega arith) at

-- ---- the numbers that were found meet all bounds, and are the least

implied_met : (t : Table) (v : List ℤ) (b : Bound) → AreValues t v → b.plus < length v → b.minus < length v → Implies t b.plus b.minus b.at_most → Meets v b
implied_met t v b values plus minus h =
    elim (one_or_two b.plus b.minus) [
      | inl e ↦
          let low = h.self e in
          let same : number v b.plus ≡ number v b.minus = ap (number v) e in
          omega (arith, ints, low, same)
      | inr ne ↦
          let (x, at, le) = AtMost-some (entry t b.plus b.minus) b.at_most (h.apart ne) in
          let met = values.met b.plus b.minus x plus minus ne at in
          omega (arith, ints, le, met)
    ]

pub is_solution : (count : ℕ) (bounds : List Bound) (t : Table) (v : List ℤ) → length v ≡ count + 1 → All (IsInRange count) bounds → ((m : ℕ) (b : Bound) → slice_get bounds m ≡ Some b → Implies t b.plus b.minus b.at_most) → AreValues t v → IsSolution count bounds v
is_solution count bounds t v len in_range implied values = record {
  one_each = len;
  first = values.first (omega arith);
  met = all_from (Meets v) bounds
      (λ m b at.
      let r = all_at (IsInRange count) bounds m b in_range at in
      implied_met t v b values (omega (arith, r.plus)) (omega (arith, r.minus)) (implied m b at));
}

least_below : (count : ℕ) (bounds : List Bound) (t : Table) (v w : List ℤ) → length v ≡ count + 1 → ((m : ℕ) (b : Bound) → slice_get bounds m ≡ Some b → Implies t b.plus b.minus b.at_most) → HasSources bounds 0 t → AreValues t v → HasLowerBounds count bounds → IsSolution count bounds w → (d u : ℕ) → u < d → u ≤ count → number v u ≤ℤ number w u
least_below count bounds t v w len implied sources values low other zero u below within = absurd (omega arith)
least_below count bounds t v w len implied sources values low other (suc d) u below within =
    elim (cases_lt 0 u) [
      | inl above ↦
          let (b, (m, m_in, b_is), plus, minus) = low u above within in
          let at : slice_get bounds m ≡ Some b = slice_get-get_or bounds m b m_in ∙ ap (λ (b : Bound). Some b) b_is in
          let h : Implies t 0 u b.at_most =
          subst (λ (i : ℕ). Implies t i u b.at_most) plus (subst (λ (j : ℕ). Implies t b.plus j b.at_most) minus (implied m b at)) in
          let (x, x_at, le) = AtMost-some (entry t 0 u) b.at_most (h.apart (λ e. omega arith)) in
          let r = values.reached u 0 x (omega arith) above x_at in
          let before = least_below count bounds t v w len implied sources values low other d r.unknown (omega (arith, r.below)) (omega (arith, r.below)) in
          let held = table_holds bounds t w r.unknown u r.kept sources other.met r.at in
          omega (arith, ints, r.is, before, held)
      | inr none ↦
          let e : 0 ≡ u = omega arith in
          let first = values.first (omega arith) in
          let first' = other.first in
          subst (λ (u : ℕ). number v u ≤ℤ number w u) e (omega (arith, ints, first, first'))
    ]

pub is_least : (count : ℕ) (bounds : List Bound) (t : Table) (v : List ℤ) → length v ≡ count + 1 → ((m : ℕ) (b : Bound) → slice_get bounds m ≡ Some b → Implies t b.plus b.minus b.at_most) → HasSources bounds 0 t → AreValues t v → HasLowerBounds count bounds → IsLeast count bounds v
is_least count bounds t v len implied sources values low w other u within =
    least_below count bounds t v w len implied sources values low other (u + 1) u (omega arith) within

-- ---- the bounds that were given, put into a table

pub keeps_skip : (bounds : List Bound) (n : ℕ) (t : Table) (b : Bound) → slice_get bounds n ≡ Some b → b.plus ≡ b.minus → pos 0 ≤ℤ b.at_most → KeepsFirst bounds n t → KeepsFirst bounds (n + 1) t
keeps_skip bounds n t b at same low h = record {
  sources = h.sources;
  limit = h.limit;
  implied = λ m a lt a_at.
      elim (cases_lt m n) [
        | inl below ↦ h.implied m a below a_at
        | inr high ↦
            let e : m ≡ n = omega arith in
            let one : Some b ≡ Some a = sym at ∙ subst (λ (m : ℕ). slice_get bounds m ≡ Some a) e a_at in
            let is : b ≡ a = cc in
            subst (λ (b : Bound). Implies t b.plus b.minus b.at_most) is
            record { apart = λ ne. absurd (ne same); self = λ e. low }
      ];
}

-- one entry of the table became the lesser of itself and a new bound
pub record Changes (old new : Table) (plus minus : ℕ) (y : Kept) : Type 0 where
  pub changed : entry new plus minus ≡ lesser (entry old plus minus) y
  pub same : (p q : ℕ) → (p ≡ plus → q ≢ minus) → entry new p q ≡ entry old p q
  pub count : new.count ≡ old.count

here_or : (p q plus minus : ℕ) → ((p ≡ plus) × (q ≡ minus)) ⊎ (p ≡ plus → q ≢ minus)
here_or p q plus minus =
    elim (one_or_two p plus) [
      | inl e ↦ elim (one_or_two q minus) [ inl f ↦ inl (e, f) | inr ne ↦ inr (λ _. ne) ]
      | inr ne ↦ inr (λ e. absurd (ne e))
    ]

-- a bound of the new table was one of the old table, or is the new bound
changed_is : (old new : Table) (plus minus : ℕ) (y : Kept) → Changes old new plus minus y → (p q : ℕ) (x : Kept) → entry new p q ≡ Some x → (entry old p q ≡ Some x) ⊎ ((p ≡ plus) × (q ≡ minus) × (y ≡ x))
changed_is old new plus minus y s p q x at =
    elim (here_or p q plus minus) [
      | inl (e, f) ↦
          let at' : entry new plus minus ≡ Some x = subst (λ (q : ℕ). entry new plus q ≡ Some x) f (subst (λ (p : ℕ). entry new p q ≡ Some x) e at) in
          elim (lesser-is (entry old plus minus) y x (sym s.changed ∙ at')) [
            | inl same ↦ inl (subst (λ (p : ℕ). entry old p q ≡ Some x) (sym e) (subst (λ (q : ℕ). entry old plus q ≡ Some x) (sym f) same))
            | inr is ↦ inr (e, f, is)
          ]
      | inr out ↦ inl (sym (s.same p q out) ∙ at)
    ]

changed_implies : (old new : Table) (plus minus : ℕ) (y : Kept) → Changes old new plus minus y → KeepsImplied old new
changed_implies old new plus minus y s i j c h = record {
  apart = λ ne.
      elim (here_or i j plus minus) [
        | inl (e, f) ↦
            let old_at : AtMost (entry old plus minus) c =
            subst (λ (q : ℕ). AtMost (entry old plus q) c) f (subst (λ (p : ℕ). AtMost (entry old p j) c) e (h.apart ne)) in
            subst (λ (p : ℕ). AtMost (entry new p j) c) (sym e) (subst (λ (q : ℕ). AtMost (entry new plus q) c) (sym f)
            (subst (λ (o : Option Kept). AtMost o c) (sym s.changed) (lesser-kept (entry old plus minus) y c old_at)))
        | inr out ↦ subst (λ (o : Option Kept). AtMost o c) (sym (s.same i j out)) (h.apart ne)
      ];
  self = h.self;
}

given_older : (bounds : List Bound) (old new : Table) (plus minus : ℕ) (y : Kept) → Changes old new plus minus y → (i j : ℕ) (c : ℤ) (f : Source) → IsFrom bounds old old.count i j c f → IsFrom bounds new new.count i j c f
given_older bounds old new plus minus y s i j c (Given index) h = h
given_older bounds old new plus minus y s i j c (Sum v) h = absurd (omega (arith, h.above, h.within))

pub keeps_more : (bounds : List Bound) (n : ℕ) (old new : Table) (b : Bound) → slice_get bounds n ≡ Some b → IsInRange old.count b → b.plus ≢ b.minus → Changes old new b.plus b.minus record { at_most = b.at_most; source = Given n } → KeepsFirst bounds n old → KeepsFirst bounds (n + 1) new
keeps_more bounds n old new b at in_range ne s h =
    let y : Kept = record { at_most = b.at_most; source = Given n } in
    record {
      sources = λ i j x x_at.
          elim (changed_is old new b.plus b.minus y s i j x x_at) [
            | inl same ↦ given_older bounds old new b.plus b.minus y s i j x.at_most x.source (h.sources i j x same)
            | inr (e, f, is) ↦
                subst (λ (x : Kept). IsFrom bounds new new.count i j x.at_most x.source) is
                record { bound = b; at = at; plus = sym e; minus = sym f; at_most = refl }
          ];
      limit = λ p q x x_at.
          elim (changed_is old new b.plus b.minus y s p q x x_at) [
            | inl same ↦ h.limit p q x same
            | inr (e, f, is) ↦
                let c : b.at_most ≡ x.at_most = ap (λ (x : Kept). x.at_most) is in
                (omega (arith, ints, c, in_range.at_least), omega (arith, ints, c, in_range.at_most))
          ];
      implied = λ m a lt a_at.
          elim (cases_lt m n) [
            | inl below ↦ changed_implies old new b.plus b.minus y s a.plus a.minus a.at_most (h.implied m a below a_at)
            | inr high ↦
                let e : m ≡ n = omega arith in
                let one : Some b ≡ Some a = sym at ∙ subst (λ (m : ℕ). slice_get bounds m ≡ Some a) e a_at in
                let is : b ≡ a = cc in
                subst (λ (b : Bound). Implies new b.plus b.minus b.at_most) is
                record {
                  apart = λ _. subst (λ (o : Option Kept). AtMost o b.at_most) (sym s.changed) (lesser-new (entry old b.plus b.minus) y b.at_most (omega (arith, ints)));
                  self = λ e. absurd (ne e);
                }
          ];
    }

pub fits_in_range : (count : ℕ) (b : Bound) → IsInRange count b → FitsSigned w128 b.at_most
fits_in_range count b h = omega (arith, ints, h.at_least, h.at_most)

-- ---- the answers of the solver

pub cycle_unsolvable : (count : ℕ) (bounds : List Bound) (indices : List ℕ) → IsNegativeCycle bounds indices → IsUnsolvable count bounds
cycle_unsolvable count bounds indices c v len met = cycle_refutes bounds indices v c met

-- each bound that was given is implied by the table after elimination too
pub implied_after : (bounds : List Bound) (old new : Table) → KeepsFirst bounds (length bounds) old → KeepsImplied old new → (m : ℕ) (b : Bound) → slice_get bounds m ≡ Some b → Implies new b.plus b.minus b.at_most
implied_after bounds old new h kept m b at = kept b.plus b.minus b.at_most (h.implied m b (slice_get_within bounds m b at) at)

pub solution_found : (count : ℕ) (bounds : List Bound) (old new : Table) (v : List ℤ) → length v ≡ count + 1 → All (IsInRange count) bounds → KeepsFirst bounds (length bounds) old → KeepsImplied old new → AreValues new v → IsSolution count bounds v
solution_found count bounds old new v len in_range h kept values =
    is_solution count bounds new v len in_range (implied_after bounds old new h kept) values

pub least_found : (count : ℕ) (bounds : List Bound) (old new : Table) (v : List ℤ) → length v ≡ count + 1 → KeepsFirst bounds (length bounds) old → KeepsImplied old new → HasSources bounds 0 new → AreValues new v → HasLowerBounds count bounds → IsLeast count bounds v
least_found count bounds old new v len h kept sources values low =
    is_least count bounds new v len (implied_after bounds old new h kept) sources values low
