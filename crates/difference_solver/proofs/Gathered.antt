-- Sums are replaced by the bounds that they are sums of, until only given bounds are left.
use Rattle.std.proofs.Common.{◌≡◌, ℕ, zero, suc, ◌+◌, ◌-◌, ◌≤◌, ◌<◌, max, ℤ, pos, ◌+ℤ◌, ◌<ℤ◌, List, [], ◌∷◌, ◌++◌, length, Option, Some, inl, inr, refl, ap, sym, subst, ◌∙◌, arith}
use Rattle.std.specs.Prelude.{slice_get, IfSome}
use Rattle.std.proofs.lemmas.Bool.{cases_lt}
use Rattle.std.proofs.lemmas.Int.{ints}
use Rattle.difference_solver.specs.Table.{entry}
use Rattle.difference_solver.specs.Cycle.{IsWalk, total, at_most_of, IsNegativeCycle}
use Rattle.difference_solver.specs.Elimination.{IsGiven, IsSum, IsFrom, HasSources, HasSums}
use Rattle.difference_solver.specs.Gather.{kept_at_most, IsKept, Joins, pairs_total, steps_of, steps_left}
use Rattle.difference_solver.specs.declared.bound.Bound.{Bound}
use Rattle.difference_solver.specs.declared.table.Table.{Table}
use Rattle.difference_solver.specs.declared.table.Kept.{Kept}
use Rattle.difference_solver.specs.declared.table.Source.{Source}
use Rattle.difference_solver.specs.declared.table.Source.TheVariants.{Given, Sum}
use Rattle.difference_solver.specs.declared.gather.Pair.{Pair}

pub walk_push : (bounds : List Bound) (u : ℕ) (indices : List ℕ) (at i : ℕ) (b : Bound) → IsWalk bounds u indices at → slice_get bounds i ≡ Some b → b.plus ≡ at → IsWalk bounds u (indices ++ i ∷ []) b.minus
walk_push bounds u [] at i b w is plus = (b, is, plus ∙ sym w, refl)
walk_push bounds u (j ∷ indices) at i b (first, first_is, first_plus, w) is plus =
    (first, first_is, first_plus, walk_push bounds first.minus indices at i b w is plus)

pub total_push : (bounds : List Bound) (indices : List ℕ) (i : ℕ) (b : Bound) → slice_get bounds i ≡ Some b → total bounds (indices ++ i ∷ []) ≡ total bounds indices +ℤ b.at_most
total_push bounds [] i b is =
    let e = ap at_most_of is in omega (arith, ints, e)
total_push bounds (j ∷ indices) i b is =
    let rest = total_push bounds indices i b is in omega (arith, ints, rest)

pub joins_push : (t : Table) (pairs : List Pair) (p : Pair) (e : ℕ) → Joins t pairs p.minus e → IsKept t p → Joins t (pairs ++ p ∷ []) p.plus e
joins_push t [] p e j k = (k, j, refl)
joins_push t (x ∷ pairs) p e j k = (j.0, j.1, joins_push t pairs p x.plus j.2 k)

pub joins_last : (t : Table) (pairs : List Pair) (p : Pair) (at e : ℕ) → Joins t (pairs ++ p ∷ []) at e → IsKept t p × (p.plus ≡ at) × Joins t pairs p.minus e
joins_last t [] p at e j = (j.0, sym j.2, j.1)
joins_last t (x ∷ pairs) p at e j =
    let rest = joins_last t pairs p at x.plus j.2 in (rest.0, rest.1, (j.0, j.1, rest.2))

pub pairs_total_push : (t : Table) (pairs : List Pair) (p : Pair) (k : Kept) → entry t p.plus p.minus ≡ Some k → pairs_total t (pairs ++ p ∷ []) ≡ pairs_total t pairs +ℤ k.at_most
pairs_total_push t [] p k is = let e = ap kept_at_most is in omega (arith, ints, e)
pairs_total_push t (x ∷ pairs) p k is = let rest = pairs_total_push t pairs p k is in omega (arith, ints, rest)

pub steps_left_push : (count : ℕ) (pairs : List Pair) (p : Pair) → steps_left count (pairs ++ p ∷ []) ≡ steps_left count pairs + steps_of (count - max p.plus p.minus)
unfolding steps_left
steps_left_push count [] p = omega arith
steps_left_push count (x ∷ pairs) p = omega (arith, steps_left_push count pairs p)

steps_some : (n : ℕ) → 0 < steps_of n
unfolding steps_of
steps_some zero = omega arith
steps_some (suc n) = omega arith

steps_two : (m n : ℕ) → m < n → (steps_of m + steps_of m) < steps_of n
unfolding steps_of
steps_two m zero h = absurd (omega arith)
steps_two m (suc n) h =
    elim (cases_lt m n) [
      | inl low ↦ omega (arith, steps_two m n low)
      | inr high ↦ let e : m ≡ n = omega arith in subst (λ (m : ℕ). (steps_of m + steps_of m) < (1 + (steps_of n + steps_of n))) (sym e) (omega arith)
    ]

-- what is still to be unfolded, beside what was gathered
pub record Gathers (bounds : List Bound) (t : Table) (start : ℕ) (indices : List ℕ) (pairs : List Pair) : Type 0 where
  pub at : ℕ
  pub walk : IsWalk bounds start indices at
  pub joins : Joins t pairs at start
  pub negative : (total bounds indices +ℤ pairs_total t pairs) <ℤ pos 0

pub gathers_start : (bounds : List Bound) (t : Table) (lower upper : Pair) (x y : Kept) → upper.plus ≡ lower.minus → upper.minus ≡ lower.plus → lower.plus ≤ t.count → lower.minus ≤ t.count → entry t upper.plus upper.minus ≡ Some x → entry t lower.plus lower.minus ≡ Some y → (x.at_most +ℤ y.at_most) <ℤ pos 0 → Gathers bounds t upper.plus [] (lower ∷ upper ∷ [])
gathers_start bounds t lower upper x y e f p q u l negative =
    let xs = ap kept_at_most u in
    let ys = ap kept_at_most l in
    record {
      at = upper.plus;
      walk = refl;
      joins = (record { kept = y; at = l; plus = p; minus = q }, sym e, (record { kept = x; at = u; plus = omega arith; minus = omega arith }, f, refl));
      negative = omega (arith, ints, xs, ys, negative);
    }

-- the last pair has a bound that was given
pub gathers_given : (bounds : List Bound) (t : Table) (start : ℕ) (indices : List ℕ) (pairs : List Pair) (p : Pair) (i : ℕ) → Gathers bounds t start indices (pairs ++ p ∷ []) → (x : Kept) → entry t p.plus p.minus ≡ Some x → IsGiven bounds i p.plus p.minus x.at_most → Gathers bounds t start (indices ++ i ∷ []) pairs
gathers_given bounds t start indices pairs p i g x at h =
    let j = joins_last t pairs p g.at start g.joins in
    let sums = total_push bounds indices i h.bound h.at in
    let rest = pairs_total_push t pairs p x at in
    record {
      at = p.minus;
      walk = subst (λ (v : ℕ). IsWalk bounds start (indices ++ i ∷ []) v) h.minus (walk_push bounds start indices g.at i h.bound g.walk h.at (h.plus ∙ j.1));
      joins = j.2;
      negative = omega (arith, ints, sums, rest, h.at_most, g.negative);
    }

sum_joins : (t : Table) (start : ℕ) (pairs : List Pair) (p : Pair) (v : ℕ) (c : ℤ) → Joins t pairs p.minus start → IsSum t 0 v p.plus p.minus c → Joins t ((pairs ++ record { plus = v; minus = p.minus } ∷ []) ++ record { plus = p.plus; minus = v } ∷ []) p.plus start
sum_joins t start pairs p v c j h =
    let low : Pair = record { plus = v; minus = p.minus } in
    let up : Pair = record { plus = p.plus; minus = v } in
    joins_push t (pairs ++ low ∷ []) up start
    (joins_push t pairs low start j record { kept = h.lower; at = h.lower_at; plus = h.within; minus = omega (arith, h.within, h.minus) })
    record { kept = h.upper; at = h.upper_at; plus = omega (arith, h.within, h.plus); minus = h.within }

-- the last pair has a sum
pub gathers_sum : (bounds : List Bound) (t : Table) (start : ℕ) (indices : List ℕ) (pairs : List Pair) (p : Pair) (v : ℕ) → Gathers bounds t start indices (pairs ++ p ∷ []) → (x : Kept) → entry t p.plus p.minus ≡ Some x → IsSum t 0 v p.plus p.minus x.at_most → Gathers bounds t start indices ((pairs ++ record { plus = v; minus = p.minus } ∷ []) ++ record { plus = p.plus; minus = v } ∷ [])
gathers_sum bounds t start indices pairs p v g x at h =
    let j = joins_last t pairs p g.at start g.joins in
    let low : Pair = record { plus = v; minus = p.minus } in
    let up : Pair = record { plus = p.plus; minus = v } in
    let rest = pairs_total_push t pairs p x at in
    let lows = pairs_total_push t pairs low h.lower h.lower_at in
    let ups = pairs_total_push t (pairs ++ low ∷ []) up h.upper h.upper_at in
    record {
      at = p.plus;
      walk = subst (λ (v : ℕ). IsWalk bounds start indices v) (sym j.1) g.walk;
      joins = sum_joins t start pairs p v x.at_most j.2 h;
      negative = omega (arith, ints, rest, lows, ups, h.total, g.negative);
    }

-- there is less to unfold
pub steps_given : (count : ℕ) (pairs : List Pair) (p : Pair) → steps_left count pairs < steps_left count (pairs ++ p ∷ [])
steps_given count pairs p = omega (arith, steps_left_push count pairs p, steps_some (count - max p.plus p.minus))

pub steps_sum : (count : ℕ) (pairs : List Pair) (p : Pair) (v : ℕ) → v ≤ count → p.plus < v → p.minus < v → steps_left count ((pairs ++ record { plus = v; minus = p.minus } ∷ []) ++ record { plus = p.plus; minus = v } ∷ []) < steps_left count (pairs ++ p ∷ [])
steps_sum count pairs p v within plus minus =
    let low : Pair = record { plus = v; minus = p.minus } in
    let up : Pair = record { plus = p.plus; minus = v } in
    let first : max v p.minus ≡ v = omega arith in
    let second : max p.plus v ≡ v = omega arith in
    let left = steps_left_push count pairs p in
    let lows = steps_left_push count pairs low ∙ ap (λ (m : ℕ). steps_left count pairs + steps_of (count - m)) first in
    let ups = steps_left_push count (pairs ++ low ∷ []) up ∙ ap (λ (m : ℕ). steps_left count (pairs ++ low ∷ []) + steps_of (count - m)) second in
    omega (arith, left, lows, ups, steps_two (count - v) (count - max p.plus p.minus) (omega arith))

-- all is gathered
pub gathers_end : (bounds : List Bound) (t : Table) (start : ℕ) (indices : List ℕ) → Gathers bounds t start indices [] → IsNegativeCycle bounds indices
gathers_end bounds t start indices g = record {
  start = start;
  closed = subst (λ (v : ℕ). IsWalk bounds start indices v) g.joins g.walk;
  negative = omega (arith, ints, g.negative);
}

-- where the bound of a pair comes from, by what the table says of it
pub source_given : (bounds : List Bound) (t : Table) (i j index : ℕ) (x : Kept) → HasSources bounds 0 t → entry t i j ≡ Some x → x.source ≡ Given index → IsGiven bounds index i j x.at_most
source_given bounds t i j index x h at is = subst (λ (f : Source). IsFrom bounds t 0 i j x.at_most f) is (h i j x at)

pub source_sum : (bounds : List Bound) (t : Table) (i j v : ℕ) (x : Kept) → HasSources bounds 0 t → entry t i j ≡ Some x → x.source ≡ Sum v → IsSum t 0 v i j x.at_most
source_sum bounds t i j v x h at is = subst (λ (f : Source). IsFrom bounds t 0 i j x.at_most f) is (h i j x at)

pub sums_from : (bounds : List Bound) (t : Table) → HasSources bounds 0 t → HasSums t
sums_from bounds t h i j v x at is = source_sum bounds t i j v x h at is

-- the pairs that are still to be unfolded join
abbrev pub Pends : Table → ℕ → List Pair → Type 0
Pends t start pairs = (at : ℕ) × Joins t pairs at start

-- where a loop began: what holds of the pairs alone, and what holds of any bounds that the table comes from
pub record Unfolds (t : Table) (start : ℕ) (indices : List ℕ) (pairs : List Pair) : Type 0 where
  pub pends : Pends t start pairs
  pub gathers : (bounds : List Bound) → HasSources bounds 0 t → Gathers bounds t start indices pairs

pub unfolds_start : (t : Table) (lower upper : Pair) (x y : Kept) → upper.plus ≡ lower.minus → upper.minus ≡ lower.plus → lower.plus ≤ t.count → lower.minus ≤ t.count → entry t upper.plus upper.minus ≡ Some x → entry t lower.plus lower.minus ≡ Some y → (x.at_most +ℤ y.at_most) <ℤ pos 0 → Unfolds t upper.plus [] (lower ∷ upper ∷ [])
unfolds_start t lower upper x y e f p q u l negative =
    let g = gathers_start [] t lower upper x y e f p q u l negative in
    record {
      pends = (g.at, g.joins);
      gathers = λ bounds h. gathers_start bounds t lower upper x y e f p q u l negative;
    }

if_some : (o : Option Kept) (x : Kept) (P : Kept → Type 0) → o ≡ Some x → IfSome o P → P x
if_some o x P is h = subst (λ (o : Option Kept). IfSome o P) is h

-- the last pair, and what is left after it
last_joins : (t : Table) (start : ℕ) (indices : List ℕ) (pairs rest : List Pair) (p : Pair) → pairs ≡ rest ++ p ∷ [] → Unfolds t start indices pairs → IsKept t p × Joins t rest p.minus start
last_joins t start indices pairs rest p e u =
    let j = joins_last t rest p u.pends.0 start (subst (λ (ps : List Pair). Joins t ps u.pends.0 start) e u.pends.1) in
    (j.0, j.2)

pub last_kept : (t : Table) (start : ℕ) (indices : List ℕ) (pairs rest : List Pair) (p : Pair) → pairs ≡ rest ++ p ∷ [] → Unfolds t start indices pairs → IsKept t p
last_kept t start indices pairs rest p e u = (last_joins t start indices pairs rest p e u).0

-- the table says where the bound of the last pair comes from
source_of : (t : Table) (p : Pair) (source : Source) (k : IsKept t p) → IfSome (entry t p.plus p.minus) (λ x. source ≡ x.source) → source ≡ k.kept.source
source_of t p source k of = if_some (entry t p.plus p.minus) k.kept (λ (x : Kept). source ≡ x.source) k.at of

pub given_next : (t : Table) (start : ℕ) (indices : List ℕ) (pairs rest : List Pair) (p : Pair) (source : Source) (index : ℕ) → pairs ≡ rest ++ p ∷ [] → Unfolds t start indices pairs → IfSome (entry t p.plus p.minus) (λ x. source ≡ x.source) → source ≡ Given index → Unfolds t start (indices ++ index ∷ []) rest
given_next t start indices pairs rest p source index e u of is =
    let (k, j) = last_joins t start indices pairs rest p e u in
    record {
      pends = (p.minus, j);
      gathers = λ bounds h.
          gathers_given bounds t start indices rest p index (subst (λ (ps : List Pair). Gathers bounds t start indices ps) e (u.gathers bounds h)) k.kept k.at
          (source_given bounds t p.plus p.minus index k.kept h k.at (sym (source_of t p source k of) ∙ is));
    }

pub sum_next : (t : Table) (start : ℕ) (indices : List ℕ) (pairs rest one two : List Pair) (p : Pair) (source : Source) (v : ℕ) → pairs ≡ rest ++ p ∷ [] → one ≡ rest ++ record { plus = v; minus = p.minus } ∷ [] → two ≡ one ++ record { plus = p.plus; minus = v } ∷ [] → Unfolds t start indices pairs → HasSums t → IfSome (entry t p.plus p.minus) (λ x. source ≡ x.source) → source ≡ Sum v → Unfolds t start indices two × (steps_left t.count two < steps_left t.count pairs)
sum_next t start indices pairs rest one two p source v e first second u sums of is =
    let (k, j) = last_joins t start indices pairs rest p e u in
    let sum = sums p.plus p.minus v k.kept k.at (sym (source_of t p source k of) ∙ is) in
    let low : Pair = record { plus = v; minus = p.minus } in
    let up : Pair = record { plus = p.plus; minus = v } in
    let all : two ≡ (rest ++ low ∷ []) ++ up ∷ [] = second ∙ ap (λ (ps : List Pair). ps ++ up ∷ []) first in (
      subst (λ (ps : List Pair). Unfolds t start indices ps) (sym all) record {
        pends = (p.plus, sum_joins t start rest p v k.kept.at_most j sum);
        gathers = λ bounds h. gathers_sum bounds t start indices rest p v (subst (λ (ps : List Pair). Gathers bounds t start indices ps) e (u.gathers bounds h)) k.kept k.at sum;
      },
      subst (λ (ps : List Pair). steps_left t.count ps < steps_left t.count pairs) (sym all)
          (subst (λ (ps : List Pair). steps_left t.count ((rest ++ low ∷ []) ++ up ∷ []) < steps_left t.count ps) (sym e)
          (steps_sum t.count rest p v sum.within sum.plus sum.minus)),
    )

pub no_pairs : (pairs : List Pair) → length pairs ≡ 0 → pairs ≡ []
no_pairs [] e = refl
no_pairs (p ∷ pairs) e = absurd (omega arith)
