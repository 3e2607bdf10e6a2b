-- What the elimination of one unknown does to a table, in each of the senses that the contracts speak of.
use Rattle.std.proofs.Common.{◌≡◌, ◌≢◌, ℕ, suc, ◌+◌, ◌-◌, ◌*◌, ◌^◌, ◌≤◌, ◌<◌, ℤ, pos, ◌+ℤ◌, ◌≤ℤ◌, ◌⊎◌, inl, inr, List, Option, Some, None, refl, ap, sym, subst, ◌∙◌, arith}
use Rattle.std.specs.Int.{w128}
use mir.Val.{to_z, of_z}
use Rattle.std.proofs.lemmas.Bool.{cases_lt}
use Rattle.std.proofs.lemmas.Int.{ints}
use Rattle.difference_solver.specs.Table.{entry}
use Rattle.difference_solver.specs.Kept.{lesser}
use Rattle.difference_solver.specs.Elimination.{AtMost, Implies, IsWithin, HasLimit, HasRowLimit, sum_of, least_sum, AddsRow, AddsRows, HasNoLoop, IsClosed, IsFrom, HasSources, KeepsImplied}
use Rattle.difference_solver.specs.declared.bound.Bound.{Bound}
use Rattle.difference_solver.specs.declared.table.Table.{Table}
use Rattle.difference_solver.specs.declared.table.Kept.{Kept}
use Rattle.difference_solver.specs.declared.table.Source.{Source}
use Rattle.difference_solver.specs.declared.table.Source.TheVariants.{Given, Sum}
use Rattle.difference_solver.proofs.Sums.{AtMost-up, Derives, NoneBelow}
use Rattle.difference_solver.proofs.Limits.{Small, small, size, size-le}

-- two unknowns are one or two
pub one_or_two : (i j : ℕ) → (i ≡ j) ⊎ (i ≢ j)
one_or_two i j =
    elim (cases_lt i j) [
      | inl low ↦ inr (λ e. omega arith)
      | inr high ↦ elim (cases_lt j i) [ inl low ↦ inr (λ e. omega arith) | inr same ↦ inl (omega arith) ]
    ]

-- the lesser of two bounds is at most either ..
pub lesser-kept : (o : Option Kept) (y : Kept) (c : ℤ) → AtMost o c → AtMost (lesser o y) c
lesser-kept None y c h = absurd h
lesser-kept (Some x) y c h = grind (arith, ints)

pub lesser-new : (o : Option Kept) (y : Kept) (c : ℤ) → y.at_most ≤ℤ c → AtMost (lesser o y) c
lesser-new None y c h = h
lesser-new (Some x) y c h = grind (arith, ints)

-- .. and it is one of them
pub lesser-is : (o : Option Kept) (y z : Kept) → lesser o y ≡ Some z → (o ≡ Some z) ⊎ (y ≡ z)
lesser-is None y z e = inr (cc)
lesser-is (Some x) y z e = grind arith

-- a bound that is at most c is kept
pub AtMost-some : (o : Option Kept) (c : ℤ) → AtMost o c → (x : Kept) × (o ≡ Some x) × (x.at_most ≤ℤ c)
AtMost-some None c h = absurd h
AtMost-some (Some x) c h = (x, refl, h)

pub least_sum-kept : (k : ℕ) (o u l : Option Kept) (c : ℤ) → AtMost o c → AtMost (least_sum k o u l) c
least_sum-kept k o None l c h = h
least_sum-kept k o (Some x) None c h = h
least_sum-kept k o (Some x) (Some y) c h = lesser-kept o record { at_most = x.at_most +ℤ y.at_most; source = Sum k } c h

pub least_sum-new : (k : ℕ) (o u l : Option Kept) (x y : Kept) → u ≡ Some x → l ≡ Some y → AtMost (least_sum k o u l) (x.at_most +ℤ y.at_most)
least_sum-new k o u l x y p q =
    subst (λ (u : Option Kept). AtMost (least_sum k o u l) (x.at_most +ℤ y.at_most)) (sym p)
    (subst (λ (l : Option Kept). AtMost (least_sum k o (Some x) l) (x.at_most +ℤ y.at_most)) (sym q)
    (lesser-new o record { at_most = x.at_most +ℤ y.at_most; source = Sum k } (x.at_most +ℤ y.at_most) (omega (arith, ints))))

-- z is the sum of the bounds x and y through k
pub record IsSumOf (k : ℕ) (u l : Option Kept) (z : Kept) : Type 0 where
  pub upper : Kept
  pub lower : Kept
  pub upper_is : u ≡ Some upper
  pub lower_is : l ≡ Some lower
  pub is : z ≡ record { at_most = upper.at_most +ℤ lower.at_most; source = Sum k }

pub least_sum-is : (k : ℕ) (o u l : Option Kept) (z : Kept) → least_sum k o u l ≡ Some z → (o ≡ Some z) ⊎ IsSumOf k u l z
least_sum-is k o None l z e = inl e
least_sum-is k o (Some x) None z e = inl e
least_sum-is k o (Some x) (Some y) z e =
    elim (lesser-is o record { at_most = x.at_most +ℤ y.at_most; source = Sum k } z e) [
      | inl old ↦ inl old
      | inr new ↦ inr record { upper = x; lower = y; upper_is = refl; lower_is = refl; is = sym new }
    ]

pub Implies-up : (t : Table) (i j : ℕ) (c d : ℤ) → Implies t i j c → c ≤ℤ d → Implies t i j d
Implies-up t i j c d h le = record {
  apart = λ ne. AtMost-up (entry t i j) c d (h.apart ne) le;
  self = λ e. let low : pos 0 ≤ℤ c = h.self e in omega (arith, ints);
}

-- two different unknowns below k, or not
pub inside_or : (k i j : ℕ) → ((i < k) × (j < k) × (i ≢ j)) ⊎ (i < k → j < k → i ≡ j)
inside_or k i j =
    elim (one_or_two i j) [
      | inl e ↦ inr (λ p q. e)
      | inr ne ↦
          elim (cases_lt i k) [
            | inl p ↦ elim (cases_lt j k) [ inl q ↦ inl (p, q, ne) | inr high ↦ inr (λ p q. absurd (omega arith)) ]
            | inr high ↦ inr (λ p q. absurd (omega arith))
          ]
    ]

-- the columns and rows from k on stay as they are
pub right : (k : ℕ) (old new : Table) → AddsRows k k old new → (i v : ℕ) → k ≤ v → entry new i v ≡ entry old i v
right k old new s i v h = s.rest i v (λ p q. absurd (omega arith))

pub lower : (k : ℕ) (old new : Table) → AddsRows k k old new → (v j : ℕ) → k ≤ v → entry new v j ≡ entry old v j
lower k old new s v j h = s.rest v j (λ p q. absurd (omega arith))

pub step_keeps : (k : ℕ) (old new : Table) → AddsRows k k old new → KeepsImplied old new
step_keeps k old new s i j c h = record {
  apart = λ ne.
      elim (inside_or k i j) [
        | inl (p, q, _) ↦ subst (λ (o : Option Kept). AtMost o c) (sym (s.sums i j p q ne)) (least_sum-kept k (entry old i j) (entry old i k) (entry old k j) c (h.apart ne))
        | inr out ↦ subst (λ (o : Option Kept). AtMost o c) (sym (s.rest i j out)) (h.apart ne)
      ];
  self = h.self;
}

pub step_implies : (k : ℕ) (old new : Table) → AddsRows k k old new → HasNoLoop k k old → (i j : ℕ) (x y : Kept) → i < k → j < k → entry old i k ≡ Some x → entry old k j ≡ Some y → Implies new i j (x.at_most +ℤ y.at_most)
step_implies k old new s none i j x y p q u l = record {
  apart = λ ne. subst (λ (o : Option Kept). AtMost o (x.at_most +ℤ y.at_most)) (sym (s.sums i j p q ne)) (least_sum-new k (entry old i j) (entry old i k) (entry old k j) x y u l);
  self = λ e. none i x y p u (subst (λ (j : ℕ). entry old k j ≡ Some y) (sym e) l);
}

pub step_closed : (m k : ℕ) (old new : Table) → k ≡ m + 1 → AddsRows k k old new → HasNoLoop k k old → IsClosed k old → IsClosed m new
step_closed m k old new is s none closed v i j x y above within p q u l =
    elim (cases_lt k v) [
      | inl high ↦
          step_keeps k old new s i j (x.at_most +ℤ y.at_most)
          (closed v i j x y high (omega (arith, s.count)) p q (sym (right k old new s i v (omega arith)) ∙ u) (sym (lower k old new s v j (omega arith)) ∙ l))
      | inr low ↦
          let same : v ≡ k = omega arith in
          let u' : entry old i k ≡ Some x = subst (λ (v : ℕ). entry old i v ≡ Some x) same (sym (right k old new s i v (omega arith)) ∙ u) in
          let l' : entry old k j ≡ Some y = subst (λ (v : ℕ). entry old v j ≡ Some y) same (sym (lower k old new s v j (omega arith)) ∙ l) in
          step_implies k old new s none i j x y (omega arith) (omega arith) u' l'
    ]

-- where a bound comes from stays as it is
from_older : (bounds : List Bound) (m k : ℕ) (old new : Table) → k ≡ m + 1 → AddsRows k k old new → (i j : ℕ) (c : ℤ) (f : Source) → IsFrom bounds old k i j c f → IsFrom bounds new m i j c f
from_older bounds m k old new is s i j c (Given index) h = h
from_older bounds m k old new is s i j c (Sum v) h = record {
  above = omega (arith, h.above);
  within = omega (arith, h.within, s.count);
  plus = h.plus;
  minus = h.minus;
  upper = h.upper;
  lower = h.lower;
  upper_at = right k old new s i v (omega (arith, h.above)) ∙ h.upper_at;
  lower_at = lower k old new s v j (omega (arith, h.above)) ∙ h.lower_at;
  total = h.total;
}

pub step_sources : (bounds : List Bound) (m k : ℕ) (old new : Table) → k ≡ m + 1 → k ≤ old.count → AddsRows k k old new → HasSources bounds k old → HasSources bounds m new
step_sources bounds m k old new is within s sources i j z at =
    elim (inside_or k i j) [
      | inl (p, q, ne) ↦
          elim (least_sum-is k (entry old i j) (entry old i k) (entry old k j) z (sym (s.sums i j p q ne) ∙ at)) [
            | inl same ↦ from_older bounds m k old new is s i j z.at_most z.source (sources i j z same)
            | inr sum ↦
                subst (λ (z : Kept). IsFrom bounds new m i j z.at_most z.source) (sym sum.is) record {
                  above = omega arith;
                  within = omega (arith, s.count);
                  plus = p;
                  minus = q;
                  upper = sum.upper;
                  lower = sum.lower;
                  upper_at = right k old new s i k (omega arith) ∙ sum.upper_is;
                  lower_at = lower k old new s k j (omega arith) ∙ sum.lower_is;
                  total = refl;
                }
          ]
      | inr out ↦ from_older bounds m k old new is s i j z.at_most z.source (sources i j z (sym (s.rest i j out) ∙ at))
    ]

-- the bounds between the unknowns up to k are the least that are derived from the table at the start
pub record Links (start t : Table) (n e k : ℕ) : Type 0 where
  pub sound : (i j : ℕ) (x : Kept) → i ≤ k → j ≤ k → i ≢ j → entry t i j ≡ Some x → Derives start n e i j x.at_most
  pub least : (i j : ℕ) (c : ℤ) → i ≤ k → j ≤ k → Derives start n e i j c → Implies t i j c

pub links_start : (t : Table) (n k : ℕ) → Links t t n 0 k
unfolding Derives
links_start t n k = record {
  sound = λ i j x p q ne at. (ne, subst (λ (o : Option Kept). AtMost o x.at_most) (sym at) (omega (arith, ints)));
  least = λ i j c p q r. record { apart = λ ne. r.1; self = λ e. absurd (r.0 e) };
}

pub links_step : (start old new : Table) (n e m k : ℕ) → k ≡ m + 1 → k ≡ n - e → AddsRows k k old new → HasNoLoop k k old → Links start old n e k → Links start new n (suc e) m
unfolding Derives
links_step start old new n e m k is at s none links = record {
  sound = λ i j z p q ne new_at.
      elim (least_sum-is k (entry old i j) (entry old i k) (entry old k j) z (sym (s.sums i j (omega arith) (omega arith) ne) ∙ new_at)) [
        | inl same ↦ inl (links.sound i j z (omega arith) (omega arith) ne same)
        | inr sum ↦
            let u : Derives start n e i k sum.upper.at_most = links.sound i k sum.upper (omega arith) (omega arith) (λ e. omega arith) sum.upper_is in
            let l : Derives start n e k j sum.lower.at_most = links.sound k j sum.lower (omega arith) (omega arith) (λ e. omega arith) sum.lower_is in
            inr (
              sum.upper.at_most,
              sum.lower.at_most,
              subst (λ (k : ℕ). Derives start n e i k sum.upper.at_most) at u,
              subst (λ (k : ℕ). Derives start n e k j sum.lower.at_most) at l,
              subst (λ (z : Kept). (sum.upper.at_most +ℤ sum.lower.at_most) ≤ℤ z.at_most) (sym sum.is) (omega (arith, ints)),
            )
      ];
  least = λ i j c p q r.
      elim r [
        | inl r ↦ step_keeps k old new s i j c (links.least i j c (omega arith) (omega arith) r)
        | inr (a, b, u, l, h) ↦
            let (x, x_at, x_le) = AtMost-some (entry old i k) a ((links.least i k a (omega arith) (omega arith) (subst (λ (k : ℕ). Derives start n e i k a) (sym at) u)).apart (λ e. omega arith)) in
            let (y, y_at, y_le) = AtMost-some (entry old k j) b ((links.least k j b (omega arith) (omega arith) (subst (λ (k : ℕ). Derives start n e k j b) (sym at) l)).apart (λ e. omega arith)) in
            Implies-up new i j (x.at_most +ℤ y.at_most) c (step_implies k old new s none i j x y (omega arith) (omega arith) x_at y_at) (omega (arith, ints))
      ];
}

pub none_step : (start t : Table) (n e k : ℕ) → k ≡ n - e → Links start t n e k → NoneBelow start n e → NoneBelow start n (suc e)
none_step start t n e k at links none m h c r =
    elim (cases_lt m e) [
      | inl low ↦ none m low c r
      | inr high ↦
          let same : m ≡ e = omega arith in
          let r' : Derives start n e (n - e) (n - e) c = subst (λ (m : ℕ). Derives start n m (n - m) (n - m) c) same r in
          (links.least k k c (omega arith) (omega arith) (subst (λ (k : ℕ). Derives start n e k k c) (sym at) r')).self refl
    ]

-- no bound grows beyond the sum of 65 that are given
limit_of : (start t : Table) (n e k i j : ℕ) (x : Kept) → e ≤ 64 → i ≤ k → j ≤ k → i ≢ j → Links start t n e k → entry t i j ≡ Some x → Small start n e i j x.at_most → IsWithin (65 * 2 ^ 66) x.at_most
limit_of start t n e k i j x few p q ne links at s =
    let (y, y_at, le) = AtMost-some (entry t i j) s.least ((links.least i j s.least p q s.derived).apart ne) in
    let same : x.at_most ≡ y.at_most = let e : Some x ≡ Some y = sym at ∙ y_at in let z : x ≡ y = cc in ap (λ (x : Kept). x.at_most) z in
    let sizes : size s.set ≤ 64 = omega (arith, size-le s.set, s.length) in
    (omega (arith, ints, same, le, s.below, s.within.0), omega (arith, ints, same, le, s.below, s.within.1))

pub step_limit : (start old new : Table) (n e m k : ℕ) → k ≡ m + 1 → k ≡ n - e → n ≤ 64 → AddsRows k k old new → HasLimit (2 ^ 66) start → NoneBelow start n (suc e) → Links start new n (suc e) m → HasLimit (65 * 2 ^ 66) old → HasLimit (65 * 2 ^ 66) new
step_limit start old new n e m k is at few s given none links limit i j x new_at =
    elim (inside_or k i j) [
      | inl (p, q, ne) ↦
          limit_of start new n (suc e) m i j x (omega arith) (omega arith) (omega arith) ne links new_at (small start n (suc e) given none i j x.at_most (links.sound i j x (omega arith) (omega arith) ne new_at))
      | inr out ↦ limit i j x (sym (s.rest i j out) ∙ new_at)
    ]

pub row_limit : (limit k n : ℕ) (old new : Table) → AddsRows k n old new → n ≤ k → HasLimit limit old → HasRowLimit limit k new
row_limit limit k n old new s h is q x at = is k q x (sym (s.rest k q (λ p q. absurd (omega arith))) ∙ at)

pub rows_more : (k i : ℕ) (old now new : Table) → i < k → AddsRows k i old now → AddsRow k i k now new → AddsRows k (i + 1) old new
rows_more k i old now new lt s r = record {
  count = r.count ∙ s.count;
  sums = λ a b p q ne.
      elim (one_or_two a i) [
        | inl e ↦
            subst (λ (a : ℕ). entry new a b ≡ least_sum k (entry old a b) (entry old a k) (entry old k b)) (sym e)
            (r.sums b q (λ f. ne (e ∙ f))
            ∙ ap (λ (o : Option Kept). least_sum k o (entry now i k) (entry now k b)) (s.rest i b (λ p. absurd (omega arith)))
            ∙ ap (λ (o : Option Kept). least_sum k (entry old i b) o (entry now k b)) (s.rest i k (λ p. absurd (omega arith)))
            ∙ ap (least_sum k (entry old i b) (entry old i k)) (s.rest k b (λ p. absurd (omega arith))))
        | inr apart ↦ r.rows a b apart ∙ s.sums a b (omega arith) q ne
      ];
  rest = λ a b out.
      elim (one_or_two a i) [
        | inl e ↦
            subst (λ (a : ℕ). entry new a b ≡ entry old a b) (sym e)
            (r.rest b (λ q. sym e ∙ out (omega arith) q) ∙ s.rest i b (λ p. absurd (omega arith)))
        | inr apart ↦ r.rows a b apart ∙ s.rest a b (λ p. out (omega arith))
      ];
}

pub rows_skip : (k i : ℕ) (old now : Table) → i < k → AddsRows k i old now → entry now i k ≡ None → AddsRows k (i + 1) old now
rows_skip k i old now lt s none = record {
  count = s.count;
  sums = λ a b p q ne.
      elim (one_or_two a i) [
        | inl e ↦
            subst (λ (a : ℕ). entry now a b ≡ least_sum k (entry old a b) (entry old a k) (entry old k b)) (sym e)
            (s.rest i b (λ p. absurd (omega arith))
            ∙ ap (λ (o : Option Kept). least_sum k (entry old i b) o (entry old k b)) (sym none ∙ s.rest i k (λ p. absurd (omega arith))))
        | inr apart ↦ s.sums a b (omega arith) q ne
      ];
  rest = λ a b out. s.rest a b (λ p. out (omega arith));
}

pub sum_reads : (a b : ℤ) → IsWithin (65 * 2 ^ 66) a → IsWithin (65 * 2 ^ 66) b → to_z w128 (of_z w128 (to_z w128 (of_z w128 a) +ℤ to_z w128 (of_z w128 b))) ≡ a +ℤ b
sum_reads a b h k = omega (arith, ints)

pub sum_of-is : (u l : Option Kept) (x y : Kept) → u ≡ Some x → l ≡ Some y → sum_of u l ≡ Some (x.at_most +ℤ y.at_most)
sum_of-is u l x y p q = ap (λ (o : Option Kept). sum_of o l) p ∙ ap (sum_of (Some x)) q

pub limit_up : (t : Table) → HasLimit (2 ^ 66) t → HasLimit (65 * 2 ^ 66) t
limit_up t h p q x at = let w = h p q x at in (omega (arith, ints, w.0), omega (arith, ints, w.1))

from_below : (bounds : List Bound) (m k : ℕ) (t : Table) → m ≤ k → (i j : ℕ) (c : ℤ) (f : Source) → IsFrom bounds t k i j c f → IsFrom bounds t m i j c f
from_below bounds m k t le i j c (Given index) h = h
from_below bounds m k t le i j c (Sum v) h = record {
  above = omega (arith, h.above);
  within = h.within;
  plus = h.plus;
  minus = h.minus;
  upper = h.upper;
  lower = h.lower;
  upper_at = h.upper_at;
  lower_at = h.lower_at;
  total = h.total;
}

pub sources_below : (bounds : List Bound) (m k : ℕ) (t : Table) → m ≤ k → HasSources bounds k t → HasSources bounds m t
sources_below bounds m k t le h i j x at = from_below bounds m k t le i j x.at_most x.source (h i j x at)

-- one more unknown is eliminated
pub record Eliminates (start t : Table) (n e : ℕ) : Type 0 where
  pub links : Links start t n e (n - e)
  pub none : NoneBelow start n e
  pub limit : HasLimit (65 * 2 ^ 66) t
  pub closed : IsClosed (n - e) t

pub eliminates_start : (t : Table) (n : ℕ) → n ≡ t.count → HasLimit (2 ^ 66) t → Eliminates t t n 0
eliminates_start t n is limit = record {
  links = links_start t n (n - 0);
  none = λ m h c r. absurd (omega arith);
  limit = limit_up t limit;
  closed = λ v i j x y above within p q u l. absurd (omega arith);
}

pub eliminates_more : (start old new : Table) (n e : ℕ) → e < n → n ≤ 64 → HasLimit (2 ^ 66) start → HasNoLoop (n - e) (n - e) old → AddsRows (n - e) (n - e) old new → Eliminates start old n e → Eliminates start new n (e + 1)
eliminates_more start old new n e lt few given none_here s h =
    let is : (n - e) ≡ (n - suc e) + 1 = omega arith in
    let next : suc e ≡ e + 1 = omega arith in
    let links = links_step start old new n e (n - suc e) (n - e) is refl s none_here h.links in
    let none = none_step start old n e (n - e) refl h.links h.none in
    let limit = step_limit start old new n e (n - suc e) (n - e) is refl few s given none links h.limit in
    let closed = step_closed (n - suc e) (n - e) old new is s none_here h.closed in
    subst (λ (e : ℕ). Eliminates start new n e) next record { links = links; none = none; limit = limit; closed = closed }

pub eliminates_sources : (bounds : List Bound) (start old new : Table) (n e : ℕ) → e < n → n ≡ old.count → AddsRows (n - e) (n - e) old new → HasSources bounds (n - e) old → HasSources bounds (n - (e + 1)) new
eliminates_sources bounds start old new n e lt is s h = step_sources bounds (n - (e + 1)) (n - e) old new (omega arith) (omega arith) s h

pub closed_below : (m k : ℕ) (t : Table) → k ≤ m → IsClosed k t → IsClosed m t
closed_below m k t le h v i j x y above within p q u l = h v i j x y (omega arith) within p q u l
