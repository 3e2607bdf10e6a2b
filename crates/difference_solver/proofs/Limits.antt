-- How large a bound gets under elimination: the least bounds are sums through distinct unknowns.
use Rattle.std.proofs.Common.{◌≡◌, ℕ, zero, suc, ◌+◌, ◌-◌, ◌*◌, ◌^◌, ◌≤◌, ◌<◌, ℤ, pos, ◌+ℤ◌, ◌≤ℤ◌, ◌⊎◌, inl, inr, List, [], ◌∷◌, length, Option, Some, None, refl, sym, subst, ◌∙◌, arith, Bool, true, false}
use Rattle.std.proofs.lemmas.Int.{ints}
use Rattle.difference_solver.specs.Table.{entry}
use Rattle.difference_solver.specs.Elimination.{AtMost, IsWithin, HasLimit}
use Rattle.difference_solver.specs.declared.table.Table.{Table}
use Rattle.difference_solver.specs.declared.table.Kept.{Kept}
use Rattle.difference_solver.proofs.Sums.{Derives, NoneBelow, fewer, through}

-- A set of numbers below a limit is a list of tests; the last is that of 0.

unfoldable pub size : List Bool → ℕ
size [] = 0
size (true ∷ s) = 1 + size s
size (false ∷ s) = size s

pub size-le : (s : List Bool) → size s ≤ length s
unfolding size
size-le [] = omega arith
size-le (true ∷ s) = omega (arith, size-le s)
size-le (false ∷ s) = omega (arith, size-le s)

-- F holds of each number in the set
unfoldable pub Each : (ℕ → Type 0) → List Bool → Type 0
Each F [] = Unit {0}
Each F (true ∷ s) = F (length s) × Each F s
Each F (false ∷ s) = Each F s

-- two sets have a number in common, or their union has the sum of their sizes
unite : (F G H : ℕ → Type 0) → ((m : ℕ) → F m → H m) → ((m : ℕ) → G m → H m) → (r s : List Bool) → length r ≡ length s → Each F r → Each G s → ((m : ℕ) × (m < length r) × F m × G m) ⊎ ((u : List Bool) × (length u ≡ length r) × (size u ≡ size r + size s) × Each H u)
unfolding Each size
unite F G H f g [] [] e p q = inr ([], refl, omega arith, tt)
unite F G H f g [] (y ∷ s) e p q = absurd (omega arith)
unite F G H f g (x ∷ r) [] e p q = absurd (omega arith)
unite F G H f g (true ∷ r) (true ∷ s) e p q =
    let same : length s ≡ length r = omega arith in
    inl (length r, omega arith, p.0, subst G same q.0)
unite F G H f g (true ∷ r) (false ∷ s) e p q =
    elim (unite F G H f g r s (omega arith) p.1 q) [
      | inl (m, h, a, b) ↦ inl (m, omega arith, a, b)
      | inr (u, h, k, each) ↦ inr (true ∷ u, omega arith, omega arith, (f (length u) (subst F (sym h) p.0), each))
    ]
unite F G H f g (false ∷ r) (true ∷ s) e p q =
    elim (unite F G H f g r s (omega arith) p q.1) [
      | inl (m, h, a, b) ↦ inl (m, omega arith, a, b)
      | inr (u, h, k, each) ↦
          let same : length s ≡ length u = omega arith in
          inr (true ∷ u, omega arith, omega arith, (g (length u) (subst G same q.0), each))
    ]
unite F G H f g (false ∷ r) (false ∷ s) e p q =
    elim (unite F G H f g r s (omega arith) p q) [
      | inl (m, h, a, b) ↦ inl (m, omega arith, a, b)
      | inr (u, h, k, each) ↦ inr (false ∷ u, omega arith, omega arith, each)
    ]

-- every element is carried over
pub each_map : (F H : ℕ → Type 0) → ((m : ℕ) → F m → H m) → (s : List Bool) → Each F s → Each H s
unfolding Each
each_map F H f [] e = e
each_map F H f (true ∷ s) e = (f (length s) e.0, each_map F H f s e.1)
each_map F H f (false ∷ s) e = each_map F H f s e

-- d is at least a sum of bounds through the unknown that was eliminated after m others
abbrev pub Passes : Table → ℕ → ℕ → ℕ → ℕ → ℤ → ℕ → Type 0
Passes t n e i j d m = (a : ℤ) × (b : ℤ) × Derives t n e i (n - m) a × Derives t n e (n - m) j b × ((a +ℤ b) ≤ℤ d)

-- below c there is a bound that passes through a set of eliminated unknowns, and is no larger than its size allows
pub record Small (t : Table) (n e i j : ℕ) (c : ℤ) : Type 0 where
  pub least : ℤ
  pub set : List Bool
  pub derived : Derives t n e i j least
  pub below : least ≤ℤ c
  pub length : length set ≡ e
  pub within : IsWithin ((size set + 1) * 2 ^ 66) least
  pub passes : Each (Passes t n e i j least) set

base : (o : Option Kept) (c : ℤ) → ((x : Kept) → o ≡ Some x → IsWithin (2 ^ 66) x.at_most) → AtMost o c → (d : ℤ) × AtMost o d × (d ≤ℤ c) × IsWithin (2 ^ 66) d
base None c h a = absurd a
base (Some x) c h a = (x.at_most, omega (arith, ints), a, h x refl)

older : (t : Table) (n e i j : ℕ) (c d : ℤ) → d ≤ℤ c → Small t n e i j d → Small t n (suc e) i j c
unfolding Derives Each size
older t n e i j c d h s = record {
  least = s.least;
  set = false ∷ s.set;
  derived = inl s.derived;
  below = omega (arith, ints);
  length = omega (arith, s.length);
  within = s.within;
  passes = each_map (Passes t n e i j s.least) (Passes t n (suc e) i j s.least) (λ m (a, b, p, q, k). (a, b, inl p, inl q, k)) s.set s.passes;
}

joined : (t : Table) (n e i j : ℕ) (a b c : ℤ) → NoneBelow t n (suc e) → ((i j : ℕ) (c : ℤ) → Derives t n e i j c → Small t n e i j c) → (a +ℤ b) ≤ℤ c → Small t n e i (n - e) a → Small t n e (n - e) j b → Small t n (suc e) i j c
unfolding Derives Each size
joined t n e i j a b c none all_small h r s =
    elim (unite (Passes t n e i (n - e) r.least) (Passes t n e (n - e) j s.least) (Passes t n (suc e) i j (r.least +ℤ s.least))
    (λ m (a1, a2, p, q, k). (a1, a2 +ℤ s.least, inl p, inr (a2, s.least, q, s.derived, omega (arith, ints)), omega (arith, ints)))
    (λ m (b1, b2, p, q, k). (r.least +ℤ b1, b2, inr (r.least, b1, r.derived, p, omega (arith, ints)), inl q, omega (arith, ints)))
    r.set s.set (r.length ∙ sym s.length) r.passes s.passes) [
      | inl (m, lt, (a1, a2, p1, p2, k1), (b1, b2, q1, q2, k2)) ↦
          let low : pos 0 ≤ℤ (b1 +ℤ a2) = none e (omega arith) (b1 +ℤ a2) (through t n e (fewer t n e none) m (n - e) (n - e) b1 a2 (omega (arith, r.length)) q1 p2) in
          older t n e i j c (a1 +ℤ b2) (omega (arith, ints, r.below, s.below)) (all_small i j (a1 +ℤ b2) (through t n e (fewer t n e none) m i j a1 b2 (omega (arith, r.length)) p1 q2))
      | inr (u, len, sizes, each) ↦ record {
        least = r.least +ℤ s.least;
        set = true ∷ u;
        derived = inr (r.least, s.least, r.derived, s.derived, omega (arith, ints));
        below = omega (arith, ints, r.below, s.below);
        length = omega (arith, r.length);
        within = (omega (arith, ints, r.within.0, s.within.0), omega (arith, ints, r.within.1, s.within.1));
        passes = ((r.least, s.least, inl (subst (λ (l : ℕ). Derives t n e i (n - l) r.least) (sym (len ∙ r.length)) r.derived), inl (subst (λ (l : ℕ). Derives t n e (n - l) j s.least) (sym (len ∙ r.length)) s.derived), omega (arith, ints)), each);
      }
    ]

pub small : (t : Table) (n e : ℕ) → HasLimit (2 ^ 66) t → NoneBelow t n e → (i j : ℕ) (c : ℤ) → Derives t n e i j c → Small t n e i j c
unfolding Derives Each size
small t n zero limit none i j c r =
    let (d, at, le, within) = base (entry t i j) c (limit i j) r.1 in
    record { least = d; set = []; derived = (r.0, at); below = le; length = refl; within = within; passes = tt }
small t n (suc e) limit none i j c (inl r) =
    older t n e i j c c (omega (arith, ints)) (small t n e limit (fewer t n e none) i j c r)
small t n (suc e) limit none i j c (inr (a, b, p, q, k)) =
    let rest = fewer t n e none in
    joined t n e i j a b c none (λ i j c r. small t n e limit rest i j c r) k (small t n e limit rest i (n - e) a p) (small t n e limit rest (n - e) j b q)
