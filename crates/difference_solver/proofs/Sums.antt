-- What elimination derives, as a relation: bounds on the sums through the unknowns n, n - 1 and so on.
use Rattle.std.proofs.Common.{◌≡◌, ◌≢◌, ℕ, zero, suc, ◌-◌, ◌<◌, ℤ, pos, ◌+ℤ◌, ◌≤ℤ◌, ◌⊎◌, inl, inr, Option, Some, None, subst, arith}
use Rattle.std.proofs.lemmas.Bool.{cases_lt}
use Rattle.std.proofs.lemmas.Int.{ints}
use Rattle.difference_solver.specs.Table.{entry}
use Rattle.difference_solver.specs.Elimination.{AtMost}
use Rattle.difference_solver.specs.declared.table.Table.{Table}
use Rattle.difference_solver.specs.declared.table.Kept.{Kept}

pub AtMost-up : (o : Option Kept) (c d : ℤ) → AtMost o c → c ≤ℤ d → AtMost o d
AtMost-up None c d h le = h
AtMost-up (Some x) c d h le = omega (arith, ints)

-- after e unknowns, from n down, are eliminated from t: i less j is at most c
unfoldable pub Derives : Table → ℕ → ℕ → ℕ → ℕ → ℤ → Type 0
Derives t n zero i j c = (i ≢ j) × AtMost (entry t i j) c
Derives t n (suc e) i j c =
    Derives t n e i j c
    ⊎ ((a : ℤ) × (b : ℤ) × Derives t n e i (n - e) a × Derives t n e (n - e) j b × ((a +ℤ b) ≤ℤ c))

pub Derives-up : (t : Table) (n e i j : ℕ) (c d : ℤ) → Derives t n e i j c → c ≤ℤ d → Derives t n e i j d
unfolding Derives
Derives-up t n zero i j c d r h = (r.0, AtMost-up (entry t i j) c d r.1 h)
Derives-up t n (suc e) i j c d (inl r) h = inl (Derives-up t n e i j c d r h)
Derives-up t n (suc e) i j c d (inr (a, b, p, q, k)) h = inr (a, b, p, q, omega (arith, ints))

-- none of the first e unknowns, from n down, was found to be below itself when it was eliminated
abbrev pub NoneBelow : Table → ℕ → ℕ → Type 0
NoneBelow t n e = (m : ℕ) → m < e → (c : ℤ) → Derives t n m (n - m) (n - m) c → pos 0 ≤ℤ c

-- elimination of an unknown derives nothing new on itself as `minus` ..
own_minus : (t : Table) (n e i : ℕ) (c : ℤ) → NoneBelow t n (suc e) → Derives t n (suc e) i (n - e) c → Derives t n e i (n - e) c
unfolding Derives
own_minus t n e i c none (inl r) = r
own_minus t n e i c none (inr (a, b, p, q, k)) =
    let low : pos 0 ≤ℤ b = none e (omega arith) b q in
    Derives-up t n e i (n - e) a c p (omega (arith, ints))

-- .. or as `plus`
own_plus : (t : Table) (n e j : ℕ) (c : ℤ) → NoneBelow t n (suc e) → Derives t n (suc e) (n - e) j c → Derives t n e (n - e) j c
unfolding Derives
own_plus t n e j c none (inl r) = r
own_plus t n e j c none (inr (a, b, p, q, k)) =
    let low : pos 0 ≤ℤ a = none e (omega arith) a p in
    Derives-up t n e (n - e) j b c q (omega (arith, ints))

pub fewer : (t : Table) (n e : ℕ) → NoneBelow t n (suc e) → NoneBelow t n e
fewer t n e none m h c r = none m (omega arith) c r

-- two bounds through an unknown that was eliminated before
pub earlier : (t : Table) (n e m i j : ℕ) (a b : ℤ) → NoneBelow t n (suc e) → ((i j : ℕ) (a b : ℤ) → Derives t n e i (n - m) a → Derives t n e (n - m) j b → Derives t n e i j (a +ℤ b)) → Derives t n (suc e) i (n - m) a → Derives t n (suc e) (n - m) j b → Derives t n (suc e) i j (a +ℤ b)
unfolding Derives
earlier t n e m i j a b none join (inl p) (inl q) = inl (join i j a b p q)
earlier t n e m i j a b none join (inl p) (inr (a', b', p', q', k)) =
    inr (a +ℤ a', b', join i (n - e) a a' p p', q', omega (arith, ints))
earlier t n e m i j a b none join (inr (a', b', p', q', k)) (inl q) =
    inr (a', b' +ℤ b, p', join (n - e) j b' b q' q, omega (arith, ints))
earlier t n e m i j a b none join (inr (a1, b1, p1, q1, k1)) (inr (a2, b2, p2, q2, k2)) =
    let low : pos 0 ≤ℤ (b1 +ℤ a2) = none e (omega arith) (b1 +ℤ a2) (join (n - e) (n - e) b1 a2 q1 p2) in
    inr (a1, b2, p1, q2, omega (arith, ints))

-- two bounds through an unknown that is eliminated imply their sum
pub through : (t : Table) (n e : ℕ) → NoneBelow t n e → (m i j : ℕ) (a b : ℤ) → m < e → Derives t n e i (n - m) a → Derives t n e (n - m) j b → Derives t n e i j (a +ℤ b)
unfolding Derives
through t n zero none m i j a b h p q = absurd (omega arith)
through t n (suc e) none m i j a b h p q =
    elim (cases_lt m e) [
      | inl low ↦ earlier t n e m i j a b none (λ i j a b p q. through t n e (fewer t n e none) m i j a b low p q) p q
      | inr high ↦
          let same : m ≡ e = omega arith in
          let p' : Derives t n (suc e) i (n - e) a = subst (λ (v : ℕ). Derives t n (suc e) i (n - v) a) same p in
          let q' : Derives t n (suc e) (n - e) j b = subst (λ (v : ℕ). Derives t n (suc e) (n - v) j b) same q in
          inr (a, b, own_minus t n e i a none p', own_plus t n e j b none q', omega (arith, ints))
    ]
