-- Lists of symbols that pass a test, ascending, and values of these symbols.
use Rattle.std.proofs.Common.{◌≡◌, ℕ, zero, suc, ◌+◌, ◌<◌, ◌≤◌, ℤ, pos, Bool, true, false, cond, ◌||◌, ◌&&◌, nat_eq, nat_lt, List, [], ◌∷◌, inl, inr, length, get_or, drop, drop-cons, set, refl, sym, ap, subst, ◌∙◌, arith}
use Rattle.std.proofs.lemmas.Bool.Decides.{nat_tests}
use Rattle.std.specs.Prelude.{slice_index, slice_set}
use Rattle.std.proofs.lemmas.Bool.{eq-eqb, eqb-true}
use Rattle.std.proofs.lemmas.Bool.{cases_lt}
use Rattle.std.proofs.lemmas.Int.{ints}
use Rattle.std.proofs.lemmas.List.{length-set, get_or-set_same, get_or-set_other, drop_all}
use Rattle.refutation_check.specs.Least.{is_at_most}
use Rattle.sn_width.specs.declared.ids.SymId.{SymId}
use Rattle.path_cond.specs.Coupled.{symbol_at, symbols_from}
use Rattle.difference_solver.specs.Choices.{IsUpTo}
use Rattle.path_solver.specs.Unknowns.{is_listed}
use Rattle.path_solver.specs.Values.{integers_of, value_of, with_integers}
use Rattle.path_solver.proofs.Atoms.{or_cases, or_left, or_right}

apart : (m n : ℕ) → nat_eq m n ≡ false → m ≤ n → suc m ≤ n
apart m n e low = grind (arith, nat_tests)

listed_here : (test : SymId → Bool) (place count : ℕ) (s : SymId) (b : Bool) → nat_eq place s.0 ≡ b
    → (suc place ≤ s.0 → s.0 < suc place + count → is_listed (symbols_from test (suc place) count) s ≡ true)
    → place ≤ s.0 → s.0 < place + suc count → (b || is_listed (symbols_from test (suc place) count) s) ≡ true
listed_here test place count s true e later low high = refl
listed_here test place count s false e later low high = later (apart place s.0 e low) (omega arith)

not_here : (test : SymId → Bool) (place : ℕ) (s : SymId) (b : Bool) → nat_eq place s.0 ≡ b
    → test (symbol_at place) ≡ false → test s ≡ true → place ≤ s.0 → suc place ≤ s.0
not_here test place s true e is h low =
    let same : place ≡ s.0 = eqb-true place s.0 e in
    let yes : test (symbol_at place) ≡ true = subst (λ (n : ℕ). test (record { 0 = n }) ≡ true) (sym same) h in absurd (cc)
not_here test place s false e is h low = apart place s.0 e low

listed_by : (test : SymId → Bool) (place count : ℕ) (s : SymId) (b : Bool) → test (symbol_at place) ≡ b → test s ≡ true
    → (suc place ≤ s.0 → s.0 < suc place + count → is_listed (symbols_from test (suc place) count) s ≡ true)
    → place ≤ s.0 → s.0 < place + suc count
    → is_listed (cond b (symbol_at place ∷ symbols_from test (suc place) count) (symbols_from test (suc place) count)) s ≡ true
listed_by test place count s true is h later low high = listed_here test place count s (nat_eq place s.0) refl later low high
listed_by test place count s false is h later low high =
    later (not_here test place s (nat_eq place s.0) refl is h low) (omega arith)

-- a symbol that passes the test is listed
pub listed_from : (test : SymId → Bool) (place count : ℕ) (s : SymId) → test s ≡ true → place ≤ s.0
    → s.0 < place + count → is_listed (symbols_from test place count) s ≡ true
listed_from test place zero s h low high = absurd (omega arith)
listed_from test place (suc count) s h low high =
    listed_by test place count s (test (symbol_at place)) refl h (λ l g. listed_from test (suc place) count s h l g) low high

-- a symbol that is listed passes the test, and is not before the first place nor past the last
pub record IsFrom (test : SymId → Bool) (place count : ℕ) (s : SymId) : Type 0 where
  pub passes : test s ≡ true
  pub low : place ≤ s.0
  pub high : s.0 < place + count

from_by : (test : SymId → Bool) (place count : ℕ) (s : SymId) (b : Bool) → test (symbol_at place) ≡ b
    → (is_listed (symbols_from test (suc place) count) s ≡ true → IsFrom test (suc place) count s)
    → is_listed (cond b (symbol_at place ∷ symbols_from test (suc place) count) (symbols_from test (suc place) count)) s ≡ true
    → IsFrom test place (suc count) s
from_by test place count s true is later h =
    elim (or_cases (nat_eq place s.0) (is_listed (symbols_from test (suc place) count) s) h) [
      | inl here ↦
          let same : place ≡ s.0 = eqb-true place s.0 here in
          record { passes = subst (λ (n : ℕ). test (record { 0 = n }) ≡ true) same is; low = omega arith; high = omega arith }
      | inr more ↦ let f = later more in record { passes = f.passes; low = omega (arith, f.low); high = omega (arith, f.high) }
    ]
from_by test place count s false is later h =
    let f = later h in record { passes = f.passes; low = omega (arith, f.low); high = omega (arith, f.high) }

pub listed_is_from : (test : SymId → Bool) (place count : ℕ) (s : SymId)
    → is_listed (symbols_from test place count) s ≡ true → IsFrom test place count s
listed_is_from test place zero s h = absurd (cc)
listed_is_from test place (suc count) s h =
    from_by test place count s (test (symbol_at place)) refl (listed_is_from test (suc place) count s) h

-- the integers are not below zero
abbrev pub AreNatural : List ℤ → Type 0
AreNatural [] = Unit {0}
AreNatural (z ∷ integers) = (z ≡ pos (value_of z)) × AreNatural integers

pub with_integers-length : (values : List ℕ) (symbols : List SymId) (integers : List ℤ)
    → length (with_integers values symbols integers) ≡ length values
with_integers-length values [] integers = refl
with_integers-length values (s ∷ symbols) [] = refl
with_integers-length values (s ∷ symbols) (z ∷ integers) =
    with_integers-length (slice_set values s.0 (value_of z)) symbols integers ∙ length-set values s.0 (value_of z)

pub or_no_left : (a b : Bool) → (a || b) ≡ false → a ≡ false
or_no_left true b h = absurd (cc)
or_no_left false b h = refl

pub or_no_right : (a b : Bool) → (a || b) ≡ false → b ≡ false
or_no_right true b h = absurd (cc)
or_no_right false b h = h

pub other_place : (values : List ℕ) (i t v : ℕ) → nat_eq i t ≡ false → get_or (set values i v) t 0 ≡ get_or values t 0
other_place values i t v h = get_or-set_other values i t v 0 (λ (e : t ≡ i). differ i t h (sym e))
  where
    differ : (i t : ℕ) → nat_eq i t ≡ false → i ≡ t → ⊥
    differ i t h e = let yes : nat_eq i t ≡ true = eq-eqb i t e in cc

-- the value of a symbol that is not listed stays
pub with_integers-other : (values : List ℕ) (symbols : List SymId) (integers : List ℤ) (t : ℕ)
    → is_listed symbols (symbol_at t) ≡ false
    → slice_index (with_integers values symbols integers) t ≡ slice_index values t
with_integers-other values [] integers t h = refl
with_integers-other values (s ∷ symbols) [] t h = refl
with_integers-other values (s ∷ symbols) (z ∷ integers) t h =
    with_integers-other (slice_set values s.0 (value_of z)) symbols integers t
    (or_no_right (nat_eq s.0 t) (is_listed symbols (symbol_at t)) h)
    ∙ other_place values s.0 t (value_of z) (or_no_left (nat_eq s.0 t) (is_listed symbols (symbol_at t)) h)

-- no symbol from a later place on is the one of this place
later_apart : (test : SymId → Bool) (place count : ℕ) (b : Bool)
    → is_listed (symbols_from test (suc place) count) (symbol_at place) ≡ b → b ≡ false
later_apart test place count true h = absurd (omega (arith, (listed_is_from test (suc place) count (symbol_at place) h).low))
later_apart test place count false h = refl

back_by : (test : SymId → Bool) (place count : ℕ) (b : Bool) (values : List ℕ) (integers : List ℤ)
    → place + suc count ≤ length values → AreNatural integers
    → ((values : List ℕ) (integers : List ℤ) → suc place + count ≤ length values → AreNatural integers
    → length integers ≡ length (symbols_from test (suc place) count)
    → integers_of (with_integers values (symbols_from test (suc place) count) integers)
    (symbols_from test (suc place) count) ≡ integers)
    → length integers ≡ length (cond b (symbol_at place ∷ symbols_from test (suc place) count)
    (symbols_from test (suc place) count))
    → integers_of (with_integers values
    (cond b (symbol_at place ∷ symbols_from test (suc place) count) (symbols_from test (suc place) count)) integers)
    (cond b (symbol_at place ∷ symbols_from test (suc place) count) (symbols_from test (suc place) count))
    ≡ integers
back_by test place count true values [] within natural later e = absurd (omega arith)
back_by test place count true values (z ∷ integers) within natural later e =
    let rest =
    later (set values place (value_of z)) integers (omega (arith, length-set values place (value_of z))) natural.1
    (omega arith) in
    let stays = with_integers-other (set values place (value_of z)) (symbols_from test (suc place) count) integers place
    (later_apart test place count (is_listed (symbols_from test (suc place) count) (symbol_at place)) refl) in
    let first : pos (slice_index (with_integers (set values place (value_of z)) (symbols_from test (suc place) count)
    integers) place) ≡ z =
    ap pos (stays ∙ get_or-set_same values place (value_of z) 0 (omega arith)) ∙ sym natural.0 in
    ap (λ (y : ℤ). y ∷ integers_of
    (with_integers (set values place (value_of z)) (symbols_from test (suc place) count) integers)
    (symbols_from test (suc place) count)) first
    ∙ ap (λ (zs : List ℤ). z ∷ zs) rest
back_by test place count false values integers within natural later e = later values integers (omega arith) natural e

-- the symbols are those that pass the test from a place on, and the integers are their values
pub integers_back : (test : SymId → Bool) (place count : ℕ) (values : List ℕ) (integers : List ℤ)
    → place + count ≤ length values → AreNatural integers → length integers ≡ length (symbols_from test place count)
    → integers_of (with_integers values (symbols_from test place count) integers) (symbols_from test place count) ≡ integers
integers_back test place zero values [] within natural e = refl
integers_back test place zero values (z ∷ integers) within natural e = absurd (omega arith)
integers_back test place (suc count) values integers within natural e =
    back_by test place count (test (symbol_at place)) values integers within natural
    (λ vs zs w n l. integers_back test (suc place) count vs zs w n l) e

pub lesser_first : (a b : ℕ) (vs ws : List ℕ) → a < b → is_at_most (a ∷ vs) (b ∷ ws) ≡ true
lesser_first a b vs ws h = or_left (nat_lt a b) (nat_eq a b && is_at_most vs ws) (grind (arith, nat_tests))

pub equal_first : (a b : ℕ) (vs ws : List ℕ) → a ≡ b → is_at_most vs ws ≡ true → is_at_most (a ∷ vs) (b ∷ ws) ≡ true
equal_first a b vs ws e h =
    or_right (nat_lt a b) (nat_eq a b && is_at_most vs ws) (both_true (nat_eq a b) (is_at_most vs ws) (eq-eqb a b e) h)
  where
    both_true : (a b : Bool) → a ≡ true → b ≡ true → (a && b) ≡ true
    both_true true b h g = g
    both_true false b h g = absurd (cc)

pub unlisted_first : (a b : ℕ) (vs ws : List ℕ) → a ≤ b → is_at_most vs ws ≡ true → is_at_most (a ∷ vs) (b ∷ ws) ≡ true
unlisted_first a b vs ws le h =
    elim (cases_lt a b) [
      | inl lt ↦ lesser_first a b vs ws lt
      | inr ge ↦ let same : a ≡ b = omega arith in
          equal_first a b vs ws same h
    ]

order_by : (test : SymId → Bool) (place count : ℕ) (w x : List ℕ) (b : Bool) → test (symbol_at place) ≡ b
    → IsUpTo (integers_of w (cond b (symbol_at place ∷ symbols_from test (suc place) count)
    (symbols_from test (suc place) count)))
    (integers_of x (cond b (symbol_at place ∷ symbols_from test (suc place) count)
    (symbols_from test (suc place) count)))
    → (IsUpTo (integers_of w (symbols_from test (suc place) count))
    (integers_of x (symbols_from test (suc place) count))
    → is_at_most (drop (suc place) w) (drop (suc place) x) ≡ true)
    → (test (symbol_at place) ≡ false → slice_index w place ≤ slice_index x place)
    → is_at_most (slice_index w place ∷ drop (suc place) w) (slice_index x place ∷ drop (suc place) x) ≡ true
order_by test place count w x true is h later other =
    elim h [
      | inl lt ↦ lesser_first (slice_index w place) (slice_index x place) (drop (suc place) w) (drop (suc place) x)
          (omega (arith, ints, lt))
      | inr e ↦ let first = e.0 in equal_first (slice_index w place) (slice_index x place) (drop (suc place) w)
          (drop (suc place) x) (omega (arith, ints, first)) (later e.1)
    ]
order_by test place count w x false is h later other =
    unlisted_first (slice_index w place) (slice_index x place) (drop (suc place) w) (drop (suc place) x) (other is) (later h)

ordered_from : (test : SymId → Bool) (place count n : ℕ) (w x : List ℕ) → place + count ≡ n → length w ≡ n → length x ≡ n
    → IsUpTo (integers_of w (symbols_from test place count)) (integers_of x (symbols_from test place count))
    → ((s : SymId) → s.0 < n → test s ≡ false → slice_index w s.0 ≤ slice_index x s.0)
    → is_at_most (drop place w) (drop place x) ≡ true
ordered_from test place zero n w x end lw lx h other =
    ap (λ (vs : List ℕ). is_at_most vs (drop place x)) (drop_all place w (omega arith))
ordered_from test place (suc count) n w x end lw lx h other =
    ap (λ (vs : List ℕ). is_at_most vs (drop place x)) (drop-cons w place 0 (omega arith))
    ∙ ap (λ (vs : List ℕ). is_at_most (slice_index w place ∷ drop (suc place) w) vs) (drop-cons x place 0 (omega arith))
    ∙ order_by test place count w x (test (symbol_at place)) refl h
    (λ g. ordered_from test (suc place) count n w x (omega arith) lw lx g other) (λ no. other (symbol_at place) (omega arith) no)

-- values whose listed ones come first, and whose others are least, come first
pub ordered : (test : SymId → Bool) (n : ℕ) (w x : List ℕ) → length w ≡ n → length x ≡ n
    → IsUpTo (integers_of w (symbols_from test 0 n)) (integers_of x (symbols_from test 0 n))
    → ((s : SymId) → s.0 < n → test s ≡ false → slice_index w s.0 ≤ slice_index x s.0) → is_at_most w x ≡ true
ordered test n w x lw lx h other = ordered_from test 0 n n w x (omega arith) lw lx h other

with_integers-none : (values : List ℕ) (symbols : List SymId) → with_integers values symbols [] ≡ values
with_integers-none values [] = refl
with_integers-none values (s ∷ symbols) = refl

-- there are no more integers
pub with_integers-ended : (values : List ℕ) (symbols : List SymId) (integers : List ℤ) (n : ℕ) → length integers ≤ n
    → with_integers values symbols (drop n integers) ≡ values
with_integers-ended values symbols integers n h =
    ap (with_integers values symbols) (drop_all n integers h) ∙ with_integers-none values symbols
