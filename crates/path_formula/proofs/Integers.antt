-- Bounds on numbers, as tests of the numbers.
use Rattle.std.proofs.Common.{◌≡◌, ℕ, ◌+◌, ◌-◌, ◌<◌, ◌≤◌, ℤ, pos, ◌+ℤ◌, ◌-ℤ◌, neg_ℤ, Bool, ◌&&◌, ◌||◌, nat_le, nat_lt, arith}
use Rattle.std.specs.Prelude.{int_le, int_lt}
use Rattle.std.proofs.lemmas.Bool.Decides.{nat_tests}
use Rattle.std.proofs.lemmas.Int.{ints}
use Rattle.sn_width.specs.Rel.{relates}
use Rattle.sn_width.specs.declared.rel.Rel.{Rel}
use Rattle.sn_width.specs.declared.rel.Rel.TheVariants.{Eq, Ne, Lt, Le, Gt, Ge}

-- zero less a number is at most minus another
pub lower_met : (x n : ℕ) → int_le (pos 0 -ℤ pos x) (neg_ℤ (pos n)) ≡ nat_le n x
lower_met x n = grind (arith, ints, nat_tests)

-- a number less zero is at most another
pub upper_met : (x n : ℕ) → int_le (pos x -ℤ pos 0) (pos n) ≡ nat_le x n
upper_met x n = grind (arith, ints, nat_tests)

pub weak_met : (x y : ℕ) (a b : ℤ) → int_le (pos x -ℤ pos y) (b -ℤ a) ≡ int_le (pos x +ℤ a) (pos y +ℤ b)
weak_met x y a b = grind (arith, ints, nat_tests)

pub strict_met : (x y : ℕ) (a b : ℤ) → int_le (pos x -ℤ pos y) ((b -ℤ a) -ℤ pos 1) ≡ int_lt (pos x +ℤ a) (pos y +ℤ b)
strict_met x y a b = grind (arith, ints, nat_tests)

pub low_met : (x c w : ℕ) → c < w → int_le (pos x -ℤ pos 0) ((pos w -ℤ pos c) -ℤ pos 1) ≡ nat_lt (c + x) w
low_met x c w fits = grind (arith, ints, nat_tests)

pub high_met : (x c w : ℕ) → c < w → int_le (pos 0 -ℤ pos x) (pos c -ℤ pos w) ≡ nat_le w (c + x)
high_met x c w fits = grind (arith, ints, nat_tests)

pub low_value : (x c : ℕ) → pos x +ℤ pos c ≡ pos (c + x)
low_value x c = omega (arith, ints)

pub high_value : (x c w : ℕ) → c < w → w ≤ c + x → pos x +ℤ (pos c -ℤ pos w) ≡ pos (c + x - w)
high_value x c w fits over = omega (arith, ints)

-- the relation between two integers
abbrev pub int_relates : Rel → ℤ → ℤ → Bool
int_relates Eq a b = int_le a b && int_le b a
int_relates Ne a b = int_lt a b || int_lt b a
int_relates Lt a b = int_lt a b
int_relates Le a b = int_le a b
int_relates Gt a b = int_lt b a
int_relates Ge a b = int_le b a

pub int_relates-pos : (rel : Rel) (m n : ℕ) → int_relates rel (pos m) (pos n) ≡ relates rel m n
int_relates-pos Eq m n = grind (arith, ints, nat_tests)
int_relates-pos Ne m n = grind (arith, ints, nat_tests)
int_relates-pos Lt m n = grind (arith, ints, nat_tests)
int_relates-pos Le m n = grind (arith, ints, nat_tests)
int_relates-pos Gt m n = grind (arith, ints, nat_tests)
int_relates-pos Ge m n = grind (arith, ints, nat_tests)
