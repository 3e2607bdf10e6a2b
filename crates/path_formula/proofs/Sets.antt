-- Sets by their tests.
use Rattle.std.proofs.Common.{◌≡◌, ℕ, zero, suc, ◌+◌, ◌-◌, ◌%◌, ◌^◌, ◌<◌, Bool, true, false, ◌&&◌, ◌||◌, nat_le, [], ◌∷◌, refl, ap, ◌∙◌, arith}
use Rattle.std.proofs.Math.Nat.{mod-eq_of_lt, add-mod_right, mod_self}
use Rattle.sn_width.specs.Width.{FitsWidth, wrapped_difference}
use Rattle.sn_ranges.specs.Ranges.{RangeSet, IsSetOf, in_range, is_member}

-- a set has each test that is the same at each number
pub IsSetOf-by : (w : ℕ) (p q : ℕ → Bool) (set : RangeSet) → ((x : ℕ) → p x ≡ q x) → IsSetOf w p set → IsSetOf w q set
IsSetOf-by w p q set e h = record { same_width = h.same_width; canonical = h.canonical; members = λ x. h.members x ∙ e x }

or_none : (x : Bool) → (x || false) ≡ x
or_none true = refl
or_none false = refl

pub is_member-none : (x : ℕ) → is_member [] x ≡ false
unfolding is_member
is_member-none x = refl

pub is_member-one : (first last x : ℕ) → is_member ((first, last) ∷ []) x ≡ (nat_le first x && nat_le x last)
unfolding is_member in_range
is_member-one first last x = or_none (nat_le first x && nat_le x last)

-- subtracting what is left of zero after b is taken away adds b
turned : (m b x : ℕ) → b < m → (x + (m - (0 + (m - b)) % m)) % m ≡ (b + x) % m
turned m zero x lt =
    let whole : (0 + (m - 0)) % m ≡ 0 = ap (λ n. n % m) (omega arith) ∙ mod_self m in
    ap (λ n. (x + (m - n)) % m) whole ∙ ap (λ n. n % m) (omega arith) ∙ add-mod_right x m ∙ ap (λ n. n % m) (omega arith)
turned m (suc b) x lt =
    let part : (0 + (m - suc b)) % m ≡ m - suc b = ap (λ n. n % m) (omega arith) ∙ mod-eq_of_lt (omega arith) in
    ap (λ n. (x + (m - n)) % m) part ∙ ap (λ n. n % m) (omega arith)

pub wrapped_difference-back : (w b x : ℕ) → FitsWidth w b → wrapped_difference w x (wrapped_difference w 0 b) ≡ (b + x) % 2 ^ w
wrapped_difference-back w b x fits = turned (2 ^ w) b x fits
