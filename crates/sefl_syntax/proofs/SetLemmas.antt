-- Sets of ranges: of clipped ones, and of those that a list keeps.
use Rattle.std.proofs.Common.{◌≡◌, ℕ, ◌<◌, ◌≤◌, ◌^◌, Bool, List, sym, ap, ◌∙◌, subst, arith}
use Rattle.std.proofs.lemmas.Nat.{pow_pos}
use Rattle.sn_width.specs.Width.{FitsWidth, max_value}
use Rattle.sn_ranges.specs.Ranges.{Range, RangeSet, is_member}
use Rattle.sn_ranges.specs.Sets.{set_of}
use Rattle.sefl_syntax.specs.RangeLists.{IsKept}

module _ (same : (width : ℕ) (test other : ℕ → Bool) → ((value : ℕ) → FitsWidth width value → test value ≡ other value) → set_of width test ≡ set_of width other) where
  pub the_clipped : (w : ℕ) (lent kept ranges : List Range) (set : RangeSet) → lent ≡ kept → set ≡ set_of w (is_member lent)
      → ((value : ℕ) → value < 2 ^ w → is_member kept value ≡ is_member ranges value) → set ≡ set_of w (is_member ranges)
  the_clipped w lent kept ranges set e is members =
      is ∙ ap (λ (l : List Range). set_of w (is_member l)) e ∙ same w (is_member kept) (is_member ranges) (λ value fits. members value fits)

-- a set that is made is that of its own width
pub own_width : (w : ℕ) (ranges : List Range) (set : RangeSet) → set ≡ set_of w (is_member ranges) → IsKept ranges set
own_width w ranges set is = is ∙ ap (λ (k : ℕ). set_of k (is_member ranges)) (sym (ap (λ (s : RangeSet). s.width) is))

-- a set that is kept is that of the width which it has
pub at_width : (w : ℕ) (ranges : List Range) (set : RangeSet) → IsKept ranges set → set.width ≡ w → set ≡ set_of w (is_member ranges)
at_width w ranges set kept e = kept ∙ ap (λ (k : ℕ). set_of k (is_member ranges)) e

-- a number up to the greatest of the width fits
pub fits_up_to : (w v m n : ℕ) → v ≡ w → m ≡ max_value v → n ≤ m → FitsWidth w n
fits_up_to w v m n e h le = let p = pow_pos v in subst (λ k. FitsWidth k n) e (omega (arith, h))

-- what the set says of a number that fits, the list says too
module _ (members : (width : ℕ) (test : ℕ → Bool) (value : ℕ) → FitsWidth width value → is_member (set_of width test).pairs value ≡ test value) where
  pub said_by_the_set : (ranges : List Range) (set : RangeSet) (value : ℕ) (b : Bool) → IsKept ranges set → FitsWidth set.width value
      → b ≡ is_member set.pairs value → b ≡ is_member ranges value
  said_by_the_set ranges set value b kept fits is =
      is ∙ ap (λ (s : RangeSet). is_member s.pairs value) kept ∙ members set.width (is_member ranges) value fits
