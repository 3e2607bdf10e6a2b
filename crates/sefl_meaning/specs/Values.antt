-- Values of cells and truths of tests, as the operations on them: the meaning is written once, over these.
use Rattle.std.specs.Prelude.{ℕ, Bool, true, not, ◌+◌, ◌%◌, ◌^◌, nat_lt, List, slice_get, unwrap_or}
use Rattle.std.specs.List.{list_all, list_any}
use Rattle.sn_width.specs.Width.{wrapped_sum, wrapped_difference}
use Rattle.sn_width.specs.Rel.{relates}
use Rattle.sn_width.specs.declared.rel.Rel.{Rel}
use Rattle.sn_ranges.specs.Ranges.{is_member}

-- the operations on values of a kind V and truths of a kind F; the first number of each is the width
pub record Values (V F : Type 0) : Type 0 where
  pub constant : ℕ → ℕ → V
  pub plus : ℕ → V → V → V
  pub minus : ℕ → V → V → V
  -- the unknown field of that number, and the choice of that number on a walk, from 0
  pub unknown : ℕ → ℕ → V
  pub choice : ℕ → ℕ → V
  pub compare : ℕ → Rel → V → V → F
  pub member : ℕ → V → List (ℕ × ℕ) → F
  pub always : F
  pub all_of : List F → F
  pub any_of : List F → F
  pub negation : F → F

-- the number at a place of a list; 0 past its end
abbrev pub number_at : List ℕ → ℕ → ℕ
number_at numbers place = unwrap_or (slice_get numbers place) 0

-- the number fits the width
abbrev pub number_fits : ℕ → ℕ → Bool
number_fits width n = nat_lt n (2 ^ width)

-- numbers and truths: the list is a packet with its choices, which stand behind this many unknown fields
abbrev pub numbers : List ℕ → ℕ → Values ℕ Bool
numbers v unknowns = record {
  constant = λ w n. n % 2 ^ w;
  plus = wrapped_sum;
  minus = wrapped_difference;
  unknown = λ w i. number_at v i % 2 ^ w;
  choice = λ w k. number_at v (unknowns + k) % 2 ^ w;
  compare = λ w rel a b. relates rel a b;
  member = λ w a ranges. is_member ranges a;
  always = true;
  all_of = list_all (λ truth. truth);
  any_of = list_any (λ truth. truth);
  negation = not;
}
