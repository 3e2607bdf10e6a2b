-- What the tables of names and of patterns keep.
use Rattle.std.specs.Prelude.{ℕ, ◌≡◌, ◌<◌, ◌^◌, List, Option, bytes_eq, length, position}
use Rattle.std.specs.Cmp.Lexicographic.{slice_cmp}
use Rattle.std.specs.List.Sorted.{IsStrictlySortedBy}
use Rattle.std.specs.Map.{lookup, keys_of}
use Rattle.std.specs.Ordering.{nat_cmp, is_eq}

-- few names, ascending by bytes
pub record IsNameTable (names : List (List ℕ)) : Type 0 where
  pub few : length names < 2 ^ 32
  pub ascends : IsStrictlySortedBy (slice_cmp nat_cmp) names

-- the number at a text
abbrev pub at_text : List (List ℕ × ℕ) → List ℕ → Option ℕ
at_text entries text = lookup (λ own. is_eq (slice_cmp nat_cmp text own)) entries

-- each text of the rows has the index of the first row with it, and no other has one
pub record AreIndexes (rows : List (List ℕ × ℕ)) (indexes : List (List ℕ × ℕ)) : Type 0 where
  pub at : (text : List ℕ) → at_text indexes text ≡ position (bytes_eq text) (keys_of rows)
