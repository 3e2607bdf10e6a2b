-- Rows that an ordered map finds.
use Rattle.std.specs.Prelude.{ℕ, List, Option}
use Rattle.std.specs.Map.{lookup}
use Rattle.std.specs.Ordering.{is_eq, nat_cmp, ordering_then}
use Rattle.std.specs.declared.cmp.Ordering.{Ordering}

-- by the address, and then by how many of its bits count
abbrev pub key_cmp : ℕ × ℕ → ℕ × ℕ → Ordering
key_cmp a b = ordering_then (nat_cmp a.0 b.0) (nat_cmp a.1 b.1)

-- what the map has at a key
abbrev pub found_at : {V : Type 0} → List ((ℕ × ℕ) × V) → ℕ × ℕ → Option V
found_at entries key = lookup (λ own. is_eq (key_cmp key own)) entries
