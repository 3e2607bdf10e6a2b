-- The tags of an injection and the addresses that they have.
use Rattle.std.specs.Prelude.{ℕ, ℤ, ◌+ℤ◌, if◌then◌else◌, List, [], ◌∷◌, Option, Some, None, option_map}
use Rattle.std.specs.Ordering.{nat_cmp}
use Rattle.std.specs.Cmp.Lexicographic.{slice_cmp}
use Rattle.std.specs.Map.{lookup}
use Rattle.std.specs.BTreeMap.{is_at, insert_entry}
use Rattle.sn_width.specs.Address.{is_address}
use Rattle.sefl_syntax.specs.declared.reference.Addr.{Addr}

-- tags with their addresses, each once, ascending by bytes
abbrev pub Tags : Type 0
Tags = List (List ℕ × ℤ)

abbrev pub tag_address : Tags → List ℕ → Option ℤ
tag_address tags name = lookup (is_at (slice_cmp nat_cmp name)) tags

-- the address that a tag and an offset stand for; none where there is no such tag
abbrev pub resolved_by : Tags → Option (List ℕ) → ℤ → Option ℤ
resolved_by tags None offset = Some offset
resolved_by tags (Some name) offset = option_map (λ base. base +ℤ offset) (tag_address tags name)

abbrev pub resolved : Tags → Addr → Option ℤ
resolved tags addr = resolved_by tags addr.tag addr.offset

abbrev pub with_address : Tags → List ℕ → Option ℤ → Tags
with_address tags name None = tags
with_address tags name (Some a) = if is_address a then insert_entry (slice_cmp nat_cmp) tags name a else tags

-- with the tag of a line, which is made where it has an address in range; it takes the place of one of its name
abbrev pub with_tag : Tags → List ℕ × Addr → Tags
with_tag tags line = with_address tags line.0 (resolved tags line.1)

abbrev pub tags_after : Tags → List (List ℕ × Addr) → Tags
tags_after tags [] = tags
tags_after tags (line ∷ lines) = tags_after (with_tag tags line) lines
