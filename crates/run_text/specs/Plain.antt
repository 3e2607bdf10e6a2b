-- Values that are read back as they were written.
use Rattle.std.specs.Prelude.{◌≡◌, ℕ, ◌+◌, ◌<◌, ◌^◌, pos, negsuc, List}
use Rattle.std.specs.Ordering.{nat_cmp}
use Rattle.std.specs.Cmp.Lexicographic.{slice_cmp}
use Rattle.std.specs.declared.cmp.Ordering.TheVariants.{Greater}
use Rattle.serde_json.specs.Data.{Num, unsigned, negative, float, Data, null, boolean, number, string, array, object, Items, no_items, item, Members, no_members, member}

-- the key is behind these
abbrev pub IsAbove : List ℕ → Members → Type 0
IsAbove k no_members = Unit {0}
IsAbove k (member l e ms) = (slice_cmp nat_cmp k l ≡ Greater) × IsAbove k ms

-- the later keys are behind the first ones
abbrev pub AllAbove : Members → Members → Type 0
AllAbove found no_members = Unit {0}
AllAbove found (member k d ms) = IsAbove k found × AllAbove found ms

abbrev pub IsSorted : Members → Type 0
IsSorted no_members = Unit {0}
IsSorted (member k d ms) = AllAbove (member k d no_members) ms × IsSorted ms

-- of 64 bits, a negative one below 0, and no float
abbrev pub IsPlainNumber : Num → Type 0
IsPlainNumber (unsigned n) = n < 2 ^ 64
IsPlainNumber (negative (pos n)) = ⊥
IsPlainNumber (negative (negsuc n)) = n + 1 < 2 ^ 63
IsPlainNumber (float x) = ⊥

-- all numbers are of 64 bits, and the keys of each object ascend
abbrev mutual
  pub IsPlain : Data → Type 0
  IsPlain null = Unit {0}
  IsPlain (boolean b) = Unit {0}
  IsPlain (number n) = IsPlainNumber n
  IsPlain (string s) = Unit {0}
  IsPlain (array ds) = ArePlain ds
  IsPlain (object ms) = IsSorted ms × HasPlain ms

  pub ArePlain : Items → Type 0
  ArePlain no_items = Unit {0}
  ArePlain (item d ds) = IsPlain d × ArePlain ds

  pub HasPlain : Members → Type 0
  HasPlain no_members = Unit {0}
  HasPlain (member k d ms) = IsPlain d × HasPlain ms
