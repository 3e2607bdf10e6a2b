-- What an output took.
use Rattle.std.specs.Prelude.{ℕ, ◌≡◌, ◌≤◌, List, length, take, Option, None, Some}
use Rattle.std.specs.Io.KnownBytes.{append_known}

-- where it answers a number, so many of the first bytes; else nothing
abbrev pub HasWritten : Option (List ℕ) → Option (List ℕ) → List ℕ → Option ℕ → Type 0
HasWritten old new bytes (Some count) = (count ≤ length bytes) × (new ≡ append_known old (take count bytes))
HasWritten old new bytes None = new ≡ old
