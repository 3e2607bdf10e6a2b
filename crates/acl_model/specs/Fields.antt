-- What the words of a rule say of its fields.
use Rattle.std.specs.Prelude.{ℕ, ◌+◌, ◌-◌, ◌==◌, Bool, bytes_eq, codes, nat_le, if◌then◌else◌, List, take, drop, Option, None, Some, option_map}
use Rattle.std.specs.List.{position_from}
use Rattle.sefl_syntax.specs.declared.net.TableKind.TheVariants.{Fib}
use Rattle.table_lines.specs.Numbers.{at_most, decimal}
use Rattle.table_lines.specs.Addresses.{key_of, size_of}
use Rattle.acl_rules.specs.Packets.{Range}

-- a decimal number of at most five digits with no leading zero, if it is not past the limit
abbrev pub limited : ℕ → List ℕ → Option ℕ
limited limit word = at_most limit (decimal 5 word)

abbrev pub is_any : List ℕ → Bool
is_any word = bytes_eq word (codes "any")

-- the range of one number
abbrev pub one : Option ℕ → Option Range
one number = option_map (λ n. (n, n)) number

abbrev pub protocol_of : List ℕ → Option Range
protocol_of word = if is_any word then Some (0, 255) else one (limited 255 word)

-- the addresses of a prefix, from its first one on
abbrev pub span_of : ℕ × ℕ → Range
span_of key = (key.0, key.0 + size_of key.1 - 1)

abbrev pub addresses_of : List ℕ → Option Range
addresses_of word = option_map span_of (key_of Fib word)

-- two numbers as a range, where the first is not greater than the last
abbrev pub ordered : Option ℕ → Option ℕ → Option Range
ordered None last = None
ordered (Some first) None = None
ordered (Some first) (Some last) = if nat_le first last then Some (first, last) else None

abbrev pub is_hyphen : ℕ → Bool
is_hyphen c = c == 45

-- one port, or two joined by the first hyphen
abbrev pub ports_at : List ℕ → Option ℕ → Option Range
ports_at word None = one (limited 65535 word)
ports_at word (Some at) = ordered (limited 65535 (take at word)) (limited 65535 (drop (at + 1) word))

abbrev pub ports_of : List ℕ → Option Range
ports_of word = if is_any word then Some (0, 65535) else ports_at word (position_from is_hyphen 0 word)
