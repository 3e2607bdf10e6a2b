-- How the boxes of a grown job share out the addresses.
use Rattle.std.specs.Prelude.{ℕ, zero, suc, ◌+◌, ◌-◌, ◌*◌, ◌/◌, ◌%◌, ◌^◌, ◌==◌, ◌≤◌, if◌then◌else◌}
use Rattle.job_gen.specs.declared.split.Span.{Span}
use Rattle.job_gen.specs.declared.split.Split.{Split}

-- the next number of the sequence: a linear congruence modulo 2^64, with Knuth's constants for MMIX
abbrev pub next : ℕ → ℕ
next x = (x * 6364136223846793005 + 1442695040888963407) % 2 ^ 64

-- the number of the sequence after this many steps
abbrev pub state : ℕ → ℕ → ℕ
state seed zero = seed
state seed (suc n) = next (state seed n)

-- what is drawn for a box
abbrev pub drawn : ℕ → ℕ → ℕ
drawn seed box = state seed (suc box) / 8589934592

-- all IPv4 addresses
abbrev pub all_addresses : Span
all_addresses = record { first = 0; size = 4294967296 }

-- the remainder, and 0 where there is nothing to divide by
abbrev pub remainder : ℕ → ℕ → ℕ
remainder n zero = 0
remainder n (suc by) = n % suc by

-- a span is cut behind its first quarter, and up to half of it later
abbrev pub split_at : ℕ → Span → Split
split_at drawn span =
    record { span = span; cut = span.first + span.size / 4 + remainder drawn (span.size / 2) }

-- what is below the cut, and the rest
abbrev pub lower : Split → Span
lower s = record { first = s.span.first; size = s.cut - s.span.first }

abbrev pub upper : Split → Span
upper s = record { first = s.cut; size = s.span.first + s.span.size - s.cut }

-- a box with an odd number has what is below its parent's cut, one with an even number the rest
abbrev pub part : ℕ → Split → Span
part box parent = if box % 2 == 1 then lower parent else upper parent

-- box 0 has all addresses, box j + 1 a part of those of its parent, which is box j / 2
abbrev pub span_within : ℕ → ℕ → ℕ → Span
span_within seed depth zero = all_addresses
span_within seed zero (suc j) = all_addresses
span_within seed (suc depth) (suc j) =
    part (suc j) (split_at (drawn seed (j / 2)) (span_within seed depth (j / 2)))

-- no box is deeper in the tree than its number
abbrev pub span_of : ℕ → ℕ → Span
span_of seed box = span_within seed box box

abbrev pub split_of : ℕ → ℕ → Split
split_of seed box = split_at (drawn seed box) (span_of seed box)

-- the cut lies in the span, and the span among the addresses
pub record IsWithin (s : Split) : Type 0 where
  pub from : s.span.first ≤ s.cut
  pub to : s.cut ≤ s.span.first + s.span.size
  pub bounded : s.span.first + s.span.size ≤ 2 ^ 32
