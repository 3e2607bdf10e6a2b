-- Rows of prefixes, and the longest one that contains an address.
use Rattle.std.specs.Prelude.{ℕ, ◌≡◌, ◌≤◌, ◌<◌, ◌⊎◌, ◌+◌, ◌-◌, ◌*◌, ◌^◌, ◌&&◌, nat_le, nat_lt, if◌then◌else◌, Bool, true, false, List, [], ◌∷◌, Option, None, Some, option_map}
use Rattle.std.specs.List.{AllByRecursion}
use Rattle.fib_model.specs.declared.sweep.Span.{Span}

-- an address, a length and a port
abbrev pub Row : Type 0
Row = ℕ × ℕ × ℕ

-- how many addresses the prefix has
abbrev pub size : Row → ℕ
size r = 2 ^ (32 - r.1)

abbrev pub contains : Row → ℕ → Bool
contains r a = nat_le r.0 a && nat_lt a (r.0 + size r)

-- the bits past the length are 0
abbrev pub IsRow : Row → Type 0
IsRow r = (r.1 ≤ 32) × (k : ℕ) × (r.0 ≡ k * size r) × (r.0 < 4294967296)

-- ---- the longest row that contains the address

abbrev pub longer : Row → Option Row → Row
longer r None = r
longer r (Some x) = if nat_lt r.1 x.1 then x else r

abbrev pub longest : List Row → ℕ → Option Row
longest [] a = None
longest (r ∷ rs) a = if contains r a then Some (longer r (longest rs a)) else longest rs a

abbrev pub fib_port : List Row → ℕ → Option ℕ
fib_port rows a = option_map (λ r. r.2) (longest rows a)

-- ---- in order

-- by the address, and then by the length
abbrev pub order_key : Row → ℕ
order_key r = r.0 * 64 + r.1

abbrev pub InOrder : List Row → Type 0
InOrder [] = Unit {0}
InOrder (r ∷ rs) = AllByRecursion (λ x. order_key r ≤ order_key x) rs × InOrder rs

-- the last row that contains the address, or else the one that was found before
abbrev pub last_row : List Row → ℕ → Option Row → Option Row
last_row [] a found = found
last_row (r ∷ rs) a found = last_row rs a (if contains r a then Some r else found)

-- ---- what both are

abbrev pub Has : List Row → Row → Type 0
Has [] x = ⊥
Has (r ∷ rs) x = (x ≡ r) ⊎ Has rs x

-- of the rows that contain the address this one is the longest; or none contains it
abbrev pub IsBest : List Row → ℕ → Option Row → Type 0
IsBest rows a None = (x : Row) → Has rows x → contains x a ≡ false
IsBest rows a (Some r) = Has rows r × (contains r a ≡ true) × ((x : Row) → Has rows x → contains x a ≡ true → x.1 ≤ r.1)

-- no prefix stands twice
abbrev pub Distinct : List Row → Type 0
Distinct rows = (x y : Row) → Has rows x → Has rows y → x.0 ≡ y.0 → x.1 ≡ y.1 → x ≡ y

-- the addresses of a row
abbrev pub span_of : Row → Span
span_of r = record { first = r.0; last = r.0 + size r - 1; port = r.2 }

-- ---- the longest rows first

abbrev pub LongestFirst : List Row → Type 0
LongestFirst [] = Unit {0}
LongestFirst (r ∷ rs) = AllByRecursion (λ x. x.1 ≤ r.1) rs × LongestFirst rs

-- the first row that contains the address
abbrev pub first_row : List Row → ℕ → Option Row
first_row [] a = None
first_row (r ∷ rs) a = if contains r a then Some r else first_row rs a
