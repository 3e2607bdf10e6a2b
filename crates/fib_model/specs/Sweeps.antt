-- Ranges of numbers with ports, swept from the least number on.
use Rattle.std.specs.Prelude.{ℕ, ◌≡◌, ◌≤◌, ◌&&◌, nat_le, nat_lt, if◌then◌else◌, Bool, List, [], ◌∷◌, reverse, Option, None, Some, option_map, unwrap_or, slice_get}
use Rattle.std.specs.List.{AllByRecursion}
use Rattle.std.specs.declared.alloc.Global.{Global}
use Rattle.std.specs.declared.vec.Vec.{Vec}
use Rattle.sn_ranges.specs.Ranges.{is_member}
use Rattle.table_nodes.specs.TableNodes.{is_port}
use Rattle.fib_model.specs.declared.sweep.Span.{Span}
use Rattle.fib_model.specs.declared.sweep.Open.{Open}
use Rattle.fib_model.specs.declared.sweep.Sweep.{Sweep}

abbrev pub covers : Span → ℕ → Bool
covers span a = nat_le span.first a && nat_le a span.last

-- the port of the last span that covers the number, or else what was found before
abbrev pub last_port : List Span → ℕ → Option ℕ → Option ℕ
last_port [] a found = found
last_port (span ∷ spans) a found = last_port spans a (if covers span a then Some span.port else found)

-- each span begins no earlier than the one before it, and no earlier than the number
abbrev pub StartFrom : ℕ → List Span → Type 0
StartFrom least [] = Unit {0}
StartFrom least (span ∷ spans) = (least ≤ span.first) × StartFrom span.first spans

-- the port of the first span, of those that are still open, that reaches to the number; the last one opened first
abbrev pub top_port : List Open → ℕ → Option ℕ
top_port [] a = None
top_port (p ∷ ps) a = if nat_le a p.last then Some p.port else top_port ps a

abbrev pub first_of : List Open → Option Open
first_of [] = None
first_of (p ∷ ps) = Some p

abbrev pub others_of : List Open → List Open
others_of [] = []
others_of (p ∷ ps) = ps

-- the ranges of a port
abbrev pub set_at : List (Vec (ℕ × ℕ) Global) → ℕ → List (ℕ × ℕ)
set_at sets port = unwrap_or (option_map (λ set. set.items) (slice_get sets port)) []

-- where the port of each number is known, each set holds the numbers of its port below the start
abbrev pub Fills : (ℕ → Option ℕ) → Sweep → Type 0
Fills whole s = (a q : ℕ) → is_member (set_at s.sets.items q) a ≡ (nat_lt a s.start && is_port (whole a) q)

-- and from the start on, the port is what the rest makes of the spans that are open
abbrev pub Goes : (ℕ → Option ℕ) → (ℕ → Option ℕ → Option ℕ) → Sweep → Type 0
Goes whole rest s = Fills whole s × ((a : ℕ) → s.start ≤ a → whole a ≡ rest a (top_port (reverse s.pending.items) a))

-- no range is reversed
abbrev pub AreOrdered : List (Vec (ℕ × ℕ) Global) → Type 0
AreOrdered sets = (q : ℕ) → AllByRecursion (λ range. range.0 ≤ range.1) (set_at sets q)
