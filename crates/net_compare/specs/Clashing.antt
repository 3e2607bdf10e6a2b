-- Paths that clash, as the code finds them.
use Rattle.std.specs.Prelude.{ℕ, ◌+◌, List, Option, None, Some}
use denote.Ref.{Bor}
use Rattle.compare_meaning.specs.Clashes.{Begins, FitsAll, IsFirstClash, IsFirstWith, NoneClash}
use Rattle.compare_meaning.specs.Paths.{DeliveredPath}
use Rattle.net_compare.specs.declared.delivery.Delivery.{Delivery}
use Rattle.net_compare.specs.Saying.{seen_path}

-- a path with another number
abbrev pub numbered_by : ℕ → DeliveredPath → DeliveredPath
numbered_by number p = record { number = number; exit = p.exit; heads = p.heads; condition = p.condition }

abbrev pub numbered_path : ℕ × Bor Delivery → DeliveredPath
numbered_path d = numbered_by d.0 (seen_path d.1.now)

-- a path whose number is counted on from this one
abbrev pub shifted : ℕ → DeliveredPath → DeliveredPath
shifted shift p = numbered_by (p.number + shift) p

-- the widths of its symbols begin these
abbrev pub IsWithin : List ℕ → DeliveredPath → Type 0
IsWithin widths p = Begins p.condition.widths widths

-- the number of the first that clashes with it, or none does
abbrev pub TellsFirstWith : DeliveredPath → List DeliveredPath → Option ℕ → Type 0
TellsFirstWith p qs None = FitsAll p qs
TellsFirstWith p qs (Some number) = IsFirstWith p qs number

-- the numbers of the first two that clash, or none do
abbrev pub TellsClash : List DeliveredPath → Option (ℕ × ℕ) → Type 0
TellsClash ps None = NoneClash ps
TellsClash ps (Some c) = IsFirstClash ps c.0 c.1
