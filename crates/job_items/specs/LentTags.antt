-- The tags of an injection as the code keeps them.
use denote.Ref.{Bor}
use Rattle.std.specs.Prelude.{ℕ, ℤ, List, map}
use Rattle.job_items.specs.Tags.{Tags}

abbrev pub lent_tag : Bor (List ℕ) × ℤ → List ℕ × ℤ
lent_tag e = (e.0.now, e.1)

abbrev pub lent_tags : List (Bor (List ℕ) × ℤ) → Tags
lent_tags entries = map lent_tag entries
