-- The run of a filter list's node, where each of its fields reads a number.
use Rattle.std.specs.Prelude.{ℕ, ◌≡◌, Bool, if◌then◌else◌, List, [], ◌∷◌, codes, Ok}
use Rattle.table_nodes.specs.declared.field.Field.{Field}
use Rattle.table_nodes.specs.Fields.{cell}
use Rattle.acl_rules.specs.declared.rule.Rule.{Rule}
use Rattle.acl_rules.specs.Covers.{permits}
use Rattle.sefl_meaning.specs.Carried.{Carried, Scene}
use Rattle.model_laws.specs.Outcomes.{Outcome, sent, refused}
use Rattle.model_laws.specs.Passing.{read}

-- the fields read these numbers
abbrev pub AllRead : Scene → List Field → List ℕ → Carried ℕ → Type 0
AllRead at [] [] s = Unit {0}
AllRead at [] (n ∷ ns) s = ⊥
AllRead at (field ∷ fields) [] s = ⊥
AllRead at (field ∷ fields) (n ∷ ns) s = (read at (cell field) s ≡ Ok n) × AllRead at fields ns s

-- a packet that is permitted leaves by port 0 as it came, and one that is denied fails
abbrev pub action_row : Bool → Carried ℕ → Outcome
action_row permits s = if permits then sent (0 ∷ []) s else refused (codes "denied")

abbrev pub filter_row : List Rule → List ℕ → Carried ℕ → Outcome
filter_row rules packet s = action_row (permits rules packet) s
