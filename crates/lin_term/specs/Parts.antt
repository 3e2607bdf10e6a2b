-- What the parts of a term are seen as.
use Rattle.std.specs.Prelude.{List, [], ◌∷◌}
use Rattle.lin_term.specs.Terms.{Part}
use Rattle.lin_term.specs.declared.parts.Stored.{Stored}
use Rattle.lin_term.specs.declared.parts.Stored.TheVariants as stored

-- the parts, in their order
abbrev pub list_of : Stored → List Part
list_of stored.Nothing = []
list_of (stored.One part) = part ∷ []
list_of (stored.Many list) = list.items
