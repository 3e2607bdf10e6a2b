-- The conditions of patterns.
use Rattle.std.specs.Prelude.{ℕ, List, [], ◌∷◌, ◌++◌}
use Rattle.sn_width.specs.declared.rel.Rel.TheVariants.{Eq}
use Rattle.sefl_syntax.specs.Trees.{CondTree, always, compare, member, all_of, constant, reading}
use Rattle.sefl_syntax.specs.Views.{conds_of}
use Rattle.click_elements.specs.declared.class.Direction.{Direction}
use Rattle.click_elements.specs.declared.class.Direction.TheVariants.{Source, Destination}
use Rattle.click_elements.specs.declared.class.Primitive.{Primitive}
use Rattle.click_elements.specs.declared.class.Primitive.TheVariants.{All, Host, Net, Protocol, Port}
use Rattle.table_nodes.specs.declared.field.Field.{Field}
use Rattle.table_nodes.specs.declared.field.Field.TheVariants as field
use Rattle.table_nodes.specs.Fields.{cell}

abbrev pub address_field : Direction → Field
address_field Source = field.SourceAddress
address_field Destination = field.DestinationAddress

abbrev pub port_field : Direction → Field
port_field Source = field.SourcePort
port_field Destination = field.DestinationPort

abbrev pub equals : Field → ℕ → CondTree
equals f n = compare Eq (reading (cell f)) (constant n)

abbrev pub within : Field → ℕ → ℕ → CondTree
within f first last = member (reading (cell f)) ((first, last) ∷ [])

-- the protocol has ports: TCP or UDP
abbrev pub is_ported : CondTree
is_ported = member (reading (cell field.Protocol)) ((6, 6) ∷ (17, 17) ∷ [])

-- a port is looked at where the protocol has ports
abbrev pub tests_of : Primitive → List CondTree
tests_of All = always ∷ []
tests_of (Host direction address) = equals (address_field direction) address ∷ []
tests_of (Net direction first last) = within (address_field direction) first last ∷ []
tests_of (Protocol number) = equals field.Protocol number ∷ []
tests_of (Port direction port) = is_ported ∷ equals (port_field direction) port ∷ []

abbrev pub all_tests : List Primitive → List CondTree
all_tests [] = []
all_tests (p ∷ ps) = tests_of p ++ all_tests ps

-- one test, or all of several
abbrev pub joined : List CondTree → CondTree
joined [] = all_of (conds_of [])
joined (c ∷ []) = c
joined (c ∷ d ∷ cs) = all_of (conds_of (c ∷ d ∷ cs))

abbrev pub pattern_test : List Primitive → CondTree
pattern_test ps = joined (all_tests ps)
