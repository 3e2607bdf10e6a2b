-- Which packets pass a pattern: each of its primitives is asked, one after another, and the first fault counts.
use Rattle.std.specs.Prelude.{ℕ, ◌%◌, ◌^◌, ◌==◌, ◌&&◌, ◌||◌, nat_le, Bool, true, List, [], ◌∷◌, Result, Ok}
use Rattle.sn_width.specs.declared.faults.LayoutFault.{LayoutFault}
use Rattle.sefl_syntax.specs.declared.reference.Target.{Target}
use Rattle.click_elements.specs.declared.class.Primitive.{Primitive}
use Rattle.click_elements.specs.declared.class.Primitive.TheVariants.{All, Host, Net, Protocol, Port}
use Rattle.table_nodes.specs.declared.field.Field.{Field}
use Rattle.table_nodes.specs.declared.field.Field.TheVariants as field
use Rattle.table_nodes.specs.Fields.{cell}
use Rattle.click_elements.specs.Patterns.{address_field, port_field}
use Rattle.cell_stacks.specs.Outcome.{and_then, on_ok}
use Rattle.job_items.specs.AtomRules.{width_of}
use Rattle.sefl_meaning.specs.Carried.{Carried, Scene, read_at}

module _ (at : Scene) where
  -- the value that a cell reads
  abbrev pub read : Target → Carried ℕ → Result ℕ LayoutFault
  read target s = read_at at (width_of target) target s

  -- the field has the number, or what of it fits
  abbrev pub has_number : Field → ℕ → Carried ℕ → Result Bool LayoutFault
  has_number f n s = on_ok (λ m. m == n % 2 ^ width_of (cell f)) (read (cell f) s)

  abbrev pub lies_between : Field → ℕ → ℕ → Carried ℕ → Result Bool LayoutFault
  lies_between f first last s = on_ok (λ m. nat_le first m && nat_le m last) (read (cell f) s)

  -- TCP or UDP
  abbrev pub has_ports : Carried ℕ → Result Bool LayoutFault
  has_ports s = on_ok (λ m. m == 6 || m == 17) (read (cell field.Protocol) s)

  -- both, the second one asked whatever the first one is
  abbrev pub both : Result Bool LayoutFault → Result Bool LayoutFault → Result Bool LayoutFault
  both one other = and_then one (λ one. on_ok (λ other. one && other) other)

  abbrev pub passes_one : Primitive → Carried ℕ → Result Bool LayoutFault
  passes_one All s = Ok true
  passes_one (Host direction address) s = has_number (address_field direction) address s
  passes_one (Net direction first last) s = lies_between (address_field direction) first last s
  passes_one (Protocol number) s = has_number field.Protocol number s
  passes_one (Port direction port) s = both (has_ports s) (has_number (port_field direction) port s)

  abbrev pub passes : List Primitive → Carried ℕ → Result Bool LayoutFault
  passes [] s = Ok true
  passes (p ∷ ps) s = both (passes_one p s) (passes ps s)
