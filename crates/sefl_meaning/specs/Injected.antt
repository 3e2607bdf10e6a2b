-- The injected packet: its unknown fields, what it carries at its start, and which numbers it may have.
use Rattle.std.specs.Prelude.{ℕ, ◌+◌, ◌≡◌, Bool, true, List, [], ◌∷◌, length, map, Option, None, Some, Result, Ok}
use Rattle.std.specs.List.{AllByRecursion}
use Rattle.sn_width.specs.Width.{FitsWidth}
use Rattle.sn_width.specs.declared.faults.LayoutFault.{LayoutFault}
use Rattle.sefl_syntax.specs.declared.reference.Addr.{Addr}
use Rattle.sefl_syntax.specs.declared.job.RawField.{RawField}
use Rattle.sefl_syntax.specs.Trees.{InjectionTree, CondTree}
use Rattle.cell_stacks.specs.Outcome.{and_then}
use Rattle.job_items.specs.AtomRules.{width_of}
use Rattle.sefl_meaning.specs.Values.{Values, numbers}
pub use Rattle.net_check.specs.Network.{unknown_count, unknown_width, unknown_widths}
use Rattle.sefl_meaning.specs.Network.{Network, Entry}
use Rattle.sefl_meaning.specs.Carried.{Carried, Scene, scene_at, nothing}
use Rattle.sefl_meaning.specs.Terms.{truth_in}
use Rattle.sefl_meaning.specs.Steps.{allocated, assigned, tag_set}
use Rattle.sefl_meaning.specs.Runs.{starting}
use Rattle.sefl_meaning.specs.Walks.{Trail, Passage, shown, enter}

-- the given value, or the unknown field of that number
abbrev pub field_value : {V F : Type 0} → Values V F → ℕ → ℕ → Option ℕ → V
field_value o width number None = o.unknown width number
field_value o width number (Some n) = o.constant width n

module _ {V F : Type 0} (o : Values V F) (at : Scene) where
  abbrev pub with_tags : List (List ℕ × Addr) → Carried V → Result (Carried V) LayoutFault
  with_tags [] s = Ok s
  with_tags (line ∷ lines) s = and_then (tag_set at line.0 line.1 s) (with_tags lines)

  -- a field is one cell
  abbrev pub with_field : ℕ → RawField → Carried V → Result (Carried V) LayoutFault
  with_field number f s =
      and_then (allocated at f.target s) (assigned at f.target (field_value o (width_of f.target) number f.value))

  -- the first unknown field has this number
  abbrev pub with_fields : ℕ → List RawField → Carried V → Result (Carried V) LayoutFault
  with_fields number [] s = Ok s
  with_fields number (f ∷ fs) s = and_then (with_field number f s) (with_fields (number + length (unknown_width f)) fs)

  -- what the packet carries at the port where it is injected: the tags and then the fields, in text order
  abbrev pub injected : InjectionTree → Result (Carried V) LayoutFault
  injected i = and_then (with_tags i.tags nothing) (with_fields 0 i.fields)

-- a list has at least these numbers, each fitting its width
abbrev pub FitWidths : List ℕ → List ℕ → Type 0
FitWidths [] v = Unit {0}
FitWidths (w ∷ ws) [] = ⊥
FitWidths (w ∷ ws) (n ∷ v) = FitsWidth w n × FitWidths ws v

abbrev pub IsTrueIn : Scene → Values ℕ Bool → Carried ℕ → CondTree → Type 0
IsTrueIn at o s test = truth_in o at test s ≡ Ok true

-- the packet starts with what it carries then, and each test is true
pub record Starts (net : Network) (i : Entry) (v : List ℕ) (s : Carried ℕ) : Type 0 where
  pub fits : FitWidths (unknown_widths i.own.fields) v
  pub carries : injected (numbers v (unknown_count i)) (scene_at net i.node) i.own ≡ Ok s
  pub holds : AllByRecursion (IsTrueIn (scene_at net i.node) (numbers v (unknown_count i)) s) i.own.tests

-- a packet meets the injection
abbrev pub Meets : Network → Entry → List ℕ → Type 0
Meets net i v = (s : Carried ℕ) × Starts net i v s

-- all walks of a packet that starts so
abbrev pub passages_from : Network → Entry → List ℕ → ℕ → Carried ℕ → List Passage
passages_from net i v hops s = enter net v (unknown_count i) hops i.node i.own.port (starting s)

-- what they show
abbrev pub walks_from : Network → Entry → List ℕ → ℕ → Carried ℕ → List Trail
walks_from net i v hops s = map shown (passages_from net i v hops s)
