-- What a packet carries, as it is shown; and the value that an injection gives a field.
use Rattle.std.specs.Prelude.{◌≡◌, ℕ, ℤ, List, ◌∷◌, ◌++◌, map, length, Option}
use Rattle.std.specs.List.{flat_map}
use Rattle.sn_width.specs.declared.ids.NodeId.{NodeId}
use Rattle.sn_width.specs.declared.ids.NameId.{NameId}
use Rattle.sn_width.specs.declared.ids.TagId.{TagId}
use Rattle.sefl_syntax.specs.declared.job.RawField.{RawField}
use Rattle.sefl_syntax.specs.declared.reference.Target.{Target}
use Rattle.sefl_syntax.specs.Trees.{InjectionTree}
use Rattle.job_items.specs.AtomRules.{width_of}
use Rattle.cell_stacks.specs.declared.cell.Cell.{Cell}
use Rattle.cell_stacks.specs.Cells.{bottom_up}
use Rattle.header_layers.specs.Layout.{tag_pairs}
use Rattle.metadata_scopes.specs.Scopes.{meta_of}
use Rattle.sefl_meaning.specs.Values.{Values}
use Rattle.sefl_meaning.specs.Carried.{Carried}
use Rattle.sefl_meaning.specs.Injected.{field_value, unknown_widths}

-- ascending, globals first, a pair for each address of a tag; addresses and cells from bottom to top
pub record Fields (V : Type 0) : Type 0 where
  pub tags : List (TagId × ℤ)
  pub heads : List (ℤ × List (Cell V))
  pub metas : List (Option NodeId × NameId × List (Cell V))

-- what is carried, as it is shown
abbrev pub fields_of : {V : Type 0} → Carried V → Fields V
fields_of s = record {
  tags = flat_map tag_pairs s.layers.tags;
  heads = map bottom_up s.layers.heads;
  metas = map meta_of s.scopes;
}

-- the injection's field of this target, behind fields with `number` unknown values
pub record IsInjected (i : InjectionTree) (target : Target) (number : ℕ) (f : RawField) : Type 0 where
  pub before : List RawField
  pub after : List RawField
  pub among : i.fields ≡ before ++ f ∷ after
  pub named : f.target ≡ target
  pub counted : number ≡ length (unknown_widths before)

-- the value that it gets: the given one, or the unknown field of that number
abbrev pub injected_value : {V F : Type 0} → Values V F → ℕ → RawField → V
injected_value o number f = field_value o (width_of f.target) number f.value
