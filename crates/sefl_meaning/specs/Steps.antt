-- What an instruction without tests, blocks and ports leaves, or its fault.
use Rattle.std.specs.Prelude.{ℕ, List, Result}
use Rattle.sn_width.specs.declared.faults.LayoutFault.{LayoutFault}
use Rattle.sefl_syntax.specs.declared.reference.Addr.{Addr}
use Rattle.sefl_syntax.specs.declared.reference.Target.{Target}
use Rattle.sefl_syntax.specs.Trees.{ExprTree}
use Rattle.cell_stacks.specs.Outcome.{and_then, on_ok}
use Rattle.header_layers.specs.Layout as layout
use Rattle.metadata_scopes.specs.Scopes as scopes
use Rattle.job_items.specs.AtomRules.{width_of}
use Rattle.sefl_meaning.specs.Values.{Values}
use Rattle.sefl_meaning.specs.Network.{tag_id}
use Rattle.sefl_meaning.specs.Carried.{Carried, Scene, base_tag, stepped, with_layers}
use Rattle.sefl_meaning.specs.Terms.{value_in}

module _ {V : Type 0} (at : Scene) where
  -- an unset cell on top
  abbrev pub allocated : Target → Carried V → Result (Carried V) LayoutFault
  allocated target s =
      stepped at target (λ tag offset l. layout.allocated tag offset (width_of target) l)
      (λ key m. scopes.allocated key.0 key.1 (width_of target) m) s

  -- the top cell is removed
  abbrev pub deallocated : Target → Carried V → Result (Carried V) LayoutFault
  deallocated target s =
      stepped at target (λ tag offset l. layout.deallocated tag offset (width_of target) l)
      (λ key m. scopes.deallocated key.0 key.1 (width_of target) m) s

  -- the top cell has the value
  abbrev pub assigned : Target → V → Carried V → Result (Carried V) LayoutFault
  assigned target value s =
      stepped at target (λ tag offset l. layout.assigned tag offset (width_of target) value l)
      (λ key m. scopes.assigned key.0 key.1 (width_of target) value m) s

  -- an address on top of the tag's list
  abbrev pub tag_created : List ℕ → Addr → Carried V → Result (Carried V) LayoutFault
  tag_created name addr s =
      on_ok (with_layers s) (layout.tag_created (tag_id at.net name) (base_tag at.net addr) addr.offset s.layers)

  -- an address in place of the top one, or alone
  abbrev pub tag_set : List ℕ → Addr → Carried V → Result (Carried V) LayoutFault
  tag_set name addr s =
      on_ok (with_layers s) (layout.tag_set (tag_id at.net name) (base_tag at.net addr) addr.offset s.layers)

  -- the top address of the tag is removed
  abbrev pub tag_destroyed : List ℕ → Carried V → Result (Carried V) LayoutFault
  tag_destroyed name s = on_ok (with_layers s) (layout.tag_destroyed (tag_id at.net name) s.layers)

-- the expression's value, at the target's width, is the top cell's
abbrev pub evaluated : {V F : Type 0} → Values V F → Scene → Target → ExprTree → Carried V →
    Result (Carried V) LayoutFault
evaluated o at target value s = and_then (value_in o at (width_of target) value s) (λ a. assigned at target a s)
