-- The snapshot does not depend on values.
use Rattle.std.proofs.Common.{◌≡◌, ℕ, Bool, true, false, cond, List, [], ◌∷◌, ◌++◌, refl, sym, ap, ◌∙◌, nat_eq, map, Option, Some, None, Result, Ok, Err, is_some}
use Rattle.std.specs.List.{filter}
use Rattle.std.specs.Option.{option_map}
use Rattle.sn_width.specs.declared.ids.NodeId.{NodeId}
use Rattle.sn_width.specs.declared.ids.NameId.{NameId}
use Rattle.sn_width.specs.declared.faults.LayoutFault.{LayoutFault}
use Rattle.sn_width.specs.declared.faults.LayoutFault.TheVariants.{NoMeta, WidthDiffers}
use Rattle.sn_tree.specs.Ends.{first}
use Rattle.cell_stacks.specs.declared.cell.Cell.{Cell}
use Rattle.cell_stacks.specs.Cells.{top_cell}
use Rattle.cell_stacks.specs.Outcome.{on_ok}
use Rattle.cell_stacks.specs.Stacks.{stack_at}
use Rattle.cell_stacks.specs.Valued.{valued}
use Rattle.metadata_scopes.specs.Scopes.{Metadata, key_cmp, deallocated}
use Rattle.metadata_scopes.specs.Snapshot.{is_allocated, present_of, snapshot}

-- whether a step found cells of the metadata
abbrev finds : {A : Type 0} → Result A LayoutFault → Bool
finds (Ok x) = true
finds (Err NoMeta) = false
finds (Err fault) = true

finds_on_ok : {A B : Type 0} (f : A → B) (step : Result A LayoutFault) → finds (on_ok f step) ≡ finds step
finds_on_ok f (Ok x) = refl
finds_on_ok f (Err fault) = refl

found : {V A : Type 0} (f : Cell V → A) (width : ℕ) (cells : List (Cell V)) → finds (on_ok f (top_cell NoMeta width cells)) ≡ is_some (option_map (λ top. top.width) (first cells))
found f width [] = refl
found {V} f width (top ∷ below) = of_test (nat_eq top.width width)
  where
    of_test : (b : Bool) → finds (on_ok f (cond b (Ok top) (Err WidthDiffers))) ≡ true
    of_test true = refl
    of_test false = refl

module _ {V W : Type 0} (f : V → W) (scopes : Metadata V) (same : (owner : Option NodeId) (name : NameId) → deallocated owner name 0 (valued f scopes) ≡ on_ok (valued f) (deallocated owner name 0 scopes)) where
  is_allocated_valued : (owner : Option NodeId) (name : NameId) → is_allocated owner name (valued f scopes) ≡ is_allocated owner name scopes
  is_allocated_valued owner name =
      sym (found _ 0 (stack_at key_cmp (owner, name) (valued f scopes))) ∙ ap finds (same owner name) ∙ finds_on_ok (valued f) (deallocated owner name 0 scopes)
      ∙ found _ 0 (stack_at key_cmp (owner, name) scopes)

  present_of_valued : (owner : Option NodeId) (names : List NameId) → present_of owner names (valued f scopes) ≡ present_of owner names scopes
  present_of_valued owner names = λ i. map (λ name. (owner, name)) (filter (λ name. is_allocated_valued owner name i) names)

  pub snapshot_valued : (node : NodeId) (names : List NameId) → snapshot node names (valued f scopes) ≡ snapshot node names scopes
  snapshot_valued node names = λ i. present_of_valued None names i ++ present_of_valued (Some node) names i
