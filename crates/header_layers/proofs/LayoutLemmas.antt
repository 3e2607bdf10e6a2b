-- Laws of what a packet carries in its headers.
use Rattle.std.proofs.Common.{◌≡◌, ℕ, ◌≤◌, length, Bool, true, false, cond, ◌||◌, List, [], ◌∷◌, refl, sym, ap, ap₂, ◌∙◌, map, Option, Result, Ok, Err, IfOk, ℤ, arith}
use Rattle.std.specs.Ordering.{nat_cmp, int_cmp}
use Rattle.std.proofs.lemmas.Cmp.{int_cmp_total, int_ranked}
use Rattle.std.specs.declared.cmp.Ordering.TheVariants.{Equal}
use Rattle.sn_width.specs.declared.faults.LayoutFault.{LayoutFault}
use Rattle.sn_width.specs.declared.faults.LayoutFault.TheVariants.{NoField, Overlap}
use Rattle.sn_width.specs.declared.ids.TagId.{TagId}
use Rattle.sn_tree.specs.Ends.{tail}
use Rattle.cell_stacks.specs.declared.cell.Cell.{Cell}
use Rattle.cell_stacks.specs.Cells.{AreStacks, width_of, pushed, popped, with_top, top_value}
use Rattle.cell_stacks.specs.Outcome.{and_then, on_ok}
use Rattle.cell_stacks.specs.Stacks.{stack_at, with_stack}
use Rattle.cell_stacks.specs.Valued.{valued, cell_valued}
use Rattle.cell_stacks.proofs.StackLemmas.{all_with_stack, at_stack}
use Rattle.cell_stacks.proofs.OrderLemmas.{value_that_was_set, value_elsewhere, pop_after_push}
use Rattle.cell_stacks.proofs.ValuedLemmas.{on_ok_twice, pushed_valued, popped_valued, with_top_valued, top_value_valued}
use Rattle.header_layers.specs.Layout.{Layout, HaveOneAddress, address_of, top_address, with_heads, allocated_at, allocated, deallocated, assigned, value_of, tag_created, tag_set, tag_destroyed}
use Rattle.header_layers.specs.Spaced.{overlaps, share_a_bit}
use Rattle.header_layers.specs.Valued.{layout_valued}

-- ---- valuing commutes with each call

module _ {V W : Type 0} (f : V → W) where
  width_valued : (cells : List (Cell V)) → width_of (map (cell_valued f) cells) ≡ width_of cells
  width_valued [] = refl
  width_valued (top ∷ below) = refl

  overlaps_valued : (address : ℤ) (width : ℕ) (heads : List (ℤ × List (Cell V))) → overlaps address width (valued f heads) ≡ overlaps address width heads
  overlaps_valued address width [] = refl
  overlaps_valued address width (p ∷ heads) =
      ap₂ (λ v b. share_a_bit address width p.0 v || b) (width_valued p.1) (overlaps_valued address width heads)

  allocated_at_valued : (address : ℤ) (width : ℕ) (heads : List (ℤ × List (Cell V))) → allocated_at address width (valued f heads) ≡ on_ok (valued f) (allocated_at address width heads)
  allocated_at_valued address width heads =
      ap₂ (λ step b. and_then step (λ next. cond b (Err Overlap) (Ok next))) (pushed_valued f int_cmp address width heads) (overlaps_valued address width heads)
      ∙ of_step (pushed int_cmp address width heads) (overlaps address width heads)
    where
      of_step : (step : Result (List (ℤ × List (Cell V))) LayoutFault) (b : Bool) → and_then (on_ok (valued f) step) (λ next. cond b (Err Overlap) (Ok next)) ≡ on_ok (valued f) (and_then step (λ next. cond b (Err Overlap) (Ok next)))
      of_step (Ok next) true = refl
      of_step (Ok next) false = refl
      of_step (Err e) b = refl

  -- a step of the cells at the address that a reference names
  step_valued : (s : Layout V) (where_at : Result ℤ LayoutFault) (step : ℤ → Result (List (ℤ × List (Cell V))) LayoutFault) (other : ℤ → Result (List (ℤ × List (Cell W))) LayoutFault) →
      ((address : ℤ) → other address ≡ on_ok (valued f) (step address)) →
      and_then where_at (λ address. on_ok (with_heads (layout_valued f s)) (other address)) ≡ on_ok (layout_valued f) (and_then where_at (λ address. on_ok (with_heads s) (step address)))
  step_valued s (Ok address) step other h =
      ap (on_ok (with_heads (layout_valued f s))) (h address) ∙ on_ok_twice (valued f) (with_heads (layout_valued f s)) (step address)
      ∙ sym (on_ok_twice (with_heads s) (layout_valued f) (step address))
  step_valued s (Err e) step other h = refl

  pub allocated_valued : (tag : Option TagId) (offset : ℤ) (width : ℕ) (s : Layout V) → allocated tag offset width (layout_valued f s) ≡ on_ok (layout_valued f) (allocated tag offset width s)
  allocated_valued tag offset width s = step_valued s (address_of tag offset s.tags) _ _ (λ address. allocated_at_valued address width s.heads)

  pub deallocated_valued : (tag : Option TagId) (offset : ℤ) (width : ℕ) (s : Layout V) → deallocated tag offset width (layout_valued f s) ≡ on_ok (layout_valued f) (deallocated tag offset width s)
  deallocated_valued tag offset width s = step_valued s (address_of tag offset s.tags) _ _ (λ address. popped_valued f int_cmp NoField address width s.heads)

  pub assigned_valued : (tag : Option TagId) (offset : ℤ) (width : ℕ) (value : V) (s : Layout V) → assigned tag offset width (f value) (layout_valued f s) ≡ on_ok (layout_valued f) (assigned tag offset width value s)
  assigned_valued tag offset width value s = step_valued s (address_of tag offset s.tags) _ _ (λ address. with_top_valued f int_cmp NoField address width value s.heads)

  pub value_of_valued : (tag : Option TagId) (offset : ℤ) (width : ℕ) (s : Layout V) → value_of tag offset width (layout_valued f s) ≡ on_ok f (value_of tag offset width s)
  value_of_valued tag offset width s = of_address (address_of tag offset s.tags)
    where
      of_address : (where_at : Result ℤ LayoutFault) → and_then where_at (λ address. top_value int_cmp NoField address width (valued f s.heads)) ≡ on_ok f (and_then where_at (λ address. top_value int_cmp NoField address width s.heads))
      of_address (Ok address) = top_value_valued f int_cmp NoField address width s.heads
      of_address (Err e) = refl

  pub tag_created_valued : (name : TagId) (base : Option TagId) (offset : ℤ) (s : Layout V) → tag_created name base offset (layout_valued f s) ≡ on_ok (layout_valued f) (tag_created name base offset s)
  tag_created_valued name base offset s = sym (on_ok_twice _ (layout_valued f) (address_of base offset s.tags))

  pub tag_set_valued : (name : TagId) (base : Option TagId) (offset : ℤ) (s : Layout V) → tag_set name base offset (layout_valued f s) ≡ on_ok (layout_valued f) (tag_set name base offset s)
  tag_set_valued name base offset s = sym (on_ok_twice _ (layout_valued f) (address_of base offset s.tags))

  pub tag_destroyed_valued : (name : TagId) (s : Layout V) → tag_destroyed name (layout_valued f s) ≡ on_ok (layout_valued f) (tag_destroyed name s)
  tag_destroyed_valued name s = sym (on_ok_twice _ (layout_valued f) (top_address (stack_at nat_cmp name.0 s.tags)))

-- ---- assign, then read; allocate, then deallocate

module _ {V : Type 0} where
  -- a step of the cells that is not refused has an address, and leaves the tags
  record Stepped (s next : Layout V) (where_at : Result ℤ LayoutFault) (step : ℤ → Result (List (ℤ × List (Cell V))) LayoutFault) : Type 0 where
    address : ℤ
    named : where_at ≡ Ok address
    heads : step address ≡ Ok next.heads
    tags : next.tags ≡ s.tags

  stepped : (s next : Layout V) (where_at : Result ℤ LayoutFault) (step : ℤ → Result (List (ℤ × List (Cell V))) LayoutFault) → and_then where_at (λ address. on_ok (with_heads s) (step address)) ≡ Ok next → Stepped s next where_at step
  stepped s next (Err e) step h = cc
  stepped s next (Ok address) step h = of_step (step address) refl h
    where
      of_step : (r : Result (List (ℤ × List (Cell V))) LayoutFault) → step address ≡ r → on_ok (with_heads s) r ≡ Ok next → Stepped s next (Ok address) step
      of_step (Err e) is g = cc
      of_step (Ok heads) is g =
          let same : with_heads s heads ≡ next = cc in
          record { address = address; named = refl; heads = is ∙ ap Ok (ap (λ (t : Layout V). t.heads) same); tags = sym (ap (λ (t : Layout V). t.tags) same) }

  pub value_that_was_assigned : (tag : Option TagId) (offset : ℤ) (width : ℕ) (value : V) (s next : Layout V) → assigned tag offset width value s ≡ Ok next → value_of tag offset width next ≡ Ok value
  value_that_was_assigned tag offset width value s next h =
      let done = stepped s next (address_of tag offset s.tags) (λ address. with_top int_cmp NoField address width value s.heads) h in
      ap (λ r. and_then r (λ address. top_value int_cmp NoField address width next.heads)) (ap (address_of tag offset) done.tags ∙ done.named)
      ∙ value_that_was_set int_cmp_total NoField NoField done.address width value s.heads next.heads done.heads

  pub value_assigned_elsewhere : (tag other : Option TagId) (offset distance : ℤ) (width size : ℕ) (value : V) (s next : Layout V) → (address_of other distance s.tags ≡ address_of tag offset s.tags → ⊥) → assigned tag offset width value s ≡ Ok next → value_of other distance size next ≡ value_of other distance size s
  value_assigned_elsewhere tag other offset distance width size value s next apart h =
      let done = stepped s next (address_of tag offset s.tags) (λ address. with_top int_cmp NoField address width value s.heads) h in
      ap (λ r. and_then r (λ address. top_value int_cmp NoField address size next.heads)) (ap (address_of other distance) done.tags)
      ∙ of_address done (address_of other distance s.tags) (λ e. apart (e ∙ sym done.named))
    where
      of_address : (done : Stepped s next (address_of tag offset s.tags) (λ address. with_top int_cmp NoField address width value s.heads)) (r : Result ℤ LayoutFault) → (r ≡ Ok done.address → ⊥) → and_then r (λ address. top_value int_cmp NoField address size next.heads) ≡ and_then r (λ address. top_value int_cmp NoField address size s.heads)
      of_address done (Err e) g = refl
      of_address done (Ok address) g =
          value_elsewhere int_cmp_total NoField NoField done.address address width size value s.heads next.heads (λ e. g (ap Ok (int_ranked address done.address Equal (sym e)))) done.heads

  pub deallocated_after_allocated : (tag : Option TagId) (offset : ℤ) (width : ℕ) (s next : Layout V) → AreStacks int_cmp s.heads → allocated tag offset width s ≡ Ok next → deallocated tag offset width next ≡ Ok s
  deallocated_after_allocated tag offset width s next stacks h =
      let done = stepped s next (address_of tag offset s.tags) (λ address. allocated_at address width s.heads) h in
      let put = of_pushed (pushed int_cmp done.address width s.heads) next.heads (overlaps done.address width s.heads) done.heads in
      let popped = pop_after_push int_cmp_total (λ a b e. int_ranked a b Equal (sym e)) NoField done.address width s.heads next.heads stacks.ascending stacks.none_empty put in
      ap (λ r. and_then r (λ address. on_ok (with_heads next) (popped_from address))) (ap (address_of tag offset) done.tags ∙ done.named)
      ∙ ap (on_ok (with_heads next)) popped
      ∙ ap Ok (λ i. record { tags = done.tags i; heads = s.heads })
    where
      popped_from : ℤ → Result (List (ℤ × List (Cell V))) LayoutFault
      popped_from address = popped int_cmp NoField address width next.heads

      of_pushed : (r : Result (List (ℤ × List (Cell V))) LayoutFault) (heads : List (ℤ × List (Cell V))) (b : Bool) → and_then r (λ put. cond b (Err Overlap) (Ok put)) ≡ Ok heads → r ≡ Ok heads
      of_pushed (Err e) heads b g = cc
      of_pushed (Ok put) heads true g = cc
      of_pushed (Ok put) heads false g = g

-- ---- one address for each tag

tail_is_shorter : {X : Type 0} (xs : List X) → length xs ≤ 1 → tail xs ≡ []
tail_is_shorter [] h = refl
tail_is_shorter (x ∷ []) h = refl
tail_is_shorter (x ∷ y ∷ xs) h = absurd (omega arith)

module _ (name : ℕ) (tags : List (ℕ × List ℤ)) (one : HaveOneAddress tags) where
  one_with : (addresses : List ℤ) → length addresses ≤ 1 → HaveOneAddress (with_stack nat_cmp name addresses tags)
  one_with addresses h = all_with_stack nat_cmp (λ p. length p.1 ≤ 1) name addresses tags (λ _. h) one

  there : length (stack_at nat_cmp name tags) ≤ 1
  there = at_stack nat_cmp (λ addresses. length addresses ≤ 1) name tags (omega arith) one

  pub one_address_set : {V : Type 0} (s : Layout V) (where_at : Result ℤ LayoutFault) → IfOk (on_ok (λ address. record s { tags = with_stack nat_cmp name (address ∷ tail (stack_at nat_cmp name tags)) tags }) where_at) (λ (next : Layout V). HaveOneAddress next.tags)
  one_address_set s (Ok address) = one_with (address ∷ tail (stack_at nat_cmp name tags)) (rw (tail_is_shorter (stack_at nat_cmp name tags) there) (omega arith))
  one_address_set s (Err e) = tt

  pub one_address_destroyed : {V : Type 0} (s : Layout V) (top : Result ℤ LayoutFault) → IfOk (on_ok (λ (address : ℤ). record s { tags = with_stack nat_cmp name (tail (stack_at nat_cmp name tags)) tags }) top) (λ (next : Layout V). HaveOneAddress next.tags)
  one_address_destroyed s (Ok address) = one_with (tail (stack_at nat_cmp name tags)) (rw (tail_is_shorter (stack_at nat_cmp name tags) there) (omega arith))
  one_address_destroyed s (Err e) = tt
