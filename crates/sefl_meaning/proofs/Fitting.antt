-- Steps leave values that fit their widths.
use Rattle.std.proofs.Common.{◌≡◌, ℕ, ℤ, Bool, true, false, cond, List, [], ◌∷◌, refl, subst, Option, Some, None, Result, Ok, Err, IfOk, nat_eq, eqb-true, ok_or, option_map, unwrap_or}
use Rattle.std.specs.List.{AllByRecursion, filter}
use Rattle.std.specs.Ordering.{is_lt, is_eq, is_gt, int_cmp}
use Rattle.std.specs.declared.cmp.Ordering.{Ordering}
use Rattle.sn_width.specs.declared.faults.LayoutFault.{LayoutFault}
use Rattle.sn_width.specs.declared.faults.LayoutFault.TheVariants.{WidthDiffers, Unset, Overlap, NoField}
use Rattle.sn_width.specs.declared.ids.TagId.{TagId}
use Rattle.sn_tree.specs.Ends.{first, tail}
use Rattle.sn_tree.specs.Pairs.{pairs_before, pairs_at, pairs_after}
use Rattle.cell_stacks.specs.declared.cell.Cell.{Cell}
use Rattle.cell_stacks.specs.Outcome.{and_then, on_ok}
use Rattle.cell_stacks.specs.Stacks.{stack_at, with_stack}
use Rattle.cell_stacks.specs.Cells.{accepts, top_cell, unset_cell, set_cell, pushed, popped, with_top, top_value}
use Rattle.header_layers.specs.Layout as layout
use Rattle.header_layers.specs.Layout.{Layout, address_of, allocated_at, with_heads}
use Rattle.header_layers.specs.Spaced.{overlaps}
use Rattle.sefl_meaning.proofs.AllLemmas.{all_append}
use Rattle.sefl_meaning.specs.Valued.{Fits, HeldFits, CellFits, StacksFit}

-- ---- lists and results

pub all_filter : {X : Type 0} (P : X → Type 0) (test : X → Bool) (xs : List X) → AllByRecursion P xs →
    AllByRecursion P (filter test xs)
all_filter P test [] h = tt
all_filter P test (x ∷ xs) h = of_test (test x) (all_filter P test xs h.1)
  where
    of_test : (b : Bool) → AllByRecursion P (filter test xs) →
        AllByRecursion P (cond b (x ∷ filter test xs) (filter test xs))
    of_test true rest = (h.0, rest)
    of_test false rest = rest

-- what holds of each value of a next step, or of a function, holds of the whole
pub of_next : {A B E : Type 0} (Q : B → Type 0) (r : Result A E) (next : A → Result B E) →
    ((x : A) → IfOk (next x) Q) → IfOk (and_then r next) Q
of_next Q (Ok x) next h = h x
of_next Q (Err e) next h = tt

pub of_function : {A B E : Type 0} (P : A → Type 0) (Q : B → Type 0) (f : A → B) (r : Result A E) →
    IfOk r P → ((x : A) → P x → Q (f x)) → IfOk (on_ok f r) Q
of_function P Q f (Ok x) h k = k x h
of_function P Q f (Err e) h k = tt

pub of_any : {A B E : Type 0} (Q : B → Type 0) (f : A → B) (r : Result A E) → ((x : A) → Q (f x)) → IfOk (on_ok f r) Q
of_any Q f (Ok x) k = k x
of_any Q f (Err e) k = tt

module _ {V : Type 0} (fits : ℕ → V → Bool) where
  tail_fits : (cells : List (Cell V)) → AllByRecursion (CellFits fits) cells →
      AllByRecursion (CellFits fits) (tail cells)
  tail_fits [] h = tt
  tail_fits (top ∷ below) h = h.1

  top_fits : (absent : LayoutFault) (width : ℕ) (cells : List (Cell V)) → AllByRecursion (CellFits fits) cells →
      IfOk (top_cell absent width cells) (λ top. HeldFits fits width top.value)
  top_fits absent width [] h = tt
  top_fits absent width (top ∷ below) h = of_test (nat_eq top.width width) refl
    where
      of_test : (b : Bool) → nat_eq top.width width ≡ b →
          IfOk (cond b (Ok top) (Err WidthDiffers)) (λ cell. HeldFits fits width cell.value)
      of_test true e = subst (λ (w : ℕ). HeldFits fits w top.value) (eqb-true top.width width e) h.0
      of_test false e = tt

  held_fits : (width : ℕ) (value : Option V) → HeldFits fits width value → IfOk (ok_or value Unset) (Fits fits width)
  held_fits width None h = tt
  held_fits width (Some x) h = h

  value_fits : (width : ℕ) (r : Result (Cell V) LayoutFault) → IfOk r (λ top. HeldFits fits width top.value) →
      IfOk (and_then r (λ top. ok_or top.value Unset)) (Fits fits width)
  value_fits width (Ok top) h = held_fits width top.value h
  value_fits width (Err fault) h = tt

  module _ {K : Type 0} (cmp : K → K → Ordering) where
    first_fits : (stacks : List (K × List (Cell V))) → StacksFit fits stacks →
        AllByRecursion (CellFits fits) (unwrap_or (option_map (λ p. p.1) (first stacks)) [])
    first_fits [] h = tt
    first_fits (p ∷ stacks) h = h.0

    stack_fits : (key : K) (stacks : List (K × List (Cell V))) → StacksFit fits stacks →
        AllByRecursion (CellFits fits) (stack_at cmp key stacks)
    stack_fits key stacks h = first_fits (pairs_at cmp key stacks) (all_filter _ (λ p. is_eq (cmp key p.0)) stacks h)

    with_stack_fits : (key : K) (cells : List (Cell V)) (stacks : List (K × List (Cell V))) →
        AllByRecursion (CellFits fits) cells → StacksFit fits stacks → StacksFit fits (with_stack cmp key cells stacks)
    with_stack_fits key [] stacks h rest =
        all_append _ (pairs_before cmp key stacks) (pairs_after cmp key stacks)
        (all_filter _ (λ p. is_gt (cmp key p.0)) stacks rest)
        (all_filter _ (λ p. is_lt (cmp key p.0)) stacks rest)
    with_stack_fits key (cell ∷ cells) stacks h rest =
        all_append _ (pairs_before cmp key stacks) ((key, cell ∷ cells) ∷ pairs_after cmp key stacks)
        (all_filter _ (λ p. is_gt (cmp key p.0)) stacks rest) (h, all_filter _ (λ p. is_lt (cmp key p.0)) stacks rest)

    pub pushed_fits : (key : K) (width : ℕ) (stacks : List (K × List (Cell V))) → StacksFit fits stacks →
        IfOk (pushed cmp key width stacks) (StacksFit fits)
    pushed_fits key width stacks h = of_test (accepts width (stack_at cmp key stacks))
      where
        of_test : (b : Bool) →
            IfOk (cond b (Ok (with_stack cmp key (unset_cell width ∷ stack_at cmp key stacks) stacks))
            (Err WidthDiffers)) (StacksFit fits)
        of_test true =
            with_stack_fits key (unset_cell width ∷ stack_at cmp key stacks) stacks (tt, stack_fits key stacks h) h
        of_test false = tt

    pub popped_fits : (absent : LayoutFault) (key : K) (width : ℕ) (stacks : List (K × List (Cell V))) →
        StacksFit fits stacks →
        IfOk (popped cmp absent key width stacks) (StacksFit fits)
    popped_fits absent key width stacks h =
        of_any (StacksFit fits) _ (top_cell absent width (stack_at cmp key stacks))
        (λ top. with_stack_fits key (tail (stack_at cmp key stacks)) stacks
        (tail_fits (stack_at cmp key stacks) (stack_fits key stacks h)) h)

    pub with_top_fits : (absent : LayoutFault) (key : K) (width : ℕ) (value : V) (stacks : List (K × List (Cell V))) →
        Fits fits width value → StacksFit fits stacks →
        IfOk (with_top cmp absent key width value stacks) (StacksFit fits)
    with_top_fits absent key width value stacks held h =
        of_any (StacksFit fits) _ (top_cell absent width (stack_at cmp key stacks))
        (λ top. with_stack_fits key (set_cell width value ∷ tail (stack_at cmp key stacks)) stacks
        (held, tail_fits (stack_at cmp key stacks) (stack_fits key stacks h)) h)

    pub top_value_fits : (absent : LayoutFault) (key : K) (width : ℕ) (stacks : List (K × List (Cell V))) →
        StacksFit fits stacks →
        IfOk (top_value cmp absent key width stacks) (Fits fits width)
    top_value_fits absent key width stacks h =
        value_fits width (top_cell absent width (stack_at cmp key stacks))
        (top_fits absent width (stack_at cmp key stacks) (stack_fits key stacks h))

  -- ---- header cells and tags

  abbrev pub LayoutFits : Layout V → Type 0
  LayoutFits s = StacksFit fits s.heads

  apart_fits : (b : Bool) (r : List (ℤ × List (Cell V))) → StacksFit fits r →
      IfOk (cond b (Err Overlap) (Ok r)) (StacksFit fits)
  apart_fits true r h = tt
  apart_fits false r h = h

  allocated_at_fits : (address : ℤ) (width : ℕ) (heads : List (ℤ × List (Cell V)))
      (r : Result (List (ℤ × List (Cell V))) LayoutFault) →
      IfOk r (StacksFit fits) →
      IfOk (and_then r (λ next. cond (overlaps address width heads) (Err Overlap) (Ok next))) (StacksFit fits)
  allocated_at_fits address width heads (Ok next) h = apart_fits (overlaps address width heads) next h
  allocated_at_fits address width heads (Err fault) h = tt

  pub layout_allocated_fits : (tag : Option TagId) (offset : ℤ) (width : ℕ) (s : Layout V) → LayoutFits s →
      IfOk (layout.allocated tag offset width s) LayoutFits
  layout_allocated_fits tag offset width s h =
      of_next LayoutFits (address_of tag offset s.tags) _ (λ address.
      of_function (StacksFit fits) LayoutFits (with_heads s) (allocated_at address width s.heads)
      (allocated_at_fits address width s.heads (pushed int_cmp address width s.heads)
      (pushed_fits int_cmp address width s.heads h)) (λ heads fit. fit))

  pub layout_deallocated_fits : (tag : Option TagId) (offset : ℤ) (width : ℕ) (s : Layout V) → LayoutFits s →
      IfOk (layout.deallocated tag offset width s) LayoutFits
  layout_deallocated_fits tag offset width s h =
      of_next LayoutFits (address_of tag offset s.tags) _ (λ address.
      of_function (StacksFit fits) LayoutFits (with_heads s) (popped int_cmp NoField address width s.heads)
      (popped_fits int_cmp NoField address width s.heads h) (λ heads fit. fit))

  pub layout_assigned_fits : (tag : Option TagId) (offset : ℤ) (width : ℕ) (value : V) (s : Layout V) →
      Fits fits width value → LayoutFits s →
      IfOk (layout.assigned tag offset width value s) LayoutFits
  layout_assigned_fits tag offset width value s held h =
      of_next LayoutFits (address_of tag offset s.tags) _ (λ address.
      of_function (StacksFit fits) LayoutFits (with_heads s) (with_top int_cmp NoField address width value s.heads)
      (with_top_fits int_cmp NoField address width value s.heads held h) (λ heads fit. fit))

  pub layout_value_fits : (tag : Option TagId) (offset : ℤ) (width : ℕ) (s : Layout V) → LayoutFits s →
      IfOk (layout.value_of tag offset width s) (Fits fits width)
  layout_value_fits tag offset width s h =
      of_next (Fits fits width) (address_of tag offset s.tags) _
      (λ address. top_value_fits int_cmp NoField address width s.heads h)
