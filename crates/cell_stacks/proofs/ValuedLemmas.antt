-- Valuing commutes with each step.
use Rattle.std.proofs.Common.{◌≡◌, ℕ, Bool, true, false, cond, List, [], ◌∷◌, ◌++◌, refl, sym, ap, ap₂, ◌∙◌, nat_eq, map, Option, Some, None, Result, Ok, Err, unwrap_or}
use Rattle.std.specs.List.{filter}
use Rattle.std.specs.Option.{option_map, ok_or}
use Rattle.std.specs.Ordering.{is_lt, is_eq, is_gt}
use Rattle.std.specs.declared.cmp.Ordering.{Ordering}
use Rattle.std.proofs.lemmas.List.{map-append}
use Rattle.sn_width.specs.declared.faults.LayoutFault.{LayoutFault}
use Rattle.sn_width.specs.declared.faults.LayoutFault.TheVariants.{WidthDiffers, Unset}
use Rattle.sn_width.specs.declared.faults.StepFault.{StepFault}
use Rattle.sn_width.specs.declared.faults.StepFault.TheVariants.{Layout, NoMemory}
use Rattle.sn_tree.specs.Ends.{first, tail}
use Rattle.sn_tree.specs.Pairs.{pairs_before, pairs_at, pairs_after}
use Rattle.cell_stacks.specs.declared.cell.Cell.{Cell}
use Rattle.cell_stacks.specs.Cells.{accepts, top_cell, unset_cell, set_cell, pushed, popped, with_top, top_value}
use Rattle.cell_stacks.specs.Outcome.{and_then, on_ok, Meets}
use Rattle.cell_stacks.specs.Stacks.{stack_at, with_stack}
use Rattle.cell_stacks.specs.Valued.{map_stacks, cell_valued, valued}

-- ---- of any members

module _ {K X Y : Type 0} (f : X → Y) where
  kept_by_key : (test : K → Bool) (stacks : List (K × List X)) → filter (λ p. test p.0) (map_stacks f stacks) ≡ map_stacks f (filter (λ p. test p.0) stacks)
  kept_by_key test [] = refl
  kept_by_key test (p ∷ stacks) = of_test (test p.0) (kept_by_key test stacks)
    where
      of_test : (b : Bool) → filter (λ q. test q.0) (map_stacks f stacks) ≡ map_stacks f (filter (λ q. test q.0) stacks) → cond b ((p.0, map f p.1) ∷ filter (λ q. test q.0) (map_stacks f stacks)) (filter (λ q. test q.0) (map_stacks f stacks)) ≡ map_stacks f (cond b (p ∷ filter (λ q. test q.0) stacks) (filter (λ q. test q.0) stacks))
      of_test true rest = ap (λ z. (p.0, map f p.1) ∷ z) rest
      of_test false rest = rest

  at_first_mapped : (pairs : List (K × List X)) → unwrap_or (option_map (λ p. p.1) (first (map_stacks f pairs))) [] ≡ map f (unwrap_or (option_map (λ p. p.1) (first pairs)) [])
  at_first_mapped [] = refl
  at_first_mapped (p ∷ pairs) = refl

  pub stack_at_mapped : (cmp : K → K → Ordering) (key : K) (stacks : List (K × List X)) → stack_at cmp key (map_stacks f stacks) ≡ map f (stack_at cmp key stacks)
  stack_at_mapped cmp key stacks =
      ap (λ z. unwrap_or (option_map (λ p. p.1) (first z)) []) (kept_by_key (λ k. is_eq (cmp key k)) stacks) ∙ at_first_mapped (pairs_at cmp key stacks)

  pub with_stack_mapped : (cmp : K → K → Ordering) (key : K) (xs : List X) (stacks : List (K × List X)) → with_stack cmp key (map f xs) (map_stacks f stacks) ≡ map_stacks f (with_stack cmp key xs stacks)
  with_stack_mapped cmp key [] stacks =
      ap₂ (λ a b. a ++ b) (kept_by_key (λ k. is_gt (cmp key k)) stacks) (kept_by_key (λ k. is_lt (cmp key k)) stacks) ∙ sym (map-append (λ p. (p.0, map f p.1)) (pairs_before cmp key stacks) (pairs_after cmp key stacks))
  with_stack_mapped cmp key (x ∷ xs) stacks =
      ap₂ (λ a b. a ++ (key, f x ∷ map f xs) ∷ b) (kept_by_key (λ k. is_gt (cmp key k)) stacks) (kept_by_key (λ k. is_lt (cmp key k)) stacks)
      ∙ sym (map-append (λ p. (p.0, map f p.1)) (pairs_before cmp key stacks) ((key, x ∷ xs) ∷ pairs_after cmp key stacks))

pub tail_mapped : {X Y : Type 0} (f : X → Y) (xs : List X) → tail (map f xs) ≡ map f (tail xs)
tail_mapped f [] = refl
tail_mapped f (x ∷ xs) = refl

-- ---- steps of results

pub on_ok_twice : {A B C E : Type 0} (f : A → B) (g : B → C) (r : Result A E) → on_ok g (on_ok f r) ≡ on_ok (λ x. g (f x)) r
on_ok_twice f g (Ok x) = refl
on_ok_twice f g (Err e) = refl

pub on_ok_same : {A B E : Type 0} (f g : A → B) → ((x : A) → f x ≡ g x) → (r : Result A E) → on_ok f r ≡ on_ok g r
on_ok_same f g h (Ok x) = ap Ok (h x)
on_ok_same f g h (Err e) = refl

-- what a call answers and leaves, after a function of the state
pub meets_valued : {S T : Type 0} (f : S → T) (step : Result S LayoutFault) (other : Result T LayoutFault) (answer : Result (Unit {0}) StepFault) (old new : S) → other ≡ on_ok f step → Meets step answer old new → Meets other answer (f old) (f new)
meets_valued f step other (Ok done) old new e m = e ∙ ap (on_ok f) m
meets_valued f step other (Err (Layout fault)) old new e m = (e ∙ ap (on_ok f) m.0, ap f m.1)
meets_valued f step other (Err NoMemory) old new e m = ap f m

-- ---- of cells

-- a reached cell, as an answer
abbrev reached : {V : Type 0} → Cell V → Result (Cell V) LayoutFault
reached cell = Ok cell

module _ {V W : Type 0} (f : V → W) where
  pub accepts_valued : (width : ℕ) (cells : List (Cell V)) → accepts width (map (cell_valued f) cells) ≡ accepts width cells
  accepts_valued width [] = refl
  accepts_valued width (top ∷ below) = refl

  pub top_cell_valued : (absent : LayoutFault) (width : ℕ) (cells : List (Cell V)) → top_cell absent width (map (cell_valued f) cells) ≡ on_ok (cell_valued f) (top_cell absent width cells)
  top_cell_valued absent width [] = refl
  top_cell_valued absent width (top ∷ below) = of_test (nat_eq top.width width)
    where
      of_test : (b : Bool) → cond b (reached (cell_valued f top)) (Err WidthDiffers) ≡ on_ok (cell_valued f) (cond b (reached top) (Err WidthDiffers))
      of_test true = refl
      of_test false = refl

  value_valued : (cell : Cell V) → ok_or (option_map f cell.value) Unset ≡ on_ok f (ok_or cell.value Unset)
  value_valued cell = of_value cell.value
    where
      of_value : (value : Option V) → ok_or (option_map f value) Unset ≡ on_ok f (ok_or value Unset)
      of_value None = refl
      of_value (Some x) = refl

  value_of_valued : (r : Result (Cell V) LayoutFault) → and_then (on_ok (cell_valued f) r) (λ top. ok_or top.value Unset) ≡ on_ok f (and_then r (λ top. ok_or top.value Unset))
  value_of_valued (Ok top) = value_valued top
  value_of_valued (Err e) = refl

  module _ {K : Type 0} (cmp : K → K → Ordering) where
    pub pushed_valued : (key : K) (width : ℕ) (stacks : List (K × List (Cell V))) → pushed cmp key width (valued f stacks) ≡ on_ok (valued f) (pushed cmp key width stacks)
    pushed_valued key width stacks =
        ap₂ (λ b s. cond b (Ok s) (Err WidthDiffers)) (ap (accepts width) there ∙ accepts_valued width (stack_at cmp key stacks)) (ap (λ cells. with_stack cmp key (unset_cell width ∷ cells) (valued f stacks)) there ∙ with_stack_mapped (cell_valued f) cmp key (unset_cell width ∷ stack_at cmp key stacks) stacks)
        ∙ of_test (accepts width (stack_at cmp key stacks)) (with_stack cmp key (unset_cell width ∷ stack_at cmp key stacks) stacks)
      where
        there : stack_at cmp key (valued f stacks) ≡ map (cell_valued f) (stack_at cmp key stacks)
        there = stack_at_mapped (cell_valued f) cmp key stacks

        of_test : (b : Bool) (s : List (K × List (Cell V))) → cond b (Ok (valued f s)) (Err WidthDiffers) ≡ on_ok (valued f) (cond b (Ok s) (Err WidthDiffers))
        of_test true s = refl
        of_test false s = refl

    -- a change of the stack at a key where its top cell is reached
    changed_valued : (absent : LayoutFault) (key : K) (width : ℕ) (cells : List (Cell V)) (stacks : List (K × List (Cell V))) →
        on_ok (λ top. with_stack cmp key (map (cell_valued f) cells) (valued f stacks)) (top_cell absent width (stack_at cmp key (valued f stacks)))
        ≡ on_ok (valued f) (on_ok (λ top. with_stack cmp key cells stacks) (top_cell absent width (stack_at cmp key stacks)))
    changed_valued absent key width cells stacks =
        ap (λ s. on_ok (λ top. with_stack cmp key (map (cell_valued f) cells) (valued f stacks)) (top_cell absent width s)) (stack_at_mapped (cell_valued f) cmp key stacks)
        ∙ ap (on_ok (λ top. with_stack cmp key (map (cell_valued f) cells) (valued f stacks))) (top_cell_valued absent width (stack_at cmp key stacks))
        ∙ on_ok_twice _ _ (top_cell absent width (stack_at cmp key stacks))
        ∙ on_ok_same _ _ (λ top. with_stack_mapped (cell_valued f) cmp key cells stacks) (top_cell absent width (stack_at cmp key stacks))
        ∙ sym (on_ok_twice _ _ (top_cell absent width (stack_at cmp key stacks)))

    below_valued : (key : K) (stacks : List (K × List (Cell V))) → tail (stack_at cmp key (valued f stacks)) ≡ map (cell_valued f) (tail (stack_at cmp key stacks))
    below_valued key stacks = ap tail (stack_at_mapped (cell_valued f) cmp key stacks) ∙ tail_mapped (cell_valued f) (stack_at cmp key stacks)

    pub popped_valued : (absent : LayoutFault) (key : K) (width : ℕ) (stacks : List (K × List (Cell V))) → popped cmp absent key width (valued f stacks) ≡ on_ok (valued f) (popped cmp absent key width stacks)
    popped_valued absent key width stacks =
        ap (λ cells. on_ok (λ top. with_stack cmp key cells (valued f stacks)) (top_cell absent width (stack_at cmp key (valued f stacks)))) (below_valued key stacks)
        ∙ changed_valued absent key width (tail (stack_at cmp key stacks)) stacks

    pub with_top_valued : (absent : LayoutFault) (key : K) (width : ℕ) (value : V) (stacks : List (K × List (Cell V))) → with_top cmp absent key width (f value) (valued f stacks) ≡ on_ok (valued f) (with_top cmp absent key width value stacks)
    with_top_valued absent key width value stacks =
        ap (λ cells. on_ok (λ top. with_stack cmp key (set_cell width (f value) ∷ cells) (valued f stacks)) (top_cell absent width (stack_at cmp key (valued f stacks)))) (below_valued key stacks)
        ∙ changed_valued absent key width (set_cell width value ∷ tail (stack_at cmp key stacks)) stacks

    pub top_value_valued : (absent : LayoutFault) (key : K) (width : ℕ) (stacks : List (K × List (Cell V))) → top_value cmp absent key width (valued f stacks) ≡ on_ok f (top_value cmp absent key width stacks)
    top_value_valued absent key width stacks =
        ap (λ s. and_then (top_cell absent width s) (λ top. ok_or top.value Unset)) (stack_at_mapped (cell_valued f) cmp key stacks)
        ∙ ap (λ r. and_then r (λ top. ok_or top.value Unset)) (top_cell_valued absent width (stack_at cmp key stacks))
        ∙ value_of_valued (top_cell absent width (stack_at cmp key stacks))
