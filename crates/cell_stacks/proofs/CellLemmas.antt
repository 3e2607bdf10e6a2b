-- The cells at one key keep one width.
use Rattle.std.proofs.Common.{◌≡◌, ℕ, Bool, true, false, cond, List, [], ◌∷◌, refl, sym, subst, nat_eq, Result, Ok, Err, arith}
use Rattle.std.specs.List.{AllByRecursion}
use Rattle.std.specs.declared.cmp.Ordering.{Ordering}
use Rattle.sn_width.specs.declared.faults.LayoutFault.{LayoutFault}
use Rattle.sn_width.specs.declared.faults.LayoutFault.TheVariants.{WidthDiffers}
use Rattle.sn_tree.specs.Ends.{tail}
use Rattle.cell_stacks.specs.declared.cell.Cell.{Cell}
use Rattle.cell_stacks.specs.Cells.{IsUniform, HaveOneWidth, accepts, top_cell}
use Rattle.cell_stacks.specs.Stacks.{stack_at, with_stack}
use Rattle.cell_stacks.proofs.StackLemmas.{all_with_stack, at_stack}

-- the first number stands for the second
same_number : (a b : ℕ) → nat_eq a b ≡ true → a ≡ b
same_number a b h = grind arith

all_of_width : {V : Type 0} (a b : ℕ) (cells : List (Cell V)) → a ≡ b → AllByRecursion (λ cell. cell.width ≡ a) cells → AllByRecursion (λ cell. cell.width ≡ b) cells
all_of_width a b cells e all = subst (λ w. AllByRecursion (λ cell. cell.width ≡ w) cells) e all

uniform_below : {V : Type 0} (w : ℕ) (cells : List (Cell V)) → AllByRecursion (λ cell. cell.width ≡ w) cells → IsUniform cells
uniform_below w [] all = tt
uniform_below w (top ∷ below) all = all_of_width w top.width below (sym all.0) all.1

uniform_tail : {V : Type 0} (cells : List (Cell V)) → IsUniform cells → IsUniform (tail cells)
uniform_tail [] all = tt
uniform_tail (top ∷ below) all = uniform_below top.width below all

uniform_on : {V : Type 0} (cell : Cell V) (cells : List (Cell V)) → accepts cell.width cells ≡ true → IsUniform cells → IsUniform (cell ∷ cells)
uniform_on cell [] h all = tt
uniform_on cell (top ∷ below) h all =
    let e : top.width ≡ cell.width = same_number top.width cell.width h in (e, all_of_width top.width cell.width below e all)

abbrev checked : {V : Type 0} → Cell V → Bool → Result (Cell V) LayoutFault
checked top b = cond b (Ok top) (Err WidthDiffers)

width_of_top : {V : Type 0} (absent : LayoutFault) (w : ℕ) (cells : List (Cell V)) (c : Cell V) → top_cell absent w cells ≡ Ok c → IsUniform cells → AllByRecursion (λ cell. cell.width ≡ w) (tail cells)
width_of_top absent w [] c h all = tt
width_of_top absent w (top ∷ below) c h all = of_test (nat_eq top.width w) refl h
  where
    of_test : (b : Bool) → nat_eq top.width w ≡ b → checked top b ≡ Ok c → AllByRecursion (λ cell. cell.width ≡ w) below
    of_test true e g = all_of_width top.width w below (same_number top.width w e) all
    of_test false e g = cc

module _ {K V : Type 0} (cmp : K → K → Ordering) (key : K) (stacks : List (K × List (Cell V))) (all : HaveOneWidth stacks) where
  one_width_with : (cells : List (Cell V)) → IsUniform cells → HaveOneWidth (with_stack cmp key cells stacks)
  one_width_with cells h = all_with_stack cmp (λ p. IsUniform p.1) key cells stacks (λ _. h) all

  pub one_width_pushed : (cell : Cell V) → accepts cell.width (stack_at cmp key stacks) ≡ true → HaveOneWidth (with_stack cmp key (cell ∷ stack_at cmp key stacks) stacks)
  one_width_pushed cell h = one_width_with (cell ∷ stack_at cmp key stacks) (uniform_on cell (stack_at cmp key stacks) h (at_stack cmp IsUniform key stacks tt all))

  pub one_width_popped : HaveOneWidth (with_stack cmp key (tail (stack_at cmp key stacks)) stacks)
  one_width_popped = one_width_with (tail (stack_at cmp key stacks)) (uniform_tail (stack_at cmp key stacks) (at_stack cmp IsUniform key stacks tt all))

  pub one_width_set : (absent : LayoutFault) (w : ℕ) (c cell : Cell V) → top_cell absent w (stack_at cmp key stacks) ≡ Ok c → cell.width ≡ w → HaveOneWidth (with_stack cmp key (cell ∷ tail (stack_at cmp key stacks)) stacks)
  one_width_set absent w c cell h e =
      one_width_with (cell ∷ tail (stack_at cmp key stacks)) (all_of_width w cell.width _ (sym e) (width_of_top absent w (stack_at cmp key stacks) c h (at_stack cmp IsUniform key stacks tt all)))
