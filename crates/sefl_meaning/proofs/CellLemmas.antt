-- A cell that is put under a key without cells, and then set.
use Rattle.std.proofs.Common.{◌≡◌, ◌∙◌, refl, sym, ap, ℕ, Bool, true, false, cond, if◌then◌else◌, List, [], ◌∷◌, option_map, Result, Ok, Err, filter, true≢false}
use Rattle.std.specs.Prelude.{ok_or, unwrap_or}
use Rattle.std.specs.List.{AllByRecursion}
use Rattle.std.specs.Ordering.{is_eq, is_gt, is_lt}
use Rattle.std.specs.declared.cmp.Ordering.{Ordering}
use Rattle.std.specs.declared.cmp.Ordering.TheVariants.{Equal}
use Rattle.std.proofs.lemmas.Bool.{eq-eqb}
use Rattle.sn_width.specs.declared.faults.LayoutFault.{LayoutFault}
use Rattle.sn_width.specs.declared.faults.LayoutFault.TheVariants.{WidthDiffers, Unset}
use Rattle.sn_tree.specs.Ends.{first, tail}
use Rattle.sn_tree.specs.Pairs.{pairs_after, pairs_before}
use Rattle.cell_stacks.specs.declared.cell.Cell.{Cell}
use Rattle.cell_stacks.specs.Cells.{accepts, pushed, set_cell, top_cell, top_value, unset_cell, with_top}
use Rattle.cell_stacks.specs.Outcome.{and_then, on_ok}
use Rattle.cell_stacks.specs.Stacks.{stack_at, with_stack}
use Rattle.sefl_meaning.specs.Laws.{ChangeLaws}
use Rattle.sefl_meaning.proofs.AllLemmas.{all_append}
use Rattle.sefl_meaning.proofs.Fitting.{all_filter}

abbrev is_given : {A E : Type 0} → Result A E → Bool
is_given (Ok x) = true
is_given (Err e) = false

ok-err : {A E : Type 0} (x : A) (e : E) → ◌≡◌ {A = Result A E} (Ok x) (Err e) → ⊥
ok-err x e h = true≢false (ap is_given h)

filter_none : {X : Type 0} (test : X → Bool) (xs : List X) → AllByRecursion (λ x. test x ≡ false) xs → filter test xs ≡ []
filter_none test [] h = refl
filter_none test (x ∷ xs) h = ap (λ b. cond b (x ∷ filter test xs) (filter test xs)) h.0 ∙ filter_none test xs h.1

-- no cells are found under a key that none of the stacks has
pub stack_none : {K X : Type 0} (cmp : K → K → Ordering) (key : K) (stacks : List (K × List X)) → AllByRecursion (λ p. is_eq (cmp key p.0) ≡ false) stacks
    → stack_at cmp key stacks ≡ []
stack_none cmp key stacks h =
    ap (λ found. unwrap_or (option_map (λ p. p.1) (first found)) []) (filter_none (λ p. is_eq (cmp key p.0)) stacks h)

all_with : {K X : Type 0} (cmp : K → K → Ordering) (key : K) (x : X) (xs : List X) (stacks : List (K × List X)) (P : K × List X → Type 0)
    → AllByRecursion P stacks → P (key, x ∷ xs) → AllByRecursion P (with_stack cmp key (x ∷ xs) stacks)
all_with cmp key x xs stacks P h own =
    all_append P (pairs_before cmp key stacks) ((key, x ∷ xs) ∷ pairs_after cmp key stacks) (all_filter P (λ p. is_gt (cmp key p.0)) stacks h)
    (own, all_filter P (λ p. is_lt (cmp key p.0)) stacks h)

module _ {K V : Type 0} (cmp : K → K → Ordering) (laws : ChangeLaws cmp (Cell V)) (key : K) (w : ℕ) (v : V) (stacks : List (K × List (Cell V))) where
  abbrev pub with_unset : List (K × List (Cell V))
  with_unset = with_stack cmp key (unset_cell w ∷ []) stacks

  abbrev pub with_set : List (K × List (Cell V))
  with_set = with_stack cmp key (set_cell w v ∷ []) with_unset

  pub push_goes : stack_at cmp key stacks ≡ [] → pushed cmp key w stacks ≡ Ok with_unset
  push_goes none = ap (λ cells. if accepts w cells then Ok (with_stack cmp key (unset_cell w ∷ cells) stacks) else Err WidthDiffers) none

  pub set_goes : (absent : LayoutFault) → with_top cmp absent key w v with_unset ≡ Ok with_set
  set_goes absent =
      ap (λ cells. on_ok (λ top. with_stack cmp key (set_cell w v ∷ tail cells) with_unset) (top_cell absent w cells))
      (laws.there key (unset_cell w ∷ []) stacks)
      ∙ ap (λ b. on_ok (λ top. with_set) (if b then Ok (unset_cell {V = V} w) else Err WidthDiffers)) (eq-eqb w w refl)

  pub reads_there : (absent : LayoutFault) → top_value cmp absent key w with_set ≡ Ok v
  reads_there absent =
      ap (λ cells. and_then (top_cell absent w cells) (λ top. ok_or top.value Unset)) (laws.there key (set_cell w v ∷ []) with_unset)
      ∙ ap (λ b. and_then (if b then Ok (set_cell w v) else Err WidthDiffers) (λ top. ok_or top.value Unset)) (eq-eqb w w refl)

  same_stack : (other : K) → (cmp other key ≡ Equal → ⊥) → stack_at cmp other with_set ≡ stack_at cmp other stacks
  same_stack other differs = laws.elsewhere key other (set_cell w v ∷ []) with_unset differs ∙ laws.elsewhere key other (unset_cell w ∷ []) stacks differs

  -- what could be read is read as before
  pub reads_elsewhere : stack_at cmp key stacks ≡ [] → (absent : LayoutFault) (other : K) (size : ℕ) (x : V) → (cmp other key ≡ Equal → other ≡ key)
      → top_value cmp absent other size stacks ≡ Ok x → top_value cmp absent other size with_set ≡ Ok x
  reads_elsewhere none absent other size x same h =
      let differs : cmp other key ≡ Equal → ⊥
      = λ e. ok-err x absent (sym h ∙ ap (λ k. top_value cmp absent k size stacks) (same e)
      ∙ ap (λ cells. and_then (top_cell absent size cells) (λ top. ok_or top.value Unset)) none) in
      ap (λ cells. and_then (top_cell absent size cells) (λ top. ok_or top.value Unset)) (same_stack other differs) ∙ h

  pub none_elsewhere : (other : K) → (cmp other key ≡ Equal → ⊥) → stack_at cmp other stacks ≡ [] → stack_at cmp other with_set ≡ []
  none_elsewhere other differs none = same_stack other differs ∙ none

  pub all_still : (P : K × List (Cell V) → Type 0) → AllByRecursion P stacks → P (key, unset_cell w ∷ []) → P (key, set_cell w v ∷ [])
      → AllByRecursion P with_set
  all_still P h unset set = all_with cmp key (set_cell w v) [] with_unset P (all_with cmp key (unset_cell w) [] stacks P h unset) set
