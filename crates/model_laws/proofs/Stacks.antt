-- A cell that is put on, set and removed leaves the stacks as they were.
use Rattle.std.proofs.Common.{◌≡◌, ◌∙◌, refl, sym, ap, ap₂, ℕ, Bool, true, false, cond, nat_eq, List, [], ◌∷◌, ◌++◌, Option, Some, None, Result, Ok, Err, arith}
use Rattle.std.specs.Cmp.{IsTotalOrder}
use Rattle.std.specs.List.{filter}
use Rattle.std.specs.Option.{option_cmp}
use Rattle.std.specs.Ordering.{is_lt, is_gt}
use Rattle.std.specs.declared.cmp.Ordering.{Ordering}
use Rattle.std.specs.declared.cmp.Ordering.TheVariants.{Less, Equal, Greater}
use Rattle.std.proofs.lemmas.Cmp.{tied_itself}
use Rattle.std.proofs.lemmas.List.{append-nil}
use Rattle.std.proofs.lemmas.List.Elements.{filter-append}
use Rattle.std.proofs.lemmas.Map.Lookups.{CmpEqualImpliesEq, exact_unsigned, exact_pairs}
use Rattle.sn_width.specs.declared.faults.LayoutFault.{LayoutFault}
use Rattle.sn_width.specs.declared.faults.LayoutFault.TheVariants.{WidthDiffers}
use Rattle.sn_width.specs.declared.ids.NodeId.{NodeId}
use Rattle.sn_width.specs.declared.ids.NameId.{NameId}
use Rattle.sn_tree.specs.Ends.{tail}
use Rattle.sn_tree.specs.Pairs.{pairs_before, pairs_after}
use Rattle.cell_stacks.specs.declared.cell.Cell.{Cell}
use Rattle.cell_stacks.specs.Cells.{accepts, top_cell, unset_cell, set_cell, pushed, popped, with_top}
use Rattle.cell_stacks.specs.Outcome.{on_ok}
use Rattle.cell_stacks.specs.Stacks.{stack_at, with_stack}
use Rattle.metadata_scopes.specs.Scopes.{node_cmp, name_cmp, key_cmp}

-- ---- of two changes at a key the second counts

-- none of what passes one test passes the other
kept_apart : {X : Type 0} (test other : X → Bool) → ((x : X) → other x ≡ true → test x ≡ false) → (xs : List X) → filter test (filter other xs) ≡ []
kept_apart test other h [] = refl
kept_apart {X} test other h (x ∷ xs) = by (other x) refl (kept_apart test other h xs)
  where
    by : (b : Bool) → other x ≡ b → filter test (filter other xs) ≡ [] → filter test (cond b (x ∷ filter other xs) (filter other xs)) ≡ []
    by true e rest = rw (h x e) rest
    by false e rest = rest

kept_twice : {X : Type 0} (test : X → Bool) (xs : List X) → filter test (filter test xs) ≡ filter test xs
kept_twice test [] = refl
kept_twice {X} test (x ∷ xs) = by (test x) refl (kept_twice test xs)
  where
    by : (b : Bool) → test x ≡ b → filter test (filter test xs) ≡ filter test xs → filter test (cond b (x ∷ filter test xs) (filter test xs)) ≡ cond b (x ∷ filter test xs) (filter test xs)
    by true e rest = rw e (ap (λ z. x ∷ z) rest)
    by false e rest = rest

gt_not_lt : (o : Ordering) → is_gt o ≡ true → is_lt o ≡ false
gt_not_lt Less h = cc
gt_not_lt Equal h = cc
gt_not_lt Greater h = refl

lt_not_gt : (o : Ordering) → is_lt o ≡ true → is_gt o ≡ false
lt_not_gt Less h = refl
lt_not_gt Equal h = cc
lt_not_gt Greater h = cc

module _ {K X : Type 0} {cmp : K → K → Ordering} (o : IsTotalOrder cmp) (key : K) (stacks : List (K × List X)) where
  before_with : (xs : List X) → pairs_before cmp key (with_stack cmp key xs stacks) ≡ pairs_before cmp key stacks
  before_with [] =
      filter-append (λ p. is_gt (cmp key p.0)) (pairs_before cmp key stacks) (pairs_after cmp key stacks)
      ∙ ap₂ (λ a b. a ++ b) (kept_twice _ stacks) (kept_apart _ _ (λ p h. lt_not_gt (cmp key p.0) h) stacks) ∙ append-nil (pairs_before cmp key stacks)
  before_with (x ∷ xs) =
      filter-append (λ p. is_gt (cmp key p.0)) (pairs_before cmp key stacks) ((key, x ∷ xs) ∷ pairs_after cmp key stacks)
      ∙ rw (tied_itself o key) (ap₂ (λ a b. a ++ b) (kept_twice _ stacks) (kept_apart _ _ (λ p h. lt_not_gt (cmp key p.0) h) stacks) ∙ append-nil (pairs_before cmp key stacks))

  after_with : (xs : List X) → pairs_after cmp key (with_stack cmp key xs stacks) ≡ pairs_after cmp key stacks
  after_with [] =
      filter-append (λ p. is_lt (cmp key p.0)) (pairs_before cmp key stacks) (pairs_after cmp key stacks)
      ∙ ap₂ (λ a b. a ++ b) (kept_apart _ _ (λ p h. gt_not_lt (cmp key p.0) h) stacks) (kept_twice _ stacks)
  after_with (x ∷ xs) =
      filter-append (λ p. is_lt (cmp key p.0)) (pairs_before cmp key stacks) ((key, x ∷ xs) ∷ pairs_after cmp key stacks)
      ∙ rw (tied_itself o key) (ap₂ (λ a b. a ++ b) (kept_apart _ _ (λ p h. gt_not_lt (cmp key p.0) h) stacks) (kept_twice _ stacks))

  with_stack_twice : (xs ys : List X) → with_stack cmp key ys (with_stack cmp key xs stacks) ≡ with_stack cmp key ys stacks
  with_stack_twice xs [] = ap₂ (λ a b. a ++ b) (before_with xs) (after_with xs)
  with_stack_twice xs (y ∷ ys) = ap₂ (λ a b. a ++ (key, y ∷ ys) ∷ b) (before_with xs) (after_with xs)

-- ---- a cell that is held for a while

accepted : {S : Type 0} (z y : S) (b : Bool) → ◌≡◌ {A = Result S LayoutFault} (cond b (Ok z) (Err WidthDiffers)) (Ok y) → z ≡ y
accepted z y true h = cc
accepted z y false h = cc

ok_same : {S : Type 0} (z y : S) → ◌≡◌ {A = Result S LayoutFault} (Ok z) (Ok y) → z ≡ y
ok_same z y h = cc

same_width : (w : ℕ) → nat_eq w w ≡ true
same_width w = grind arith

module _ {K V : Type 0} {cmp : K → K → Ordering} (o : IsTotalOrder cmp) (absent : LayoutFault) (key : K) (w : ℕ) (stacks put : List (K × List (Cell V)))
    (pushes : pushed cmp key w stacks ≡ Ok put) (value : V)
    (there : (members : List (Cell V)) (old : List (K × List (Cell V))) → stack_at cmp key (with_stack cmp key members old) ≡ members)
    (removed : popped cmp absent key w put ≡ Ok stacks) where
  abbrev cells : List (Cell V)
  cells = stack_at cmp key stacks

  abbrev pub holding : List (K × List (Cell V))
  holding = with_stack cmp key (set_cell w value ∷ stack_at cmp key stacks) put

  on_top : (cell : Cell V) (below : List (Cell V)) → top_cell absent cell.width (cell ∷ below) ≡ Ok cell
  on_top cell below = rw (same_width cell.width) refl

  is_put : stack_at cmp key put ≡ unset_cell w ∷ cells
  is_put = ap (stack_at cmp key) (sym (accepted _ put (accepts w cells) pushes)) ∙ there (unset_cell w ∷ cells) stacks

  pub sets : with_top cmp absent key w value put ≡ Ok holding
  sets =
      ap (λ cells. on_ok (λ (top : Cell V). with_stack cmp key (set_cell w value ∷ tail cells) put) (top_cell absent w cells)) is_put
      ∙ ap (on_ok (λ (top : Cell V). holding)) (on_top (unset_cell w) cells)

  back : with_stack cmp key cells put ≡ stacks
  back = ok_same _ stacks
      (sym (ap (λ s. on_ok (λ (top : Cell V). with_stack cmp key (tail s) put) (top_cell absent w s)) is_put
      ∙ ap (on_ok (λ (top : Cell V). with_stack cmp key cells put)) (on_top (unset_cell w) cells)) ∙ removed)

  pub pops : popped cmp absent key w holding ≡ Ok stacks
  pops =
      ap (λ s. on_ok (λ (top : Cell V). with_stack cmp key (tail s) holding) (top_cell absent w s)) (there (set_cell w value ∷ cells) put)
      ∙ ap (on_ok (λ (top : Cell V). with_stack cmp key cells holding)) (on_top (set_cell w value) cells)
      ∙ ap Ok (with_stack_twice o key put (set_cell w value ∷ cells) cells ∙ back)

-- ---- keys of metadata that compare as equal are the same

exact_options : {T : Type 0} (cmp : T → T → Ordering) → CmpEqualImpliesEq cmp → CmpEqualImpliesEq (option_cmp cmp)
exact_options cmp exact None None h = refl
exact_options cmp exact None (Some y) h = cc
exact_options cmp exact (Some x) None h = cc
exact_options cmp exact (Some x) (Some y) h = ap Some (exact x y h)

exact_nodes : CmpEqualImpliesEq node_cmp
exact_nodes a b h = λ i. record { 0 = exact_unsigned a.0 b.0 h i }

exact_names : CmpEqualImpliesEq name_cmp
exact_names a b h = λ i. record { 0 = exact_unsigned a.0 b.0 h i }

pub exact_keys : (a b : Option NodeId × NameId) → key_cmp a b ≡ Equal → a ≡ b
exact_keys a b h = exact_pairs (option_cmp node_cmp) name_cmp (exact_options node_cmp exact_nodes) exact_names a b h
