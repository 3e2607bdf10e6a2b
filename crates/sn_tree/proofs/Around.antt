-- What the pairs of a node are, at a key that is less, equal or greater than the node's.
use Rattle.std.proofs.Common.{◌≡◌, ℕ, ◌+◌, max, List, [], ◌∷◌, ◌++◌, refl, sym, ap, ap₂, ◌∙◌, subst, append_assoc, Option, Some, None}
use Rattle.std.specs.Cmp.{IsTotalOrder}
use Rattle.std.specs.Option.{option_map}
use Rattle.std.specs.declared.alloc.Global.{Global}
use Rattle.std.specs.declared.cmp.Ordering.{Ordering}
use Rattle.std.specs.declared.cmp.Ordering.TheVariants.{Less, Equal, Greater}
use Rattle.std.specs.declared.rc.Rc.{Rc}
use Rattle.sn_tree.specs.declared.branch.Node.{Node}
use Rattle.sn_tree.specs.Ends.{first, last}
use Rattle.sn_tree.specs.Nodes.{pairs_and_height, IsBalanced, DifferByAtMost}
use Rattle.sn_tree.specs.Pairs.{IsAscending, pairs_before, pairs_after, pairs_with, pairs_without, value_at, next_after, last_before}
use Rattle.sn_tree.proofs.Ascending.{parts_less, parts_equal, parts_greater, equal_before, equal_after, ascending_with, ascending_without}

-- what a tree with a node at its top is
pub record NodeFacts {K V : Type 0} (cmp : K → K → Ordering) (self l : List (K × V) × ℕ) (p : K × V) (r : List (K × V) × ℕ) : Type 0 where
  pub pairs : self.0 ≡ l.0 ++ p ∷ r.0
  pub height : self.1 ≡ max l.1 r.1 + 1
  pub ascending : IsAscending cmp (l.0 ++ p ∷ r.0)
  pub balanced : DifferByAtMost 1 l.1 r.1

pub at_node : {K V : Type 0} (cmp : K → K → Ordering) (self : List (K × V) × ℕ) (top : Option (Rc (Node K V) Global)) (held : Rc (Node K V) Global) (n : Node K V) → pairs_and_height top ≡ self → IsBalanced cmp top → top ≡ Some held → n ≡ held.value → NodeFacts cmp self n.left (n.key, n.value.value) n.right
at_node cmp self top held n is h e at =
    let b = subst (IsBalanced cmp) e h in
    let view : pairs_and_height (Some held) ≡ self = ap pairs_and_height (sym e) ∙ is in
    let facts : NodeFacts cmp self held.value.left (held.value.key, held.value.value.value) held.value.right = record { pairs = sym (ap (λ z. z.0) view); height = sym (ap (λ z. z.1) view) ∙ b.1; ascending = b.0; balanced = b.2 } in
    subst (λ m. NodeFacts cmp self m.left (m.key, m.value.value) m.right) (sym at) facts

append_not_nil : {X : Type 0} (xs : List X) (p : X) (ys : List X) → xs ++ p ∷ ys ≡ [] → ⊥
append_not_nil [] p ys h = cc
append_not_nil (x ∷ xs) p ys h = cc

-- a tree with a node at its top has a pair
pub some_has_pairs : {K V : Type 0} (self : List (K × V) × ℕ) (top : Option (Rc (Node K V) Global)) (held : Rc (Node K V) Global) → pairs_and_height top ≡ self → top ≡ Some held → self.0 ≡ [] → ⊥
some_has_pairs self top held is e h =
    let view : pairs_and_height (Some held) ≡ self = ap pairs_and_height (sym e) ∙ is in
    append_not_nil held.value.left.0 (held.value.key, held.value.value.value) held.value.right.0 (ap (λ z. z.0) view ∙ h)

last_append : {X : Type 0} (xs : List X) (y : X) (ys : List X) → last (xs ++ y ∷ ys) ≡ last (y ∷ ys)
last_append [] y ys = refl
last_append (x ∷ []) y ys = refl
last_append (x ∷ z ∷ xs) y ys = last_append (z ∷ xs) y ys

last_none : {X : Type 0} (y : X) (ys : List X) → last ys ≡ None → last (y ∷ ys) ≡ Some y
last_none y [] h = refl
last_none y (x ∷ []) h = cc
last_none y (x ∷ z ∷ ys) h = absurd (some_last z ys h)
  where
    some_last : {X : Type 0} (z : X) (ys : List X) → last (z ∷ ys) ≡ None → ⊥
    some_last z [] h = cc
    some_last z (x ∷ ys) h = some_last x ys h

last_some : {X : Type 0} (y q : X) (ys : List X) → last ys ≡ Some q → last (y ∷ ys) ≡ Some q
last_some y q [] h = cc
last_some y q (x ∷ ys) h = h

first_none : {X : Type 0} (xs : List X) (p : X) (ys : List X) → first xs ≡ None → first (xs ++ p ∷ ys) ≡ Some p
first_none [] p ys h = refl
first_none (x ∷ xs) p ys h = cc

first_some : {X : Type 0} (xs : List X) (p q : X) (ys : List X) → first xs ≡ Some q → first (xs ++ p ∷ ys) ≡ Some q
first_some [] p q ys h = cc
first_some (x ∷ xs) p q ys h = h

module _ {K V : Type 0} {cmp : K → K → Ordering} (o : IsTotalOrder cmp) {self l : List (K × V) × ℕ} {p : K × V} {r : List (K × V) × ℕ} (f : NodeFacts cmp self l p r) (k : K) where
  pub value_less : cmp k p.0 ≡ Less → value_at cmp k self.0 ≡ value_at cmp k l.0
  value_less h = ap (value_at cmp k) f.pairs ∙ ap (λ z. option_map (λ q. q.1) (first z)) (parts_less o k l.0 p r.0 f.ascending h).at

  pub value_equal : cmp k p.0 ≡ Equal → value_at cmp k self.0 ≡ Some p.1
  value_equal h = ap (value_at cmp k) f.pairs ∙ ap (λ z. option_map (λ q. q.1) (first z)) (parts_equal o k l.0 p r.0 f.ascending h).at

  pub value_greater : cmp k p.0 ≡ Greater → value_at cmp k self.0 ≡ value_at cmp k r.0
  value_greater h = ap (value_at cmp k) f.pairs ∙ ap (λ z. option_map (λ q. q.1) (first z)) (parts_greater o k l.0 p r.0 f.ascending h).at

  pub next_less_none : cmp k p.0 ≡ Less → next_after cmp k l.0 ≡ None → next_after cmp k self.0 ≡ Some p
  next_less_none h e = ap (next_after cmp k) f.pairs ∙ ap first (parts_less o k l.0 p r.0 f.ascending h).after ∙ first_none (pairs_after cmp k l.0) p r.0 e

  pub next_less_some : (q : K × V) → cmp k p.0 ≡ Less → next_after cmp k l.0 ≡ Some q → next_after cmp k self.0 ≡ Some q
  next_less_some q h e = ap (next_after cmp k) f.pairs ∙ ap first (parts_less o k l.0 p r.0 f.ascending h).after ∙ first_some (pairs_after cmp k l.0) p q r.0 e

  pub next_equal : cmp k p.0 ≡ Equal → next_after cmp k self.0 ≡ next_after cmp k r.0
  next_equal h = ap (next_after cmp k) f.pairs ∙ ap first (equal_after o k l.0 p r.0 f.ascending h)

  pub next_greater : cmp k p.0 ≡ Greater → next_after cmp k self.0 ≡ next_after cmp k r.0
  next_greater h = ap (next_after cmp k) f.pairs ∙ ap first (parts_greater o k l.0 p r.0 f.ascending h).after

  pub last_less : cmp k p.0 ≡ Less → last_before cmp k self.0 ≡ last_before cmp k l.0
  last_less h = ap (last_before cmp k) f.pairs ∙ ap last (parts_less o k l.0 p r.0 f.ascending h).before

  pub last_equal : cmp k p.0 ≡ Equal → last_before cmp k self.0 ≡ last_before cmp k l.0
  last_equal h = ap (last_before cmp k) f.pairs ∙ ap last (equal_before o k l.0 p r.0 f.ascending h)

  pub last_greater_none : cmp k p.0 ≡ Greater → last_before cmp k r.0 ≡ None → last_before cmp k self.0 ≡ Some p
  last_greater_none h e =
      ap (last_before cmp k) f.pairs ∙ ap last (parts_greater o k l.0 p r.0 f.ascending h).before ∙ last_append l.0 p (pairs_before cmp k r.0) ∙ last_none p (pairs_before cmp k r.0) e

  pub last_greater_some : (q : K × V) → cmp k p.0 ≡ Greater → last_before cmp k r.0 ≡ Some q → last_before cmp k self.0 ≡ Some q
  last_greater_some q h e =
      ap (last_before cmp k) f.pairs ∙ ap last (parts_greater o k l.0 p r.0 f.ascending h).before ∙ last_append l.0 p (pairs_before cmp k r.0) ∙ last_some p q (pairs_before cmp k r.0) e

  pub with_less : (v : V) → cmp k p.0 ≡ Less → pairs_with cmp k v self.0 ≡ pairs_with cmp k v l.0 ++ p ∷ r.0
  with_less v h =
      let parts = parts_less o k l.0 p r.0 f.ascending h in
      ap (pairs_with cmp k v) f.pairs ∙ ap₂ (λ a b. a ++ (k, v) ∷ b) parts.before parts.after ∙ sym (append_assoc (pairs_before cmp k l.0) ((k, v) ∷ pairs_after cmp k l.0) (p ∷ r.0))

  pub with_equal : (v : V) → cmp k p.0 ≡ Equal → pairs_with cmp k v self.0 ≡ l.0 ++ (k, v) ∷ r.0
  with_equal v h =
      let parts = parts_equal o k l.0 p r.0 f.ascending h in
      ap (pairs_with cmp k v) f.pairs ∙ ap₂ (λ a b. a ++ (k, v) ∷ b) parts.before parts.after

  pub with_greater : (v : V) → cmp k p.0 ≡ Greater → pairs_with cmp k v self.0 ≡ l.0 ++ p ∷ pairs_with cmp k v r.0
  with_greater v h =
      let parts = parts_greater o k l.0 p r.0 f.ascending h in
      ap (pairs_with cmp k v) f.pairs ∙ ap₂ (λ a b. a ++ (k, v) ∷ b) parts.before parts.after ∙ append_assoc l.0 (p ∷ pairs_before cmp k r.0) ((k, v) ∷ pairs_after cmp k r.0)

  pub without_less : cmp k p.0 ≡ Less → pairs_without cmp k self.0 ≡ pairs_without cmp k l.0 ++ p ∷ r.0
  without_less h =
      let parts = parts_less o k l.0 p r.0 f.ascending h in
      ap (pairs_without cmp k) f.pairs ∙ ap₂ (λ a b. a ++ b) parts.before parts.after ∙ sym (append_assoc (pairs_before cmp k l.0) (pairs_after cmp k l.0) (p ∷ r.0))

  pub without_equal : cmp k p.0 ≡ Equal → pairs_without cmp k self.0 ≡ l.0 ++ r.0
  without_equal h =
      let parts = parts_equal o k l.0 p r.0 f.ascending h in
      ap (pairs_without cmp k) f.pairs ∙ ap₂ (λ a b. a ++ b) parts.before parts.after

  pub without_greater : cmp k p.0 ≡ Greater → pairs_without cmp k self.0 ≡ l.0 ++ p ∷ pairs_without cmp k r.0
  without_greater h =
      let parts = parts_greater o k l.0 p r.0 f.ascending h in
      ap (pairs_without cmp k) f.pairs ∙ ap₂ (λ a b. a ++ b) parts.before parts.after ∙ append_assoc l.0 (p ∷ pairs_before cmp k r.0) (pairs_after cmp k r.0)

  self_ascends : IsAscending cmp self.0
  self_ascends = subst (IsAscending cmp) (sym f.pairs) f.ascending

  -- what a change of a side leaves ascends
  pub with_less_ascends : (v : V) (m : List (K × V)) → cmp k p.0 ≡ Less → m ≡ pairs_with cmp k v l.0 → IsAscending cmp (m ++ p ∷ r.0)
  with_less_ascends v m h e = subst (IsAscending cmp) (with_less v h ∙ ap (λ z. z ++ p ∷ r.0) (sym e)) (ascending_with o k v self.0 self_ascends)

  pub with_equal_ascends : (v : V) → cmp k p.0 ≡ Equal → IsAscending cmp (l.0 ++ (k, v) ∷ r.0)
  with_equal_ascends v h = subst (IsAscending cmp) (with_equal v h) (ascending_with o k v self.0 self_ascends)

  pub with_greater_ascends : (v : V) (m : List (K × V)) → cmp k p.0 ≡ Greater → m ≡ pairs_with cmp k v r.0 → IsAscending cmp (l.0 ++ p ∷ m)
  with_greater_ascends v m h e = subst (IsAscending cmp) (with_greater v h ∙ ap (λ z. l.0 ++ p ∷ z) (sym e)) (ascending_with o k v self.0 self_ascends)

  pub without_less_ascends : (m : List (K × V)) → cmp k p.0 ≡ Less → m ≡ pairs_without cmp k l.0 → IsAscending cmp (m ++ p ∷ r.0)
  without_less_ascends m h e = subst (IsAscending cmp) (without_less h ∙ ap (λ z. z ++ p ∷ r.0) (sym e)) (ascending_without o k self.0 self_ascends)

  pub without_equal_ascends : cmp k p.0 ≡ Equal → IsAscending cmp (l.0 ++ r.0)
  without_equal_ascends h = subst (IsAscending cmp) (without_equal h) (ascending_without o k self.0 self_ascends)

  pub without_greater_ascends : (m : List (K × V)) → cmp k p.0 ≡ Greater → m ≡ pairs_without cmp k r.0 → IsAscending cmp (l.0 ++ p ∷ m)
  without_greater_ascends m h e = subst (IsAscending cmp) (without_greater h ∙ ap (λ z. l.0 ++ p ∷ z) (sym e)) (ascending_without o k self.0 self_ascends)

  -- what a change of a side makes of the whole
  pub with_less_whole : (v : V) (m : List (K × V)) → cmp k p.0 ≡ Less → m ≡ pairs_with cmp k v l.0 → m ++ p ∷ r.0 ≡ pairs_with cmp k v self.0
  with_less_whole v m h e = ap (λ z. z ++ p ∷ r.0) e ∙ sym (with_less v h)

  pub with_greater_whole : (v : V) (m : List (K × V)) → cmp k p.0 ≡ Greater → m ≡ pairs_with cmp k v r.0 → l.0 ++ p ∷ m ≡ pairs_with cmp k v self.0
  with_greater_whole v m h e = ap (λ z. l.0 ++ p ∷ z) e ∙ sym (with_greater v h)

  pub without_less_whole : (m : List (K × V)) → cmp k p.0 ≡ Less → m ≡ pairs_without cmp k l.0 → m ++ p ∷ r.0 ≡ pairs_without cmp k self.0
  without_less_whole m h e = ap (λ z. z ++ p ∷ r.0) e ∙ sym (without_less h)

  pub without_greater_whole : (m : List (K × V)) → cmp k p.0 ≡ Greater → m ≡ pairs_without cmp k r.0 → l.0 ++ p ∷ m ≡ pairs_without cmp k self.0
  without_greater_whole m h e = ap (λ z. l.0 ++ p ∷ z) e ∙ sym (without_greater h)
