-- What a node is that this tree alone owns, the old one or a copy, and what a change in place leaves.
use Rattle.std.proofs.Common.{◌≡◌, ℕ, ◌+◌, ◌<◌, max, length, List, ◌∷◌, ◌++◌, ◌⊎◌, inl, inr, refl, sym, ap, ap₂, ◌∙◌, subst, Option, Some, Result, Ok, Err, OnOk, OnErr, IsTrue, is_some, arith, length-append}
use Rattle.std.specs.Cmp.{IsTotalOrder}
use Rattle.std.specs.declared.alloc.Global.{Global}
use Rattle.std.specs.declared.cmp.Ordering.{Ordering}
use Rattle.std.specs.declared.cmp.Ordering.TheVariants.{Less, Equal, Greater}
use Rattle.std.specs.declared.rc.Rc.{Rc}
use Rattle.sn_tree.specs.declared.branch.Node.{Node}
use Rattle.sn_tree.specs.Nodes.{pairs_and_height, IsBalanced, DifferByAtMost, IsSameNode}
use Rattle.sn_tree.specs.Pairs.{IsAscending, pairs_with, value_at}
use Rattle.sn_tree.proofs.Ascending.{ascending_with}
use Rattle.sn_tree.proofs.Around.{NodeFacts, at_node, value_less, value_greater, with_less_ascends, with_greater_ascends, with_equal_ascends, with_equal}

pub record OwnedFacts {K V : Type 0} (cmp : K → K → Ordering) (self : List (K × V) × ℕ) (n : Node K V) : Type 0 where
  pub around : NodeFacts cmp self n.left (n.key, n.value.value) n.right
  pub height : n.height ≡ self.1

pub at_owned : {K V : Type 0} (cmp : K → K → Ordering) (self : List (K × V) × ℕ) (top : Option (Rc (Node K V) Global)) (held : Rc (Node K V) Global) (n : Node K V) → pairs_and_height top ≡ self → IsBalanced cmp top → top ≡ Some held → (n ≡ held.value) ⊎ IsSameNode held.value n → OwnedFacts cmp self n
at_owned cmp self top held n is h e (inl at) =
    let tall : held.value.height ≡ self.1 = ap (λ z. z.1) (ap pairs_and_height (sym e) ∙ is) in
    record { around = at_node cmp self top held n is h e at; height = ap (λ z. z.height) at ∙ tall }
at_owned cmp self top held n is h e (inr same) =
    let f = at_node cmp self top held held.value is h e refl in
    let tall : held.value.height ≡ self.1 = ap (λ z. z.1) (ap pairs_and_height (sym e) ∙ is) in
    let m = held.value in
    let one = subst (λ x. NodeFacts cmp self x (m.key, m.value.value) m.right) (sym same.0) f in
    let two = subst (λ x. NodeFacts cmp self n.left (x, m.value.value) m.right) (sym same.1) one in
    let three = subst (λ x. NodeFacts cmp self n.left (n.key, x) m.right) (sym same.2) two in
    let four = subst (λ x. NodeFacts cmp self n.left (n.key, n.value.value) x) (sym same.3) three in
    record { around = four; height = same.4 ∙ tall }

length_left : {X : Type 0} (xs : List X) (p : X) (ys : List X) → length xs < length (xs ++ p ∷ ys)
length_left xs p ys = Prim.grind (arith, length-append)

length_right : {X : Type 0} (xs : List X) (p : X) (ys : List X) → length ys < length (xs ++ p ∷ ys)
length_right xs p ys = Prim.grind (arith, length-append)

pub shorter_left : {K V : Type 0} {cmp : K → K → Ordering} {self l : List (K × V) × ℕ} {p : K × V} {r : List (K × V) × ℕ} → NodeFacts cmp self l p r → length l.0 < length self.0
shorter_left {l = l} {p = p} {r = r} f = subst (λ z. length l.0 < length z) (sym f.pairs) (length_left l.0 p r.0)

pub shorter_right : {K V : Type 0} {cmp : K → K → Ordering} {self l : List (K × V) × ℕ} {p : K × V} {r : List (K × V) × ℕ} → NodeFacts cmp self l p r → length r.0 < length self.0
shorter_right {l = l} {p = p} {r = r} f = subst (λ z. length r.0 < length z) (sym f.pairs) (length_right l.0 p r.0)

-- a node with its parts replaced is balanced
pub balanced_after : {K V : Type 0} (cmp : K → K → Ordering) (rc : Rc (Node K V) Global) (n : Node K V) → rc.value ≡ n → IsAscending cmp (n.left.0 ++ (n.key, n.value.value) ∷ n.right.0) → n.height ≡ max n.left.1 n.right.1 + 1 → DifferByAtMost 1 n.left.1 n.right.1 → IsBalanced cmp (Some rc)
balanced_after cmp rc n e a h d = subst (λ m. IsAscending cmp (m.left.0 ++ (m.key, m.value.value) ∷ m.right.0) × (m.height ≡ max m.left.1 m.right.1 + 1) × DifferByAtMost 1 m.left.1 m.right.1) (sym e) (a, h, d)

pub pairs_after_change : {K V : Type 0} (rc : Rc (Node K V) Global) (n : Node K V) → rc.value ≡ n → (pairs_and_height (Some rc)).0 ≡ n.left.0 ++ (n.key, n.value.value) ∷ n.right.0
pairs_after_change rc n e = ap (λ m. m.left.0 ++ (m.key, m.value.value) ∷ m.right.0) e

pub on_ok_map : {A E P Q : Type 0} (result : Result A E) → (P → Q) → OnOk result P → OnOk result Q
on_ok_map (Ok x) f h = f h
on_ok_map (Err e) f h = h

module _ {K V : Type 0} {cmp : K → K → Ordering} (o : IsTotalOrder cmp) {self l : List (K × V) × ℕ} {p : K × V} {r : List (K × V) × ℕ} (f : NodeFacts cmp self l p r) (k : K) where
  pub present_left : cmp k p.0 ≡ Less → IsTrue (is_some (value_at cmp k self.0)) → IsTrue (is_some (value_at cmp k l.0))
  present_left h t = subst (λ z. IsTrue (is_some z)) (value_less o f k h) t

  pub present_right : cmp k p.0 ≡ Greater → IsTrue (is_some (value_at cmp k self.0)) → IsTrue (is_some (value_at cmp k r.0))
  present_right h t = subst (λ z. IsTrue (is_some z)) (value_greater o f k h) t

  pub left_changed_ascends : {A E : Type 0} (result : Result A E) (v : V) (m : List (K × V)) → cmp k p.0 ≡ Less → OnOk result (m ≡ pairs_with cmp k v l.0) → OnErr result (m ≡ l.0) → IsAscending cmp (m ++ p ∷ r.0)
  left_changed_ascends (Ok x) v m h put kept = with_less_ascends o f k v m h put
  left_changed_ascends (Err x) v m h put kept = subst (λ z. IsAscending cmp (z ++ p ∷ r.0)) (sym kept) f.ascending

  pub right_changed_ascends : {A E : Type 0} (result : Result A E) (v : V) (m : List (K × V)) → cmp k p.0 ≡ Greater → OnOk result (m ≡ pairs_with cmp k v r.0) → OnErr result (m ≡ r.0) → IsAscending cmp (l.0 ++ p ∷ m)
  right_changed_ascends (Ok x) v m h put kept = with_greater_ascends o f k v m h put
  right_changed_ascends (Err x) v m h put kept = subst (λ z. IsAscending cmp (l.0 ++ p ∷ z)) (sym kept) f.ascending

-- m is n with the value v, whatever holds it
abbrev pub IsSetTo : {K V : Type 0} → V → Node K V → Node K V → Type 0
IsSetTo v n m = (m.left ≡ n.left) × (m.right ≡ n.right) × (m.height ≡ n.height) × (m.value.value ≡ v)

abbrev pub keyed : {K V : Type 0} → K → Node K V → Node K V
keyed k m = record { left = m.left; key = k; value = m.value; right = m.right; height = m.height }

pub set_balanced : {K V : Type 0} {cmp : K → K → Ordering} (o : IsTotalOrder cmp) (self : List (K × V) × ℕ) (n m : Node K V) (k : K) (v : V) (rc : Rc (Node K V) Global) → OwnedFacts cmp self n → cmp k n.key ≡ Equal → IsSetTo v n m → rc.value ≡ keyed k m → IsBalanced cmp (Some rc)
set_balanced {cmp = cmp} o self n m k v rc f h s e =
    let a = with_equal_ascends o f.around k v h in
    let b = subst (λ z. IsAscending cmp (z.0 ++ (k, v) ∷ n.right.0)) (sym s.0) a in
    let c = subst (λ z. IsAscending cmp (m.left.0 ++ (k, v) ∷ z.0)) (sym s.1) b in
    let d = subst (λ z. IsAscending cmp (m.left.0 ++ (k, z) ∷ m.right.0)) (sym s.3) c in
    let tall : m.height ≡ max n.left.1 n.right.1 + 1 = s.2 ∙ f.height ∙ f.around.height in
    let tall2 : m.height ≡ max m.left.1 n.right.1 + 1 = subst (λ z. m.height ≡ max z.1 n.right.1 + 1) (sym s.0) tall in
    let tall3 : m.height ≡ max m.left.1 m.right.1 + 1 = subst (λ z. m.height ≡ max m.left.1 z.1 + 1) (sym s.1) tall2 in
    let near = subst (λ z. DifferByAtMost 1 z.1 n.right.1) (sym s.0) f.around.balanced in
    balanced_after cmp rc (keyed k m) e d tall3 (subst (λ z. DifferByAtMost 1 m.left.1 z.1) (sym s.1) near)

pub set_pairs : {K V : Type 0} {cmp : K → K → Ordering} (o : IsTotalOrder cmp) (self : List (K × V) × ℕ) (n m : Node K V) (k : K) (v : V) (rc : Rc (Node K V) Global) → OwnedFacts cmp self n → cmp k n.key ≡ Equal → IsSetTo v n m → rc.value ≡ keyed k m → (pairs_and_height (Some rc)).0 ≡ pairs_with cmp k v self.0
set_pairs {cmp = cmp} o self n m k v rc f h s e =
    let a : m.left.0 ++ (k, m.value.value) ∷ m.right.0 ≡ n.left.0 ++ (k, m.value.value) ∷ n.right.0 = ap₂ (λ x y. x.0 ++ (k, m.value.value) ∷ y.0) s.0 s.1 in
    pairs_after_change rc (keyed k m) e ∙ a ∙ ap (λ z. n.left.0 ++ (k, z) ∷ n.right.0) s.3 ∙ sym (with_equal o f.around k v h)

pub replaced_ascends : {K V A E : Type 0} {cmp : K → K → Ordering} (o : IsTotalOrder cmp) (result : Result A E) (k : K) (v : V) (ps m : List (K × V)) → OnOk result (m ≡ pairs_with cmp k v ps) → OnErr result (m ≡ ps) → IsAscending cmp ps → IsAscending cmp m
replaced_ascends {cmp = cmp} o (Ok x) k v ps m put kept a = subst (IsAscending cmp) (sym put) (ascending_with o k v ps a)
replaced_ascends {cmp = cmp} o (Err x) k v ps m put kept a = subst (IsAscending cmp) (sym kept) a
