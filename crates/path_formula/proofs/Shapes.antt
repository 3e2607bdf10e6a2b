-- The values of terms by their forms, and the kinds of atoms by the forms of their terms.
use Rattle.std.proofs.Common.{◌≡◌, ℕ, zero, suc, ◌+◌, ◌%◌, ◌^◌, Bool, true, false, cond, nat_le, nat_eq, List, [], ◌∷◌, ◌++◌, ◌⊎◌, refl, ap, ◌∙◌, arith, inl, inr}
use Rattle.std.specs.Prelude.{slice_index, replicate}
use Rattle.std.proofs.lemmas.Bool.{eqb-true}
use Rattle.sn_width.specs.declared.ids.SymId.{SymId}
use Rattle.lin_term.specs.Terms.{Part, LinearTerm, weighted_sum, value_at}
use Rattle.path_formula.proofs.SameTerm.{same_term-true}
use Rattle.path_formula.specs.Atoms.{comparison_kind, kind_by_shapes, membership_kind, kind_by_shape}
use Rattle.path_formula.specs.Solutions.{alone}
use Rattle.path_formula.specs.Terms.{shape_of, shape_by_parts, same_term}
use Rattle.path_formula.specs.declared.atom.AtomKind.{AtomKind}
use Rattle.path_formula.specs.declared.atom.AtomKind.TheVariants.{Constant, Single, Pair, Outside}
use Rattle.path_formula.specs.declared.atom.Shape.{Shape}
use Rattle.path_formula.specs.declared.atom.Shape.TheVariants.{Number, Symbol, Other}

one_part-Number : (b : Bool) (s : SymId) → cond b (Symbol s) Other ≡ Number → ⊥
one_part-Number true s h = cc
one_part-Number false s h = cc

-- a term of the form of a constant has no parts
pub shape_by_parts-Number : (ps : List Part) → shape_by_parts ps ≡ Number → ps ≡ []
shape_by_parts-Number [] h = refl
shape_by_parts-Number (p ∷ []) h = absurd (one_part-Number (nat_eq p.1 1) p.0 h)
shape_by_parts-Number (p ∷ q ∷ ps) h = cc

one_part-Symbol : (b : Bool) (r s : SymId) → cond b (Symbol r) Other ≡ Symbol s → (b ≡ true) × (r ≡ s)
one_part-Symbol true r s h = (refl, cc)
one_part-Symbol false r s h = cc

-- a term of the form of a symbol has one part
pub shape_by_parts-Symbol : (ps : List Part) (s : SymId) → shape_by_parts ps ≡ Symbol s → ps ≡ (s, 1) ∷ []
shape_by_parts-Symbol [] s h = cc
shape_by_parts-Symbol (p ∷ []) s h =
    let is = one_part-Symbol (nat_eq p.1 1) p.0 s h in
    let one : p.1 ≡ 1 = eqb-true p.1 1 is.0 in
    λ i. (is.1 i, one i) ∷ []
shape_by_parts-Symbol (p ∷ q ∷ ps) s h = cc

-- the value of a constant
pub value_at-Number : (t : LinearTerm) (values : List ℕ) → shape_of t ≡ Number → value_at t values ≡ t.constant % 2 ^ t.width
value_at-Number t values h =
    ap (λ ps. (t.constant + weighted_sum ps values) % 2 ^ t.width) (shape_by_parts-Number t.parts h) ∙ ap (λ n. n % 2 ^ t.width) (omega arith)

-- the value of a symbol plus a constant
pub value_at-Symbol : (t : LinearTerm) (s : SymId) (values : List ℕ) → shape_of t ≡ Symbol s → value_at t values ≡ (t.constant + slice_index values s.0) % 2 ^ t.width
value_at-Symbol t s values h =
    ap (λ ps. (t.constant + weighted_sum ps values) % 2 ^ t.width) (shape_by_parts-Symbol t.parts s h) ∙ ap (λ n. n % 2 ^ t.width) (omega arith)

index_after_zeros : (n x : ℕ) → slice_index (replicate n 0 ++ x ∷ []) n ≡ x
index_after_zeros zero x = refl
index_after_zeros (suc n) x = index_after_zeros n x

-- the value of a symbol that stands alone
pub slice_index-alone : (s : SymId) (x : ℕ) → slice_index (alone s x) s.0 ≡ x
slice_index-alone s x = index_after_zeros s.0 x

pair_or_outside : (b : Bool) → (cond b Pair Outside ≡ Constant → ⊥) × ((r : SymId) → cond b Pair Outside ≡ Single r → ⊥)
pair_or_outside true = (λ h. cc, λ r h. cc)
pair_or_outside false = (λ h. cc, λ r h. cc)

-- of a constant comparison both terms are constants
kind_by_shapes-Constant : (w : ℕ) (x y : Shape) → kind_by_shapes w x y ≡ Constant → (x ≡ Number) × (y ≡ Number)
kind_by_shapes-Constant w Number Number h = (refl, refl)
kind_by_shapes-Constant w Number (Symbol s) h = cc
kind_by_shapes-Constant w Number Other h = cc
kind_by_shapes-Constant w (Symbol s) Number h = cc
kind_by_shapes-Constant w (Symbol s) (Symbol r) h = absurd ((pair_or_outside (nat_le w 64)).0 h)
kind_by_shapes-Constant w (Symbol s) Other h = cc
kind_by_shapes-Constant w Other y h = cc

-- of a single comparison one term is a constant, and the other the symbol plus a constant
kind_by_shapes-Single : (w : ℕ) (x y : Shape) (s : SymId) → kind_by_shapes w x y ≡ Single s → ((x ≡ Number) × (y ≡ Symbol s)) ⊎ ((x ≡ Symbol s) × (y ≡ Number))
kind_by_shapes-Single w Number Number s h = cc
kind_by_shapes-Single w Number (Symbol r) s h = inl (refl, cc)
kind_by_shapes-Single w Number Other s h = cc
kind_by_shapes-Single w (Symbol r) Number s h = inr (cc, refl)
kind_by_shapes-Single w (Symbol r) (Symbol q) s h = absurd ((pair_or_outside (nat_le w 64)).1 s h)
kind_by_shapes-Single w (Symbol r) Other s h = cc
kind_by_shapes-Single w Other y s h = cc

comparison-Constant : (b : Bool) (k : AtomKind) → cond b Constant k ≡ Constant → (b ≡ true) ⊎ (k ≡ Constant)
comparison-Constant true k h = inl refl
comparison-Constant false k h = inr h

comparison-Single : (b : Bool) (k : AtomKind) (s : SymId) → cond b Constant k ≡ Single s → k ≡ Single s
comparison-Single true k s h = cc
comparison-Single false k s h = h

-- a constant comparison has the same term twice, or two constants
pub comparison_kind-Constant : (a b : LinearTerm) → comparison_kind a b ≡ Constant → (a ≡ b) ⊎ ((shape_of a ≡ Number) × (shape_of b ≡ Number))
comparison_kind-Constant a b h = elim (comparison-Constant (same_term a b) (kind_by_shapes a.width (shape_of a) (shape_of b)) h) [
  | inl same ↦ inl (same_term-true a b same)
  | inr kind ↦ inr (kind_by_shapes-Constant a.width (shape_of a) (shape_of b) kind)
]

-- a single comparison has a constant on one side, and on the other the symbol plus a constant
pub comparison_kind-Single : (a b : LinearTerm) (s : SymId) → comparison_kind a b ≡ Single s → ((shape_of a ≡ Number) × (shape_of b ≡ Symbol s)) ⊎ ((shape_of a ≡ Symbol s) × (shape_of b ≡ Number))
comparison_kind-Single a b s h =
    kind_by_shapes-Single a.width (shape_of a) (shape_of b) s (comparison-Single (same_term a b) (kind_by_shapes a.width (shape_of a) (shape_of b)) s h)

kind_by_shape-Constant : (x : Shape) → kind_by_shape x ≡ Constant → x ≡ Number
kind_by_shape-Constant Number h = refl
kind_by_shape-Constant (Symbol s) h = cc
kind_by_shape-Constant Other h = cc

kind_by_shape-Single : (x : Shape) (s : SymId) → kind_by_shape x ≡ Single s → x ≡ Symbol s
kind_by_shape-Single Number s h = cc
kind_by_shape-Single (Symbol r) s h = cc
kind_by_shape-Single Other s h = cc

pub membership_kind-Constant : (t : LinearTerm) → membership_kind t ≡ Constant → shape_of t ≡ Number
membership_kind-Constant t h = kind_by_shape-Constant (shape_of t) h

pub membership_kind-Single : (t : LinearTerm) (s : SymId) → membership_kind t ≡ Single s → shape_of t ≡ Symbol s
membership_kind-Single t s h = kind_by_shape-Single (shape_of t) s h
