-- What the truth of a formula goes by.
use Rattle.std.proofs.Common.{◌≡◌, ℕ, ◌+◌, ◌%◌, ◌^◌, Bool, true, not, ◌&&◌, ◌||◌, List, ◌++◌, ◌⊎◌, refl, sym, ap, ap₂, ◌∙◌, arith, inl, inr}
use Rattle.std.specs.Prelude.{slice_index}
use Rattle.std.specs.List.{list_all}
use Rattle.std.proofs.lemmas.Bool.{and_parts, eqb-true}
use Rattle.std.proofs.lemmas.Bool.Decides.{nat_tests}
use Rattle.std.proofs.lemmas.List.Folds.{list_all-append}
use Rattle.sn_width.specs.Rel.{relates}
use Rattle.sn_width.specs.declared.ids.SymId.{SymId}
use Rattle.sn_width.specs.declared.rel.Rel.{Rel}
use Rattle.sn_width.specs.declared.rel.Rel.TheVariants.{Eq, Ne, Lt, Le, Gt, Ge}
use Rattle.lin_term.specs.Terms.{LinearTerm, value_at}
use Rattle.sn_ranges.specs.Ranges.{RangeSet, is_member}
use Rattle.path_formula.specs.Atoms.{comparison_kind, membership_kind}
use Rattle.path_formula.specs.Formulas.{FormulaTree, always, compared, belongs, all_of, any_of, opposite, Formulas, no_formulas, formula, truth_at, all_true, any_true}
use Rattle.path_formula.specs.Kinds.{Atom, atoms_of, atoms_among, is_constant_kind, is_kind_on}
use Rattle.path_formula.specs.Terms.{shape_of}
use Rattle.path_formula.specs.declared.atom.AtomKind.{AtomKind}
use Rattle.path_formula.specs.declared.atom.AtomKind.TheVariants.{Constant, Single, Pair, Outside}
use Rattle.path_formula.specs.declared.atom.Shape.TheVariants.{Number, Symbol}
use Rattle.path_formula.proofs.Shapes.{value_at-Number, value_at-Symbol, comparison_kind-Constant, comparison_kind-Single, membership_kind-Constant, membership_kind-Single}

-- whether a number stands in a relation to itself does not go by the number
relates-self : (rel : Rel) (x y : ℕ) → relates rel x x ≡ relates rel y y
relates-self Eq x y = grind (arith, nat_tests)
relates-self Ne x y = grind (arith, nat_tests)
relates-self Lt x y = grind (arith, nat_tests)
relates-self Le x y = grind (arith, nat_tests)
relates-self Gt x y = grind (arith, nat_tests)
relates-self Ge x y = grind (arith, nat_tests)

value_at-fixed : (t : LinearTerm) (vs us : List ℕ) → shape_of t ≡ Number → value_at t vs ≡ value_at t us
value_at-fixed t vs us h = value_at-Number t vs h ∙ sym (value_at-Number t us h)

value_at-on : (t : LinearTerm) (s : SymId) (vs us : List ℕ) → shape_of t ≡ Symbol s → slice_index vs s.0 ≡ slice_index us s.0 → value_at t vs ≡ value_at t us
value_at-on t s vs us h e = value_at-Symbol t s vs h ∙ ap (λ n. (t.constant + n) % 2 ^ t.width) e ∙ sym (value_at-Symbol t s us h)

-- a constant comparison has one truth
pub comparison-fixed : (rel : Rel) (a b : LinearTerm) (vs us : List ℕ) → comparison_kind a b ≡ Constant → relates rel (value_at a vs) (value_at b vs) ≡ relates rel (value_at a us) (value_at b us)
comparison-fixed rel a b vs us h = elim (comparison_kind-Constant a b h) [
  | inl same ↦
      ap (λ t. relates rel (value_at a vs) (value_at t vs)) (sym same) ∙ relates-self rel (value_at a vs) (value_at a us) ∙ ap (λ t. relates rel (value_at a us) (value_at t us)) same
  | inr numbers ↦ ap₂ (relates rel) (value_at-fixed a vs us numbers.0) (value_at-fixed b vs us numbers.1)
]

-- a constant membership has one truth
pub membership-fixed : (t : LinearTerm) (set : RangeSet) (vs us : List ℕ) → membership_kind t ≡ Constant → is_member set.pairs (value_at t vs) ≡ is_member set.pairs (value_at t us)
membership-fixed t set vs us h = ap (is_member set.pairs) (value_at-fixed t vs us (membership_kind-Constant t h))

comparison-single : (rel : Rel) (a b : LinearTerm) (s : SymId) (vs us : List ℕ) → comparison_kind a b ≡ Single s → slice_index vs s.0 ≡ slice_index us s.0 → relates rel (value_at a vs) (value_at b vs) ≡ relates rel (value_at a us) (value_at b us)
comparison-single rel a b s vs us h e = elim (comparison_kind-Single a b s h) [
  | inl right ↦ ap₂ (relates rel) (value_at-fixed a vs us right.0) (value_at-on b s vs us right.1 e)
  | inr left ↦ ap₂ (relates rel) (value_at-on a s vs us left.0 e) (value_at-fixed b vs us left.1)
]

-- a kind that passes the test of one symbol is constant, or single on it
pub kind_on : (s : SymId) (k : AtomKind) → is_kind_on s k ≡ true → (k ≡ Constant) ⊎ (k ≡ Single s)
kind_on s Constant h = inl refl
kind_on s (Single r) h = let same : r.0 ≡ s.0 = eqb-true r.0 s.0 h in inr (λ i. Single (record { 0 = same i }))
kind_on s Pair h = cc
kind_on s Outside h = cc

kind_constant : (k : AtomKind) → is_constant_kind k ≡ true → k ≡ Constant
kind_constant Constant h = refl
kind_constant (Single r) h = cc
kind_constant Pair h = cc
kind_constant Outside h = cc

-- the truth stays where that of each atom of a kind that passes the test does, and each atom passes
module _ (p : AtomKind → Bool) (vs us : List ℕ)
    (compares : (rel : Rel) (a b : LinearTerm) → p (comparison_kind a b) ≡ true → relates rel (value_at a vs) (value_at b vs) ≡ relates rel (value_at a us) (value_at b us))
    (tests : (t : LinearTerm) (set : RangeSet) → p (membership_kind t) ≡ true → is_member set.pairs (value_at t vs) ≡ is_member set.pairs (value_at t us)) where
  abbrev passes : List Atom → Bool
  passes atoms = list_all (λ (atom : Atom). p atom.0) atoms

  of_both : (xs ys : List Atom) → passes (xs ++ ys) ≡ true → (passes xs ≡ true) × (passes ys ≡ true)
  of_both xs ys h = and_parts (passes xs) (passes ys) (sym (list_all-append (λ (atom : Atom). p atom.0) xs ys) ∙ h)

  mutual
    pub truth_at-same : (f : FormulaTree) → passes (atoms_of f) ≡ true → truth_at f vs ≡ truth_at f us
    truth_at-same (always truth) h = refl
    truth_at-same (compared rel a b) h = compares rel a b (and_parts (p (comparison_kind a b)) true h).0
    truth_at-same (belongs t set) h = tests t set (and_parts (p (membership_kind t)) true h).0
    truth_at-same (all_of fs) h = all_true-same fs h
    truth_at-same (any_of fs) h = any_true-same fs h
    truth_at-same (opposite f) h = ap not (truth_at-same f h)

    pub all_true-same : (fs : Formulas) → passes (atoms_among fs) ≡ true → all_true fs vs ≡ all_true fs us
    all_true-same no_formulas h = refl
    all_true-same (formula f fs) h =
        let both = of_both (atoms_of f) (atoms_among fs) h in
        ap₂ ◌&&◌ (truth_at-same f both.0) (all_true-same fs both.1)

    pub any_true-same : (fs : Formulas) → passes (atoms_among fs) ≡ true → any_true fs vs ≡ any_true fs us
    any_true-same no_formulas h = refl
    any_true-same (formula f fs) h =
        let both = of_both (atoms_of f) (atoms_among fs) h in
        ap₂ ◌||◌ (truth_at-same f both.0) (any_true-same fs both.1)

-- a formula whose atoms are constant has one truth
pub truth_at-fixed : (f : FormulaTree) (vs us : List ℕ) → list_all (λ (atom : Atom). is_constant_kind atom.0) (atoms_of f) ≡ true → truth_at f vs ≡ truth_at f us
truth_at-fixed f vs us h =
    truth_at-same is_constant_kind vs us (λ rel a b k. comparison-fixed rel a b vs us (kind_constant (comparison_kind a b) k)) (λ t set k. membership-fixed t set vs us (kind_constant (membership_kind t) k)) f h

comparison-on : (s : SymId) (rel : Rel) (a b : LinearTerm) (vs us : List ℕ) → slice_index vs s.0 ≡ slice_index us s.0 → is_kind_on s (comparison_kind a b) ≡ true → relates rel (value_at a vs) (value_at b vs) ≡ relates rel (value_at a us) (value_at b us)
comparison-on s rel a b vs us e k = elim (kind_on s (comparison_kind a b) k) [
  | inl constant ↦ comparison-fixed rel a b vs us constant
  | inr single ↦ comparison-single rel a b s vs us single e
]

membership-on : (s : SymId) (t : LinearTerm) (set : RangeSet) (vs us : List ℕ) → slice_index vs s.0 ≡ slice_index us s.0 → is_kind_on s (membership_kind t) ≡ true → is_member set.pairs (value_at t vs) ≡ is_member set.pairs (value_at t us)
membership-on s t set vs us e k = elim (kind_on s (membership_kind t) k) [
  | inl constant ↦ membership-fixed t set vs us constant
  | inr single ↦ ap (is_member set.pairs) (value_at-on t s vs us (membership_kind-Single t s single) e)
]

-- a formula whose atoms are constant or single on one symbol goes by its value
pub truth_at-on : (s : SymId) (f : FormulaTree) (vs us : List ℕ) → slice_index vs s.0 ≡ slice_index us s.0 → list_all (λ (atom : Atom). is_kind_on s atom.0) (atoms_of f) ≡ true → truth_at f vs ≡ truth_at f us
truth_at-on s f vs us e h =
    truth_at-same (is_kind_on s) vs us (λ rel a b k. comparison-on s rel a b vs us e k) (λ t set k. membership-on s t set vs us e k) f h
