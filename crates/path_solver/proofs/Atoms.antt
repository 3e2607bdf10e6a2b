-- The cases of a formula, by its atoms.
use Rattle.std.proofs.Common.{◌≡◌, ℕ, ◌≤◌, Bool, true, false, cond, not, ◌||◌, nat_eq, nat_le, List, [], ◌∷◌, refl, sym, ap, ◌∙◌, arith, Some, ◌⊎◌, inl, inr}
use Rattle.std.specs.Prelude.{slice_get}
use Rattle.std.proofs.lemmas.Bool.{eq-eqb, eqb-true}
use Rattle.sn_width.specs.declared.ids.SymId.{SymId}
use Rattle.sn_width.specs.declared.rel.Rel.{Rel}
use Rattle.lin_term.specs.Terms.{LinearTerm, Part}
use Rattle.sn_ranges.specs.Ranges.{RangeSet}
use Rattle.path_formula.specs.Atoms.{comparison_kind, membership_kind, kind_by_shapes, kind_by_shape}
use Rattle.path_formula.specs.Formulas.{FormulaTree, always, compared, belongs, all_of, any_of, opposite, Formulas, no_formulas, formula, truth_at}
use Rattle.path_formula.specs.Kinds.{is_constant_kind}
use Rattle.path_formula.specs.Solutions.{agrees, alone}
use Rattle.path_formula.specs.Terms.{shape_of, shape_by_parts, same_term}
use Rattle.path_formula.specs.Typed.{IsTyped, AreTyped, PartsAreTyped}
use Rattle.path_formula.specs.declared.atom.AtomKind.{AtomKind}
use Rattle.path_formula.specs.declared.atom.AtomKind.TheVariants.{Constant, Single, Pair, Outside}
use Rattle.path_formula.specs.declared.atom.Shape.{Shape}
use Rattle.path_formula.specs.declared.atom.Shape.TheVariants.{Number, Symbol, Other}
use Rattle.path_formula.specs.Cases.{constant_cases, relation_with, cases_by_shapes, atom_cases, cases_of, cases_of_all, cases_of_any}
use Rattle.path_formula.specs.Members.{Member, member_of}
use Rattle.path_formula.proofs.MemberLemmas.{GoesDown, goes_down}
use Rattle.path_formula.specs.Splits.{AtomCanSplit, CanSplit, EachCanSplit}
use Rattle.path_cond.specs.Coupled.{stands_in, occurs_in, occurs_among}
use Rattle.path_solver.specs.Bounds.{EachAreBetween}
use Rattle.path_solver.proofs.Goodness.{each_append, each_joined, single_between, pair_between}

pub or_left : (a b : Bool) → a ≡ true → (a || b) ≡ true
or_left true b h = refl
or_left false b h = absurd (cc)

pub or_right : (a b : Bool) → b ≡ true → (a || b) ≡ true
or_right true b h = refl
or_right false b h = h

pub or_cases : (a b : Bool) → (a || b) ≡ true → (a ≡ true) ⊎ (b ≡ true)
or_cases true b h = inl refl
or_cases false b h = inr h

one_part : (s : SymId) (p : Part) (b : Bool) → cond b (Symbol p.0) Other ≡ Symbol s → stands_in s (p ∷ []) ≡ true
one_part s p true e =
    let same : p.0 ≡ s = cc in
    ap (λ (t : Bool). t || false) (eq-eqb p.0.0 s.0 (ap (λ (r : SymId). r.0) same))
one_part s p false e = absurd (cc)

-- the symbol of a form stands in the parts
shape_stands : (s : SymId) (parts : List Part) → shape_by_parts parts ≡ Symbol s → stands_in s parts ≡ true
shape_stands s [] e = absurd (cc)
shape_stands s (p ∷ []) e = one_part s p (nat_eq p.1 1) e
shape_stands s (p ∷ q ∷ ps) e = absurd (cc)

single_shapes : (s : SymId) (width : ℕ) (x y : Shape) → kind_by_shapes width x y ≡ Single s → (x ≡ Symbol s) ⊎ (y ≡ Symbol s)
single_shapes s width Number Number e = absurd (cc)
single_shapes s width Number (Symbol r) e = let same : r ≡ s = cc in inr (ap Symbol same)
single_shapes s width Number Other e = absurd (cc)
single_shapes s width (Symbol r) Number e = let same : r ≡ s = cc in inl (ap Symbol same)
single_shapes s width (Symbol r) (Symbol q) e = by_width (nat_le width 64) e
  where
    by_width : (b : Bool) → cond b Pair Outside ≡ Single s → (Symbol r ≡ Symbol s) ⊎ (Symbol q ≡ Symbol s)
    by_width true e = absurd (cc)
    by_width false e = absurd (cc)
single_shapes s width (Symbol r) Other e = absurd (cc)
single_shapes s width Other y e = absurd (cc)

-- the symbol of a comparison that is single stands in it
single_by : (s : SymId) (left right : LinearTerm) (b : Bool)
    → cond b Constant (kind_by_shapes left.width (shape_of left) (shape_of right)) ≡ Single s
    → (stands_in s left.parts || stands_in s right.parts) ≡ true
single_by s left right true e = absurd (cc)
single_by s left right false e =
    elim (single_shapes s left.width (shape_of left) (shape_of right) e) [
      | inl x ↦ or_left (stands_in s left.parts) (stands_in s right.parts) (shape_stands s left.parts x)
      | inr y ↦ or_right (stands_in s left.parts) (stands_in s right.parts) (shape_stands s right.parts y)
    ]

single_stands : (s : SymId) (left right : LinearTerm) → comparison_kind left right ≡ Single s
    → (stands_in s left.parts || stands_in s right.parts) ≡ true
single_stands s left right e = single_by s left right (same_term left right) e

shape_single : (s : SymId) (x : Shape) → kind_by_shape x ≡ Single s → x ≡ Symbol s
shape_single s Number e = absurd (cc)
shape_single s (Symbol r) e = let same : r ≡ s = cc in ap Symbol same
shape_single s Other e = absurd (cc)

member_stands : (s : SymId) (term : LinearTerm) → membership_kind term ≡ Single s → stands_in s term.parts ≡ true
member_stands s term e = shape_stands s term.parts (shape_single s (shape_of term) e)

constant_between : (test : SymId → Bool) (truth : Bool) → EachAreBetween test (constant_cases truth)
constant_between test true = (tt, tt)
constant_between test false = tt

shapes_between : (test : SymId → Bool) (rel : Rel) (left right : LinearTerm) (x y : Shape) → shape_of left ≡ x
    → shape_of right ≡ y → left.width ≤ 64 → right.width ≤ 64
    → ((s : SymId) → (stands_in s left.parts || stands_in s right.parts) ≡ true → test s ≡ true)
    → EachAreBetween test (cases_by_shapes rel left right x y)
shapes_between test rel left right (Symbol s) (Symbol r) x y narrow slim h =
    pair_between test rel s r left right narrow slim
    (h s (or_left (stands_in s left.parts) (stands_in s right.parts) (shape_stands s left.parts x)))
    (h r (or_right (stands_in r left.parts) (stands_in r right.parts) (shape_stands r right.parts y)))
shapes_between test rel left right (Symbol s) Number x y narrow slim h = tt
shapes_between test rel left right (Symbol s) Other x y narrow slim h = tt
shapes_between test rel left right Number y' x y narrow slim h = tt
shapes_between test rel left right Other y' x y narrow slim h = tt

compared_between : (test : SymId → Bool) (rel : Rel) (left right : LinearTerm) (holds : Bool) (k : AtomKind)
    → comparison_kind left right ≡ k → AtomCanSplit k left.width right.width
    → ((s : SymId) → cond (is_constant_kind k) false (stands_in s left.parts || stands_in s right.parts) ≡ true → test s ≡ true)
    → EachAreBetween test (atom_cases k left.width (compared rel left right) holds
    (cases_by_shapes (relation_with holds rel) left right (shape_of left) (shape_of right)))
compared_between test rel left right holds Constant is split h =
    constant_between test (agrees holds (truth_at (compared rel left right) []))
compared_between test rel left right holds (Single s) is split h =
    single_between test s left.width (λ x. agrees holds (truth_at (compared rel left right) (alone s x))) split.0
    (h s (single_stands s left right is))
compared_between test rel left right holds Pair is split h =
    shapes_between test (relation_with holds rel) left right (shape_of left) (shape_of right) refl refl split.0
    (omega (arith, split.0, split.1)) h
compared_between test rel left right holds Outside is split h = tt

belongs_between : (test : SymId → Bool) (term : LinearTerm) (set : RangeSet) (holds : Bool) (k : AtomKind)
    → membership_kind term ≡ k → AtomCanSplit k term.width set.width
    → ((s : SymId) → cond (is_constant_kind k) false (stands_in s term.parts) ≡ true → test s ≡ true)
    → EachAreBetween test (atom_cases k term.width (belongs term set) holds [])
belongs_between test term set holds Constant is split h = constant_between test (agrees holds (truth_at (belongs term set) []))
belongs_between test term set holds (Single s) is split h =
    single_between test s term.width (λ x. agrees holds (truth_at (belongs term set) (alone s x))) split.0
    (h s (member_stands s term is))
belongs_between test term set holds Pair is split h = tt
belongs_between test term set holds Outside is split h = tt

mutual
  -- the bounds of a formula's cases are between symbols that occur in it
  pub cases_between : (test : SymId → Bool) (f : FormulaTree) (holds : Bool) → CanSplit f
      → ((s : SymId) → occurs_in s f ≡ true → test s ≡ true) → EachAreBetween test (cases_of f holds)
  cases_between test (always truth) holds split h = constant_between test (agrees holds truth)
  cases_between test (compared rel left right) holds split h =
      compared_between test rel left right holds (comparison_kind left right) refl split h
  cases_between test (belongs term set) holds split h = belongs_between test term set holds (membership_kind term) refl split h
  cases_between test (all_of fs) true split h = all_between test fs true split h
  cases_between test (all_of fs) false split h = any_between test fs false split h
  cases_between test (any_of fs) true split h = any_between test fs true split h
  cases_between test (any_of fs) false split h = all_between test fs false split h
  cases_between test (opposite f) holds split h = cases_between test f (not holds) split h

  all_between : (test : SymId → Bool) (fs : Formulas) (holds : Bool) → EachCanSplit fs
      → ((s : SymId) → occurs_among s fs ≡ true → test s ≡ true) → EachAreBetween test (cases_of_all fs holds)
  all_between test no_formulas holds split h = (tt, tt)
  all_between test (formula f fs) holds split h =
      each_joined test (cases_of f holds) (cases_of_all fs holds)
      (cases_between test f holds split.0 (λ s o. h s (or_left (occurs_in s f) (occurs_among s fs) o)))
      (all_between test fs holds split.1 (λ s o. h s (or_right (occurs_in s f) (occurs_among s fs) o)))

  any_between : (test : SymId → Bool) (fs : Formulas) (holds : Bool) → EachCanSplit fs
      → ((s : SymId) → occurs_among s fs ≡ true → test s ≡ true) → EachAreBetween test (cases_of_any fs holds)
  any_between test no_formulas holds split h = tt
  any_between test (formula f fs) holds split h =
      each_append test (cases_of f holds) (cases_of_any fs holds)
      (cases_between test f holds split.0 (λ s o. h s (or_left (occurs_in s f) (occurs_among s fs) o)))
      (any_between test fs holds split.1 (λ s o. h s (or_right (occurs_in s f) (occurs_among s fs) o)))

-- the symbols of a formula pass the test
abbrev SymbolsPass : (SymId → Bool) → FormulaTree → Bool → Type 0
SymbolsPass test f holds = (s : SymId) → occurs_in s f ≡ true → test s ≡ true

abbrev EachPass : (SymId → Bool) → Formulas → Bool → Type 0
EachPass test fs holds = (s : SymId) → occurs_among s fs ≡ true → test s ≡ true

symbols_down : (test : SymId → Bool) → GoesDown (SymbolsPass test) (EachPass test)
symbols_down test = record {
  all = λ fs h. h;
  any = λ fs h. h;
  other = λ f holds h. h;
  first = λ f fs holds h s o. h s (or_left (occurs_in s f) (occurs_among s fs) o);
  rest = λ f fs holds h s o. h s (or_right (occurs_in s f) (occurs_among s fs) o);
}

-- a member has no symbols but those of its formula
pub member_among : (test : SymId → Bool) (f : FormulaTree) (holds : Bool) (way : List ℕ) (m : Member) → member_of f holds way ≡ Some m
    → ((s : SymId) → occurs_in s f ≡ true → test s ≡ true) → (s : SymId) → occurs_in s m.0 ≡ true → test s ≡ true
member_among test f holds way m leads h = goes_down (SymbolsPass test) (EachPass test) (symbols_down test) f holds way m leads h

-- the symbol is one of the condition, of at most 64 bits
pub record IsNarrow (widths : List ℕ) (s : SymId) : Type 0 where
  pub width : ℕ
  pub at : slice_get widths s.0 ≡ Some width
  pub narrow : width ≤ 64

parts_narrow : (widths : List ℕ) (width : ℕ) (s : SymId) (parts : List Part) → width ≤ 64
    → PartsAreTyped widths width parts → stands_in s parts ≡ true → IsNarrow widths s
parts_narrow widths width s [] narrow typed h = absurd (cc)
parts_narrow widths width s (p ∷ ps) narrow typed h =
    elim (or_cases (nat_eq p.0.0 s.0) (stands_in s ps) h) [
      | inl here ↦ record { width = width; at = ap (slice_get widths) (sym (eqb-true p.0.0 s.0 here)) ∙ typed.0; narrow = narrow }
      | inr later ↦ parts_narrow widths width s ps narrow typed.1 later
    ]

compared_narrow : (widths : List ℕ) (s : SymId) (left right : LinearTerm) (k : AtomKind)
    → AtomCanSplit k left.width right.width
    → (left.width ≡ right.width) × PartsAreTyped widths left.width left.parts × PartsAreTyped widths right.width
    right.parts
    → cond (is_constant_kind k) false (stands_in s left.parts || stands_in s right.parts) ≡ true → IsNarrow widths s
compared_narrow widths s left right Constant split typed h = absurd (cc)
compared_narrow widths s left right (Single r) split typed h =
    elim (or_cases (stands_in s left.parts) (stands_in s right.parts) h) [
      | inl x ↦ parts_narrow widths left.width s left.parts split.0 typed.1 x
      | inr y ↦ parts_narrow widths right.width s right.parts (omega (arith, split.0, split.1)) typed.2 y
    ]
compared_narrow widths s left right Pair split typed h =
    elim (or_cases (stands_in s left.parts) (stands_in s right.parts) h) [
      | inl x ↦ parts_narrow widths left.width s left.parts split.0 typed.1 x
      | inr y ↦ parts_narrow widths right.width s right.parts (omega (arith, split.0, split.1)) typed.2 y
    ]
compared_narrow widths s left right Outside split typed h = absurd split

belongs_narrow : (widths : List ℕ) (s : SymId) (term : LinearTerm) (set : RangeSet) (k : AtomKind)
    → AtomCanSplit k term.width set.width → PartsAreTyped widths term.width term.parts
    → cond (is_constant_kind k) false (stands_in s term.parts) ≡ true → IsNarrow widths s
belongs_narrow widths s term set Constant split typed h = absurd (cc)
belongs_narrow widths s term set (Single r) split typed h = parts_narrow widths term.width s term.parts split.0 typed h
belongs_narrow widths s term set Pair split typed h = parts_narrow widths term.width s term.parts split.0 typed h
belongs_narrow widths s term set Outside split typed h = absurd split

mutual
  -- a symbol that occurs in a formula with cases has at most 64 bits
  pub occurs_narrow : (widths : List ℕ) (s : SymId) (f : FormulaTree) → CanSplit f → IsTyped widths f
      → occurs_in s f ≡ true → IsNarrow widths s
  occurs_narrow widths s (always truth) split typed h = absurd (cc)
  occurs_narrow widths s (compared rel left right) split typed h =
      compared_narrow widths s left right (comparison_kind left right) split typed h
  occurs_narrow widths s (belongs term set) split typed h =
      belongs_narrow widths s term set (membership_kind term) split typed.1 h
  occurs_narrow widths s (all_of fs) split typed h = among_narrow widths s fs split typed h
  occurs_narrow widths s (any_of fs) split typed h = among_narrow widths s fs split typed h
  occurs_narrow widths s (opposite f) split typed h = occurs_narrow widths s f split typed h

  among_narrow : (widths : List ℕ) (s : SymId) (fs : Formulas) → EachCanSplit fs → AreTyped widths fs
      → occurs_among s fs ≡ true → IsNarrow widths s
  among_narrow widths s no_formulas split typed h = absurd (cc)
  among_narrow widths s (formula f fs) split typed h =
      elim (or_cases (occurs_in s f) (occurs_among s fs) h) [
        | inl here ↦ occurs_narrow widths s f split.0 typed.0 here
        | inr later ↦ among_narrow widths s fs split.1 typed.1 later
      ]
