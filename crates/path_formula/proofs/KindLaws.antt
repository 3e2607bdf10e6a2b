-- What the kind of a formula tells.
use Rattle.std.proofs.Common.{◌≡◌, ℕ, Bool, true, false, cond, List, [], ◌∷◌, ◌++◌, Option, Some, None, ◌⊎◌, refl, sym, ap, ◌∙◌, subst, inl, inr}
use Rattle.std.specs.Prelude.{slice_index, slice_get}
use Rattle.std.specs.List.{list_all, list_any}
use Rattle.std.proofs.lemmas.Bool.{and_parts}
use Rattle.std.proofs.lemmas.List.Folds.{list_all-append}
use Rattle.std.proofs.lemmas.Option.{none-some}
use Rattle.sn_width.specs.declared.ids.SymId.{SymId}
use Rattle.lin_term.specs.Terms.{LinearTerm}
use Rattle.path_formula.specs.Atoms.{comparison_kind, membership_kind}
use Rattle.path_formula.specs.Formulas.{FormulaTree, always, compared, belongs, all_of, any_of, opposite, Formulas, no_formulas, formula, truth_at}
use Rattle.path_formula.specs.Kinds.{Atom, atoms_of, atoms_among, is_constant, is_on, is_hard, is_kind_on, single_or, first_single, only_symbol, only_on, kind_unless_constant, kind_of}
use Rattle.path_formula.specs.Solutions.{AtomIsOver, IsOver, AreOver, alone}
use Rattle.path_formula.specs.Terms.{shape_of}
use Rattle.path_formula.specs.Typed.{PartsAreTyped, TermIsTyped, IsTyped, AreTyped}
use Rattle.path_formula.specs.declared.atom.AtomKind.{AtomKind}
use Rattle.path_formula.specs.declared.atom.AtomKind.TheVariants.{Constant, Single, Pair, Outside}
use Rattle.path_formula.specs.declared.atom.Shape.TheVariants.{Symbol}
use Rattle.path_formula.specs.declared.kinds.Kind.TheVariants.{Constant as OneTruth, Simple}
use Rattle.path_formula.proofs.Shapes.{shape_by_parts-Symbol, slice_index-alone, comparison_kind-Single, membership_kind-Single}
use Rattle.path_formula.proofs.Truths.{kind_on, truth_at-fixed, truth_at-on}

unless_constant-OneTruth : (o : Option SymId) (hard truth : Bool) → kind_unless_constant o hard ≡ OneTruth truth → ⊥
unless_constant-OneTruth (Some s) hard truth h = cc
unless_constant-OneTruth None true truth h = cc
unless_constant-OneTruth None false truth h = cc

chosen-OneTruth : (b now truth : Bool) (o : Option SymId) (hard : Bool) → cond b (OneTruth now) (kind_unless_constant o hard) ≡ OneTruth truth → (b ≡ true) × (now ≡ truth)
chosen-OneTruth true now truth o hard h = (refl, cc)
chosen-OneTruth false now truth o hard h = absurd (unless_constant-OneTruth o hard truth h)

-- a constant formula has constant atoms, and its truth where each symbol is 0
pub kind_of-OneTruth : (f : FormulaTree) (truth : Bool) → kind_of f ≡ OneTruth truth → (list_all is_constant (atoms_of f) ≡ true) × (truth_at f [] ≡ truth)
kind_of-OneTruth f truth h = chosen-OneTruth (list_all is_constant (atoms_of f)) (truth_at f []) truth (only_symbol (atoms_of f)) (list_any is_hard (atoms_of f)) h

unless_constant-Simple : (o : Option SymId) (hard : Bool) (s : SymId) → kind_unless_constant o hard ≡ Simple s → o ≡ Some s
unless_constant-Simple (Some r) hard s h = cc
unless_constant-Simple None true s h = cc
unless_constant-Simple None false s h = cc

chosen-Simple : (b now : Bool) (o : Option SymId) (hard : Bool) (s : SymId) → cond b (OneTruth now) (kind_unless_constant o hard) ≡ Simple s → o ≡ Some s
chosen-Simple true now o hard s h = cc
chosen-Simple false now o hard s h = unless_constant-Simple o hard s h

chosen-Some : (b : Bool) (r s : SymId) → cond b (Some r) None ≡ Some s → (b ≡ true) × (r ≡ s)
chosen-Some true r s h = (refl, cc)
chosen-Some false r s h = cc

only_on-Some : (o : Option SymId) (atoms : List Atom) (s : SymId) → only_on o atoms ≡ Some s → list_all (is_on s) atoms ≡ true
only_on-Some None atoms s h = cc
only_on-Some (Some r) atoms s h =
    let both = chosen-Some (list_all (is_on r) atoms) r s h in
    subst (λ q. list_all (is_on q) atoms ≡ true) both.1 both.0

-- a simple formula has atoms that are constant or single on its symbol
pub kind_of-Simple : (f : FormulaTree) (s : SymId) → kind_of f ≡ Simple s → list_all (is_on s) (atoms_of f) ≡ true
kind_of-Simple f s h =
    only_on-Some (first_single (atoms_of f)) (atoms_of f) s (chosen-Simple (list_all is_constant (atoms_of f)) (truth_at f []) (only_symbol (atoms_of f)) (list_any is_hard (atoms_of f)) s h)

pub constant_truth : (f : FormulaTree) (truth : Bool) (values : List ℕ) → kind_of f ≡ OneTruth truth → truth_at f values ≡ truth
constant_truth f truth values h = let both = kind_of-OneTruth f truth h in truth_at-fixed f values [] both.0 ∙ both.1

pub simple_truth : (f : FormulaTree) (s : SymId) (values others : List ℕ) → kind_of f ≡ Simple s → slice_index values s.0 ≡ slice_index others s.0 → truth_at f values ≡ truth_at f others
simple_truth f s values others h e = truth_at-on s f values others e (kind_of-Simple f s h)

pub simple_alone : (f : FormulaTree) (s : SymId) (values : List ℕ) → kind_of f ≡ Simple s → truth_at f values ≡ truth_at f (alone s (slice_index values s.0))
simple_alone f s values h = simple_truth f s values (alone s (slice_index values s.0)) h (sym (slice_index-alone s (slice_index values s.0)))

-- of a typed term of the form of a symbol, the symbol has the term's width
typed_symbol : (widths : List ℕ) (t : LinearTerm) (s : SymId) → TermIsTyped widths t → shape_of t ≡ Symbol s → slice_get widths s.0 ≡ Some t.width
typed_symbol widths t s typed h = (subst (PartsAreTyped widths t.width) (shape_by_parts-Symbol t.parts s h) typed).0

width_of : (widths : List ℕ) (s : SymId) (u w : ℕ) → slice_get widths s.0 ≡ Some u → slice_get widths s.0 ≡ Some w → u ≡ w
width_of widths s u w a b = let e : Some u ≡ Some w = sym a ∙ b in cc

at_constant : (s : SymId) (w : ℕ) (k : AtomKind) (u v : ℕ) → k ≡ Constant → AtomIsOver s w k u v
at_constant s w k u v e = subst (λ n. AtomIsOver s w n u v) (sym e) tt

at_single : (s : SymId) (w : ℕ) (k : AtomKind) (u v : ℕ) → k ≡ Single s → u ≡ w → v ≡ w → AtomIsOver s w k u v
at_single s w k u v e a b = subst (λ n. AtomIsOver s w n u v) (sym e) (refl, a, b)

comparison_over : (s : SymId) (w : ℕ) (widths : List ℕ) (a b : LinearTerm) → slice_get widths s.0 ≡ Some w → is_kind_on s (comparison_kind a b) ≡ true → (a.width ≡ b.width) × TermIsTyped widths a × TermIsTyped widths b
    → AtomIsOver s w (comparison_kind a b) a.width b.width
comparison_over s w widths a b is k typed = elim (kind_on s (comparison_kind a b) k) [
  | inl constant ↦ at_constant s w (comparison_kind a b) a.width b.width constant
  | inr single ↦
      let right : b.width ≡ w = elim (comparison_kind-Single a b s single) [
        | inl p ↦ width_of widths s b.width w (typed_symbol widths b s typed.2 p.1) is
        | inr p ↦ sym typed.0 ∙ width_of widths s a.width w (typed_symbol widths a s typed.1 p.0) is
      ] in
      at_single s w (comparison_kind a b) a.width b.width single (typed.0 ∙ right) right
]

membership_over : (s : SymId) (w : ℕ) (widths : List ℕ) (t : LinearTerm) (v : ℕ) → slice_get widths s.0 ≡ Some w → is_kind_on s (membership_kind t) ≡ true → (t.width ≡ v) × TermIsTyped widths t
    → AtomIsOver s w (membership_kind t) t.width v
membership_over s w widths t v is k typed = elim (kind_on s (membership_kind t) k) [
  | inl constant ↦ at_constant s w (membership_kind t) t.width v constant
  | inr single ↦
      let width = width_of widths s t.width w (typed_symbol widths t s typed.1 (membership_kind-Single t s single)) is in
      at_single s w (membership_kind t) t.width v single width (sym typed.0 ∙ width)
]

both_on : (s : SymId) (xs ys : List Atom) → list_all (is_on s) (xs ++ ys) ≡ true → (list_all (is_on s) xs ≡ true) × (list_all (is_on s) ys ≡ true)
both_on s xs ys h = and_parts (list_all (is_on s) xs) (list_all (is_on s) ys) (sym (list_all-append (is_on s) xs ys) ∙ h)

-- a typed formula whose atoms are constant or single on a symbol may be solved
mutual
  over_typed : (s : SymId) (w : ℕ) (widths : List ℕ) → slice_get widths s.0 ≡ Some w → (f : FormulaTree) → list_all (is_on s) (atoms_of f) ≡ true → IsTyped widths f → IsOver s w f
  over_typed s w widths is (always truth) h typed = tt
  over_typed s w widths is (compared rel a b) h typed = comparison_over s w widths a b is (and_parts (is_kind_on s (comparison_kind a b)) true h).0 typed
  over_typed s w widths is (belongs t set) h typed = membership_over s w widths t set.width is (and_parts (is_kind_on s (membership_kind t)) true h).0 typed
  over_typed s w widths is (all_of fs) h typed = over_all_typed s w widths is fs h typed
  over_typed s w widths is (any_of fs) h typed = over_all_typed s w widths is fs h typed
  over_typed s w widths is (opposite f) h typed = over_typed s w widths is f h typed

  over_all_typed : (s : SymId) (w : ℕ) (widths : List ℕ) → slice_get widths s.0 ≡ Some w → (fs : Formulas) → list_all (is_on s) (atoms_among fs) ≡ true → AreTyped widths fs → AreOver s w fs
  over_all_typed s w widths is no_formulas h typed = tt
  over_all_typed s w widths is (formula f fs) h typed =
      let both = both_on s (atoms_of f) (atoms_among fs) h in
      (over_typed s w widths is f both.0 typed.0, over_all_typed s w widths is fs both.1 typed.1)

pub simple_over : (f : FormulaTree) (s : SymId) (widths : List ℕ) (w : ℕ) → kind_of f ≡ Simple s → IsTyped widths f → slice_get widths s.0 ≡ Some w → IsOver s w f
simple_over f s widths w h typed is = over_typed s w widths is f (kind_of-Simple f s h) typed

constant_kind : (k : AtomKind) → is_constant (k, 0) ≡ true → k ≡ Constant
constant_kind Constant h = refl
constant_kind (Single r) h = cc
constant_kind Pair h = cc
constant_kind Outside h = cc

both_constant : (xs ys : List Atom) → list_all is_constant (xs ++ ys) ≡ true → (list_all is_constant xs ≡ true) × (list_all is_constant ys ≡ true)
both_constant xs ys h = and_parts (list_all is_constant xs) (list_all is_constant ys) (sym (list_all-append is_constant xs ys) ∙ h)

-- a formula of constant atoms may be solved for any symbol
mutual
  over_fixed : (s : SymId) (w : ℕ) (f : FormulaTree) → list_all is_constant (atoms_of f) ≡ true → IsOver s w f
  over_fixed s w (always truth) h = tt
  over_fixed s w (compared rel a b) h = at_constant s w (comparison_kind a b) a.width b.width (constant_kind (comparison_kind a b) (and_parts (is_constant (comparison_kind a b, 0)) true h).0)
  over_fixed s w (belongs t set) h = at_constant s w (membership_kind t) t.width set.width (constant_kind (membership_kind t) (and_parts (is_constant (membership_kind t, 0)) true h).0)
  over_fixed s w (all_of fs) h = over_all_fixed s w fs h
  over_fixed s w (any_of fs) h = over_all_fixed s w fs h
  over_fixed s w (opposite f) h = over_fixed s w f h

  over_all_fixed : (s : SymId) (w : ℕ) (fs : Formulas) → list_all is_constant (atoms_among fs) ≡ true → AreOver s w fs
  over_all_fixed s w no_formulas h = tt
  over_all_fixed s w (formula f fs) h =
      let both = both_constant (atoms_of f) (atoms_among fs) h in
      (over_fixed s w f both.0, over_all_fixed s w fs both.1)

pub constant_over : (f : FormulaTree) (truth : Bool) (s : SymId) (w : ℕ) → kind_of f ≡ OneTruth truth → IsOver s w f
constant_over f truth s w h = over_fixed s w f (kind_of-OneTruth f truth h).0

-- the symbol has a width
abbrev pub Known : List ℕ → SymId → Type 0
Known widths s = (w : ℕ) × (slice_get widths s.0 ≡ Some w)

only_on-first : (o : Option SymId) (atoms : List Atom) (s : SymId) → only_on o atoms ≡ Some s → o ≡ Some s
only_on-first None atoms s h = cc
only_on-first (Some r) atoms s h = let both = chosen-Some (list_all (is_on r) atoms) r s h in ap Some both.1

-- a simple formula has an atom that is single on its symbol
simple_first : (f : FormulaTree) (s : SymId) → kind_of f ≡ Simple s → first_single (atoms_of f) ≡ Some s
simple_first f s h =
    only_on-first (first_single (atoms_of f)) (atoms_of f) s
    (chosen-Simple (list_all is_constant (atoms_of f)) (truth_at f []) (only_symbol (atoms_of f)) (list_any is_hard (atoms_of f)) s h)

single_first : (k : AtomKind) (s : SymId) → single_or k None ≡ Some s → k ≡ Single s
single_first Constant s h = cc
single_first (Single r) s h = cc
single_first Pair s h = cc
single_first Outside s h = cc

one_of : {A B C : Type 0} → A ⊎ B → (A → C) → (B → C) → C
one_of (inl a) f g = f a
one_of (inr b) f g = g b

kind_first : (k : AtomKind) (left both right : Option SymId) (s : SymId) → (both ≡ Some s → (left ≡ Some s) ⊎ (right ≡ Some s)) → single_or k both ≡ Some s → (single_or k left ≡ Some s) ⊎ (right ≡ Some s)
kind_first Constant left both right s go h = go h
kind_first (Single r) left both right s go h = inl h
kind_first Pair left both right s go h = go h
kind_first Outside left both right s go h = go h

first_append : (xs ys : List Atom) (s : SymId) → first_single (xs ++ ys) ≡ Some s → (first_single xs ≡ Some s) ⊎ (first_single ys ≡ Some s)
first_append [] ys s h = inr h
first_append (x ∷ xs) ys s h = kind_first x.0 (first_single xs) (first_single (xs ++ ys)) (first_single ys) s (first_append xs ys s) h

comparison_known : (widths : List ℕ) (s : SymId) (a b : LinearTerm) → comparison_kind a b ≡ Single s → (a.width ≡ b.width) × TermIsTyped widths a × TermIsTyped widths b → Known widths s
comparison_known widths s a b single typed = elim (comparison_kind-Single a b s single) [
  | inl p ↦ (b.width, typed_symbol widths b s typed.2 p.1)
  | inr p ↦ (a.width, typed_symbol widths a s typed.1 p.0)
]

mutual
  first_known : (widths : List ℕ) (s : SymId) (f : FormulaTree) → first_single (atoms_of f) ≡ Some s → IsTyped widths f → Known widths s
  first_known widths s (always truth) h typed = absurd (none-some s h)
  first_known widths s (compared rel a b) h typed = comparison_known widths s a b (single_first (comparison_kind a b) s h) typed
  first_known widths s (belongs t set) h typed = (t.width, typed_symbol widths t s typed.1 (membership_kind-Single t s (single_first (membership_kind t) s h)))
  first_known widths s (all_of fs) h typed = among_known widths s fs h typed
  first_known widths s (any_of fs) h typed = among_known widths s fs h typed
  first_known widths s (opposite f) h typed = first_known widths s f h typed

  among_known : (widths : List ℕ) (s : SymId) (fs : Formulas) → first_single (atoms_among fs) ≡ Some s → AreTyped widths fs → Known widths s
  among_known widths s no_formulas h typed = absurd (none-some s h)
  among_known widths s (formula f fs) h typed =
      one_of (first_append (atoms_of f) (atoms_among fs) s h) (λ e. first_known widths s f e typed.0) (λ e. among_known widths s fs e typed.1)

-- a typed formula is simple on a symbol that has a width
pub simple_known : (f : FormulaTree) (s : SymId) (widths : List ℕ) → kind_of f ≡ Simple s → IsTyped widths f → Known widths s
simple_known f s widths h typed = first_known widths s f (simple_first f s h) typed
