-- The widths of coupled symbols.
use Rattle.std.proofs.Common.{◌≡◌, ℕ, zero, suc, ◌≤◌, ◌⊎◌, inl, inr, Bool, true, false, cond, ◌&&◌, ◌||◌, List, [], ◌∷◌, length, Some, refl, sym, subst, arith}
use Rattle.std.specs.Prelude.{slice_get, ◌==◌}
use Rattle.std.specs.List.{All, list_any}
use Rattle.std.proofs.lemmas.Bool.{eqb-true}
use Rattle.sn_width.specs.declared.ids.SymId.{SymId}
use Rattle.lin_term.specs.Terms.{Part, LinearTerm}
use Rattle.path_formula.specs.Atoms.{comparison_kind, membership_kind}
use Rattle.path_formula.specs.Formulas.{FormulaTree, always, compared, belongs, all_of, any_of, opposite, Formulas, no_formulas, formula}
use Rattle.path_formula.specs.Kinds.{is_constant_kind, kind_of}
use Rattle.path_formula.specs.Typed.{PartsAreTyped, IsTyped, AreTyped}
use Rattle.path_formula.specs.View.{view}
use Rattle.path_formula.specs.declared.atom.AtomKind.{AtomKind}
use Rattle.path_formula.specs.declared.atom.AtomKind.TheVariants.{Constant, Single, Pair, Outside}
use Rattle.path_formula.specs.declared.kinds.Kind.TheVariants.{Inside}
use Rattle.path_cond.specs.Conditions.{Condition, Entry, AllTyped}
use Rattle.path_formula.specs.Splits.{AtomCanSplit, CanSplit, EachCanSplit}
use Rattle.path_cond.specs.Coupled.{stands_in, occurs_in, occurs_among, is_inside, couples, is_coupled, symbol_at, symbols_from, coupled_symbols, IsNarrow}
use Rattle.path_cond.proofs.Listing.{inside_kind}

and_left : (a b : Bool) → (a && b) ≡ true → a ≡ true
and_left true b h = refl
and_left false b h = h

and_right : (a b : Bool) → (a && b) ≡ true → b ≡ true
and_right true b h = h
and_right false b h = cc

or_either : (a b : Bool) → (a || b) ≡ true → (a ≡ true) ⊎ (b ≡ true)
or_either true b h = inl refl
or_either false b h = inr h

atom_is_narrow : (k : AtomKind) (left right : ℕ) → is_constant_kind k ≡ false → AtomCanSplit k left right → (left ≤ 64) × (right ≤ 64)
atom_is_narrow Constant left right other h = cc
atom_is_narrow (Single s) left right other h = (h.0, subst (λ n. n ≤ 64) (sym h.1) h.0)
atom_is_narrow Pair left right other h = (h.0, subst (λ n. n ≤ 64) (sym h.1) h.0)
atom_is_narrow Outside left right other h = absurd h

part_by : (widths : List ℕ) (w : ℕ) (p : Part) (s : SymId) (here later : Bool) → (p.0.0 == s.0) ≡ here → slice_get widths p.0.0 ≡ Some w → (later ≡ true → slice_get widths s.0 ≡ Some w) → (here || later) ≡ true
    → slice_get widths s.0 ≡ Some w
part_by widths w p s true later is at rest h = subst (λ n. slice_get widths n ≡ Some w) (eqb-true p.0.0 s.0 is) at
part_by widths w p s false later is at rest h = rest h

-- a symbol of typed parts has their width
part_width : (widths : List ℕ) (w : ℕ) (parts : List Part) (s : SymId) → PartsAreTyped widths w parts → stands_in s parts ≡ true → slice_get widths s.0 ≡ Some w
part_width widths w [] s typed h = cc
part_width widths w (p ∷ parts) s typed h = part_by widths w p s (p.0.0 == s.0) (stands_in s parts) refl typed.0 (part_width widths w parts s typed.1) h

module _ (widths : List ℕ) (s : SymId) where
  sides_by : (rel_left rel_right : LinearTerm) (k : AtomKind) (constant : Bool) → is_constant_kind k ≡ constant → AtomCanSplit k rel_left.width rel_right.width
      → PartsAreTyped widths rel_left.width rel_left.parts → PartsAreTyped widths rel_right.width rel_right.parts
      → cond constant false (stands_in s rel_left.parts || stands_in s rel_right.parts) ≡ true → IsNarrow widths s
  sides_by a b k true is split left right h = cc
  sides_by a b k false is split left right h =
      let narrow = atom_is_narrow k a.width b.width is split in
      elim (or_either (stands_in s a.parts) (stands_in s b.parts) h) [
        | inl here ↦ (a.width, part_width widths a.width a.parts s left here, narrow.0)
        | inr there ↦ (b.width, part_width widths b.width b.parts s right there, narrow.1)
      ]

  member_by : (t : LinearTerm) (set : ℕ) (k : AtomKind) (constant : Bool) → is_constant_kind k ≡ constant → AtomCanSplit k t.width set → PartsAreTyped widths t.width t.parts
      → cond constant false (stands_in s t.parts) ≡ true → IsNarrow widths s
  member_by t set k true is split typed h = cc
  member_by t set k false is split typed h = (t.width, part_width widths t.width t.parts s typed h, (atom_is_narrow k t.width set is split).0)

  mutual
    formula_is_narrow : (f : FormulaTree) → CanSplit f → IsTyped widths f → occurs_in s f ≡ true → IsNarrow widths s
    formula_is_narrow (always truth) split typed h = cc
    formula_is_narrow (compared rel a b) split typed h = sides_by a b (comparison_kind a b) (is_constant_kind (comparison_kind a b)) refl split typed.1 typed.2 h
    formula_is_narrow (belongs t set) split typed h = member_by t set.width (membership_kind t) (is_constant_kind (membership_kind t)) refl split typed.1 h
    formula_is_narrow (all_of fs) split typed h = formulas_are_narrow fs split typed h
    formula_is_narrow (any_of fs) split typed h = formulas_are_narrow fs split typed h
    formula_is_narrow (opposite f) split typed h = formula_is_narrow f split typed h

    formulas_are_narrow : (fs : Formulas) → EachCanSplit fs → AreTyped widths fs → occurs_among s fs ≡ true → IsNarrow widths s
    formulas_are_narrow no_formulas split typed h = cc
    formulas_are_narrow (formula f fs) split typed h =
        elim (or_either (occurs_in s f) (occurs_among s fs) h) [
          | inl here ↦ formula_is_narrow f split.0 typed.0 here
          | inr there ↦ formulas_are_narrow fs split.1 typed.1 there
        ]

  entries_are_narrow : ((f : FormulaTree) → kind_of f ≡ Inside → IsTyped widths f → CanSplit f) → (entries : List Entry) → AllTyped widths entries → list_any (couples s) entries ≡ true → IsNarrow widths s
  entries_are_narrow law [] typed h = cc
  entries_are_narrow law (e ∷ entries) typed h =
      elim (or_either (couples s e) (list_any (couples s) entries) h) [
        | inl here ↦
            let inside = inside_kind (kind_of (view e.0)) (and_left (is_inside e) (occurs_in s (view e.0)) here) in
            formula_is_narrow (view e.0) (law (view e.0) inside typed.0) typed.0 (and_right (is_inside e) (occurs_in s (view e.0)) here)
        | inr there ↦ entries_are_narrow law entries typed.1 there
      ]

all_more : (P : SymId → Type 0) (s : SymId) (rest : List SymId) → P s → All P rest → All P (s ∷ rest)
all_more P s rest here h zero d less = here
all_more P s rest here h (suc k) d less = h k d (omega arith)

chosen_by : (P : SymId → Type 0) (s : SymId) (rest : List SymId) (on : Bool) → (on ≡ true → P s) → All P rest → All P (cond on (s ∷ rest) rest)
chosen_by P s rest true here h = all_more P s rest (here refl) h
chosen_by P s rest false here h = h

-- what holds of each symbol that passes the test holds of those that are listed
listed_have : (P : SymId → Type 0) (test : SymId → Bool) → ((s : SymId) → test s ≡ true → P s) → (place k : ℕ) → All P (symbols_from test place k)
listed_have P test holds place zero = λ k d less. absurd (omega arith)
listed_have P test holds place (suc k) = chosen_by P (symbol_at place) (symbols_from test (suc place) k) (test (symbol_at place)) (holds (symbol_at place)) (listed_have P test holds (suc place) k)

-- the coupled symbols have at most 64 bits
pub coupled_are_narrow : ((f : FormulaTree) (widths : List ℕ) → kind_of f ≡ Inside → IsTyped widths f → CanSplit f) → (c : Condition) → AllTyped c.widths c.entries → All (λ s. IsNarrow c.widths s) (coupled_symbols c)
coupled_are_narrow law c typed =
    listed_have (λ s. IsNarrow c.widths s) (is_coupled c) (λ s h. entries_are_narrow c.widths s (λ f. law f c.widths) c.entries typed h) 0 (length c.widths)
