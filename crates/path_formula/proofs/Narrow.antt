-- Which formulas have cases.
use Rattle.std.proofs.Common.{◌≡◌, ℕ, ◌≤◌, Bool, true, false, cond, ◌||◌, nat_lt, List, [], ◌++◌, Option, Some, None, refl, sym, ◌∙◌, arith}
use Rattle.std.specs.List.{list_all, list_any}
use Rattle.std.proofs.lemmas.Bool.Decides.{nat_tests}
use Rattle.std.proofs.lemmas.List.Folds.{list_any-append}
use Rattle.sn_width.specs.declared.ids.SymId.{SymId}
use Rattle.path_formula.specs.Atoms.{comparison_kind, membership_kind}
use Rattle.path_formula.specs.Formulas.{FormulaTree, always, compared, belongs, all_of, any_of, opposite, Formulas, no_formulas, formula, truth_at}
use Rattle.path_formula.specs.Kinds.{Atom, atoms_of, atoms_among, is_constant, is_hard, is_hard_kind, only_symbol, kind_unless_constant, kind_of}
use Rattle.path_formula.specs.Typed.{IsTyped, AreTyped}
use Rattle.path_formula.specs.declared.atom.AtomKind.{AtomKind}
use Rattle.path_formula.specs.declared.atom.AtomKind.TheVariants.{Constant, Single, Pair, Outside}
use Rattle.path_formula.specs.declared.kinds.Kind.TheVariants.{Constant as OneTruth, Inside}
use Rattle.path_formula.specs.Splits.{AtomCanSplit, CanSplit, EachCanSplit}

neither : (a b : Bool) → (a || b) ≡ false → (a ≡ false) × (b ≡ false)
neither true b h = cc
neither false b h = (refl, h)

narrow : (w : ℕ) → nat_lt 64 w ≡ false → w ≤ 64
narrow w h = grind (arith, nat_tests)

atom_splits : (k : AtomKind) (left right : ℕ) → is_hard_kind k left ≡ false → right ≡ left → AtomCanSplit k left right
atom_splits Constant left right h same = tt
atom_splits (Single s) left right h same = (narrow left h, same)
atom_splits Pair left right h same = (narrow left h, same)
atom_splits Outside left right h same = cc

both_easy : (xs ys : List Atom) → list_any is_hard (xs ++ ys) ≡ false → (list_any is_hard xs ≡ false) × (list_any is_hard ys ≡ false)
both_easy xs ys h = neither (list_any is_hard xs) (list_any is_hard ys) (sym (list_any-append is_hard xs ys) ∙ h)

-- a typed formula without a hard atom has cases
mutual
  pub easy_splits : (widths : List ℕ) (f : FormulaTree) → list_any is_hard (atoms_of f) ≡ false → IsTyped widths f → CanSplit f
  easy_splits widths (always truth) h typed = tt
  easy_splits widths (compared rel a b) h typed = atom_splits (comparison_kind a b) a.width b.width (neither (is_hard_kind (comparison_kind a b) a.width) false h).0 (sym typed.0)
  easy_splits widths (belongs t set) h typed = atom_splits (membership_kind t) t.width set.width (neither (is_hard_kind (membership_kind t) t.width) false h).0 (sym typed.0)
  easy_splits widths (all_of fs) h typed = each_easy_splits widths fs h typed
  easy_splits widths (any_of fs) h typed = each_easy_splits widths fs h typed
  easy_splits widths (opposite f) h typed = easy_splits widths f h typed

  each_easy_splits : (widths : List ℕ) (fs : Formulas) → list_any is_hard (atoms_among fs) ≡ false → AreTyped widths fs → EachCanSplit fs
  each_easy_splits widths no_formulas h typed = tt
  each_easy_splits widths (formula f fs) h typed =
      let both = both_easy (atoms_of f) (atoms_among fs) h in
      (easy_splits widths f both.0 typed.0, each_easy_splits widths fs both.1 typed.1)

unless_constant-Inside : (o : Option SymId) (hard : Bool) → kind_unless_constant o hard ≡ Inside → hard ≡ false
unless_constant-Inside (Some s) hard h = cc
unless_constant-Inside None true h = cc
unless_constant-Inside None false h = refl

chosen-Inside : (b now : Bool) (o : Option SymId) (hard : Bool) → cond b (OneTruth now) (kind_unless_constant o hard) ≡ Inside → hard ≡ false
chosen-Inside true now o hard h = cc
chosen-Inside false now o hard h = unless_constant-Inside o hard h

pub inside_splits : (f : FormulaTree) (widths : List ℕ) → kind_of f ≡ Inside → IsTyped widths f → CanSplit f
inside_splits f widths h typed =
    easy_splits widths f (chosen-Inside (list_all is_constant (atoms_of f)) (truth_at f []) (only_symbol (atoms_of f)) (list_any is_hard (atoms_of f)) h) typed
