-- Marks of symbols.
use Rattle.std.proofs.Common.{◌≡◌, ℕ, suc, ◌+◌, ◌<◌, Bool, true, false, cond, ◌||◌, List, [], ◌∷◌, length, length-append, drop, get_or, Option, Some, None, refl, sym, ap, ◌∙◌, arith, nat_eq, inl, inr}
use denote.Ref.{Bor}
use Rattle.std.specs.Prelude.{is_some, option_copied}
use Rattle.std.specs.Option.{option_map}
use Rattle.std.specs.Ordering.{nat_cmp, is_lt, is_eq, is_gt}
use Rattle.std.specs.declared.cmp.Ordering.{Ordering}
use Rattle.std.specs.declared.cmp.Ordering.TheVariants.{Less, Equal, Greater}
use Rattle.std.proofs.lemmas.Bool.{cases_eq, eq-eqb, ne_eqb}
use Rattle.std.proofs.lemmas.List.{drop_more}
use Rattle.sn_tree.specs.Ends.{first}
use Rattle.sn_tree.specs.Pairs.{pairs_before, pairs_at, pairs_after, value_at, pairs_with}
use Rattle.path_formula.specs.Formulas.{formula, Formulas}
use Rattle.path_formula.specs.View.{view, views}
use Rattle.path_formula.specs.declared.formula.Formula.{Formula}
use Rattle.path_cond.specs.Marks.{has_mark, Adds}
use Rattle.path_cond.specs.Occurring.{occurs_in, occurs_among}
use Rattle.path_cond.proofs.Places.{value_at-with_other, value_at-with_same}
use Rattle.sn_width.specs.declared.ids.SymId.{SymId}

or_assoc : (a b c : Bool) → (a || b) || c ≡ a || (b || c)
or_assoc true b c = refl
or_assoc false b c = refl

pub or_none : (a : Bool) → a || false ≡ a
or_none true = refl
or_none false = refl

or_all : (a : Bool) → a || true ≡ true
or_all true = refl
or_all false = refl

-- the first of the formulas that are left
pub next_formula : (fs : List Formula) (i : ℕ) (f : Formula) → i < length fs → f ≡ get_or fs i f → views (drop i fs) ≡ formula (view f) (views (drop (i + 1) fs))
next_formula fs i f lt is = ap views (drop_more fs i f lt ∙ ap (λ g. g ∷ drop (i + 1) fs) (sym is))

-- a mark, once the next of the formulas that are left has been looked at
pub next_mark : (fs : Formulas) (s : SymId) (old now : Bool) (f : Formula) (rest : Formulas) → fs ≡ formula (view f) rest → now ≡ (old || occurs_in s (view f))
    → (old || occurs_among s fs) ≡ (now || occurs_among s rest)
next_mark fs s old now f rest here is =
    ap (λ gs. old || occurs_among s gs) here ∙ sym (or_assoc old (occurs_in s (view f)) (occurs_among s rest)) ∙ ap (λ b. b || occurs_among s rest) (sym is)

module _ {V : Type 0} where
  -- a symbol that had no mark has got one
  pub adds_with : (old new : List (ℕ × V)) (k : ℕ) (v : V) → new ≡ pairs_with nat_cmp k v old → Adds old new (λ s. nat_eq k s.0)
  adds_with old new k v put = record {
    marks = λ s. elim (cases_eq k s.0) [
      | inl same ↦
          ap is_some (ap (value_at nat_cmp s.0) put ∙ ap (λ n. value_at nat_cmp n (pairs_with nat_cmp k v old)) (sym same) ∙ value_at-with_same old k v)
          ∙ sym (ap (λ b. has_mark old s || b) (eq-eqb k s.0 same) ∙ or_all (has_mark old s))
      | inr other ↦
          ap is_some (ap (value_at nat_cmp s.0) put ∙ value_at-with_other old s.0 k v other)
          ∙ sym (ap (λ b. has_mark old s || b) (ne_eqb k s.0 other) ∙ or_none (has_mark old s))
    ];
  }

  -- the symbol had a mark
  pub adds_none : (old : List (ℕ × V)) (k : ℕ) → is_some (value_at nat_cmp k old) ≡ true → Adds old old (λ s. nat_eq k s.0)
  adds_none old k is = record {
    marks = λ s. elim (cases_eq k s.0) [
      | inl same ↦
          let there : has_mark old s ≡ true = ap (λ n. is_some (value_at nat_cmp n old)) (sym same) ∙ is in
          there ∙ sym (ap (λ b. b || nat_eq k s.0) there)
      | inr other ↦ sym (ap (λ b. has_mark old s || b) (ne_eqb k s.0 other) ∙ or_none (has_mark old s))
    ];
  }

  none_first : (ps : List (ℕ × V)) → option_map (λ (p : ℕ × V). p.1) (first ps) ≡ None → ps ≡ []
  none_first [] h = refl
  none_first (p ∷ ps) h = cc

  split_by : (o : Ordering) (p : ℕ × V) (before at after : List (ℕ × V))
      → length (cond (is_gt o) (p ∷ before) before) + length (cond (is_eq o) (p ∷ at) at) + length (cond (is_lt o) (p ∷ after) after)
      ≡ suc (length before + length at + length after)
  split_by Less p before at after = omega arith
  split_by Equal p before at after = omega arith
  split_by Greater p before at after = omega arith

  lengths : (ps : List (ℕ × V)) (k : ℕ) → length (pairs_before nat_cmp k ps) + length (pairs_at nat_cmp k ps) + length (pairs_after nat_cmp k ps) ≡ length ps
  lengths [] k = omega arith
  lengths (p ∷ ps) k = split_by (nat_cmp k p.0) p (pairs_before nat_cmp k ps) (pairs_at nat_cmp k ps) (pairs_after nat_cmp k ps) ∙ ap suc (lengths ps k)

  -- there is one pair more
  pub length_with : (old new : List (ℕ × V)) (k n m : ℕ) (v : V) → is_some (value_at nat_cmp k old) ≡ false → n ≡ length old → m ≡ n + 1 → new ≡ pairs_with nat_cmp k v old → m ≡ length new
  length_with old new k n m v none is more put =
      let at : length (pairs_at nat_cmp k old) ≡ 0 = ap length (none_first (pairs_at nat_cmp k old) (not_some (value_at nat_cmp k old) none)) in
      omega (arith, is, more, ap length put, length-append (pairs_before nat_cmp k old) ((k, v) ∷ pairs_after nat_cmp k old), lengths old k, at)
    where
      not_some : (o : Option V) → is_some o ≡ false → o ≡ None
      not_some None h = refl
      not_some (Some w) h = cc

-- what is lent is there where the value is
pub none_lent : {V : Type 0} (o : Option (Bor V)) (p : Option V) → option_copied o ≡ p → is_some o ≡ false → is_some p ≡ false
none_lent None p e h = ap is_some (sym e)
none_lent (Some b) p e h = cc
