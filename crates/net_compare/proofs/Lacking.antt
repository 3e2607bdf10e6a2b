-- The formulas that a row lacks, one after another, and whether it has one.
use denote.Ref.{Bor}
use Rattle.std.proofs.Common.{◌≡◌, ◌∙◌, ◌<◌, ◌≤◌, inl, inr, ℕ, zero, suc, ◌+◌, Bool, List, [], ◌∷◌, ◌++◌, arith, drop, get_or, length, map, refl, sym, ap, subst, Some, option_map, slice_get}
use Rattle.std.proofs.lemmas.List.{append_assoc, drop_all}
use Rattle.path_formula.specs.Formulas.{FormulaTree}
use Rattle.path_formula.specs.declared.formula.Formula.{Formula}
use Rattle.sefl_meaning.specs.Order.{Has}
use Rattle.compare_meaning.specs.Facing.{AreMissing, must_be}
use Rattle.net_compare.specs.Adding.{AddsMissing}
use Rattle.net_compare.specs.Rows.{lent_seen, row_seen}
use Rattle.net_compare.proofs.SliceLemmas.{split_mapped}

pub append_none : {A : Type 0} (xs : List A) → xs ++ [] ≡ xs
append_none [] = refl
append_none (x ∷ xs) = ap (λ zs. x ∷ zs) (append_none xs)

-- ---- whether it is there

pub has_at : {A : Type 0} (xs : List A) (n : ℕ) (x : A) → slice_get xs n ≡ Some x → Has xs x
has_at [] n x at = absurd (cc)
has_at (y ∷ ys) zero x at = let same : y ≡ x = cc in inl same
has_at (y ∷ ys) (suc n) x at = inr (has_at ys n x at)

has_past : {A : Type 0} (xs : List A) (n : ℕ) (x : A) → (slice_get xs n ≡ Some x → ⊥) → Has (drop n xs) x → Has (drop (suc n) xs) x
has_past [] zero x other h = h
has_past [] (suc n) x other h = h
has_past (y ∷ ys) zero x other (inl e) = absurd (other (ap Some e))
has_past (y ∷ ys) zero x other (inr h) = h
has_past (y ∷ ys) (suc n) x other h = has_past ys n x other h

pub has_next : {A : Type 0} (xs : List A) (n : ℕ) (x : A) → (slice_get xs n ≡ Some x → ⊥) → Has (drop n xs) x → Has (drop (n + 1) xs) x
has_next xs n x other h = let more : suc n ≡ n + 1 = omega arith in subst (λ k. Has (drop k xs) x) more (has_past xs n x other h)

pub has_none : {A : Type 0} (xs : List A) (n : ℕ) (x : A) → length xs ≤ n → Has (drop n xs) x → ⊥
has_none xs n x past h = subst (λ ys. Has ys x) (drop_all n xs past) h

pub row_length : (row : List (Bor Formula × Bool)) → length (row_seen row) ≡ length row
row_length [] = refl
row_length (e ∷ es) = let rest : length (row_seen es) ≡ length es = row_length es in omega (arith, rest)

pub got_lent : (row : List (Bor Formula × Bool)) (n : ℕ) → slice_get (row_seen row) n ≡ option_map lent_seen (slice_get row n)
got_lent [] n = refl
got_lent (e ∷ es) zero = refl
got_lent (e ∷ es) (suc n) = got_lent es n

-- ---- those that are missing

-- whatever is missing of those that are left, with the formulas so far is missing of all
abbrev pub Left : List (FormulaTree × Bool) → List (Bor Formula × Bool) → ℕ → List FormulaTree → Type 0
Left had row n before = (fs : List FormulaTree) → AreMissing had (row_seen (drop n row)) fs → AreMissing had (row_seen row) (before ++ fs)

module _ (had : List (FormulaTree × Bool)) (row : List (Bor Formula × Bool)) (n : ℕ) (d : Bor Formula × Bool) (less : n < length row) (is : d ≡ get_or row n d) where
  here : (fs : List FormulaTree) → AreMissing had (lent_seen d ∷ row_seen (drop (n + 1) row)) fs → AreMissing had (row_seen (drop n row)) fs
  here fs h = subst (λ es. AreMissing had es fs) (sym (split_mapped lent_seen row n d less is)) h

  pub missing_next : (before after : List FormulaTree) → AddsMissing had (lent_seen d) before after → Left had row n before → Left had row (n + 1) after
  missing_next before after (inl h) leads fs k =
      subst (λ gs. AreMissing had (row_seen row) (gs ++ fs)) (sym h.1) (leads fs (here fs (inl (h.0, k))))
  missing_next before after (inr h) leads fs k =
      let m = must_be (lent_seen d) in
      let same : before ++ m ∷ fs ≡ after ++ fs = sym (append_assoc before (m ∷ []) fs) ∙ ap (λ gs. gs ++ fs) (sym h.1) in
      subst (AreMissing had (row_seen row)) same (leads (m ∷ fs) (here (m ∷ fs) (inr (h.0, fs, refl, k))))

pub missing_first : (had : List (FormulaTree × Bool)) (row : List (Bor Formula × Bool)) → Left had row 0 []
missing_first had row fs h = h

pub missing_end : (had : List (FormulaTree × Bool)) (row : List (Bor Formula × Bool)) (n : ℕ) (before : List FormulaTree) → length row ≤ n → Left had row n before
    → AreMissing had (row_seen row) before
missing_end had row n before past leads =
    let none : AreMissing had (row_seen (drop n row)) [] = subst (λ es. AreMissing had (row_seen es) []) (sym (drop_all n row past)) refl in
    subst (AreMissing had (row_seen row)) (append_none before) (leads [] none)
