-- What holds while two lists of parts are merged.
use Rattle.std.proofs.Common.{◌≡◌, ℕ, suc, ◌+◌, ◌*◌, ◌%◌, ◌^◌, ◌<◌, ◌≤◌, List, [], ◌∷◌, ◌++◌, sym, ap, ◌∙◌, subst, ⊎_elim, arith}
use Rattle.std.specs.Prelude.{if◌then◌else◌, ◌==◌}
use Rattle.std.proofs.Math.Nat.{zero-mod}
use Rattle.std.proofs.lemmas.Nat.{mod_below, pow_pos}
use Rattle.std.proofs.lemmas.Bool.{cases_eq}
use Rattle.std.proofs.lemmas.List.{append_assoc, append-nil}
use Rattle.sn_width.specs.declared.ids.SymId.{SymId}
use Rattle.lin_term.specs.Terms.{Part, AscendsFrom, CoefficientsFit, coefficient_of}
use Rattle.lin_term.proofs.Coefficients.{coefficient_of-before, coefficient_of-append, AscendsFrom-earlier}

-- `done` is what is merged so far, and `left` and `right` are what is left of the two lists
pub record IsMerging (w k : ℕ) (left_whole right_whole done left right : List Part) : Type 0 where
  -- the symbols done are before this one, those that are left are not
  pub from : ℕ
  pub left_from : AscendsFrom from left
  pub right_from : AscendsFrom from right
  pub follows : (rest : List Part) → AscendsFrom from rest → AscendsFrom 0 (done ++ rest)
  pub reduced : CoefficientsFit w done
  pub coefficients : (s : ℕ) → coefficient_of s done + (coefficient_of s left + k * coefficient_of s right) % 2 ^ w ≡ (coefficient_of s left_whole + k * coefficient_of s right_whole) % 2 ^ w

-- nothing is merged yet
pub merging_none : (w k : ℕ) (left right : List Part) → AscendsFrom 0 left → AscendsFrom 0 right → IsMerging w k left right [] left right
merging_none w k left right l r =
    record { from = 0; left_from = l; right_from = r; follows = λ rest h. h; reduced = tt; coefficients = λ s. omega arith }

-- no coefficients are left of two empty lists
none_left : (k m : ℕ) → (0 + k * 0) % m ≡ 0
none_left k m = ap (λ (x : ℕ). x % m) (omega arith) ∙ zero-mod m

CoefficientsFit-push : (w : ℕ) (done : List Part) (p : Part) → CoefficientsFit w done → 0 < p.1 → p.1 < 2 ^ w → CoefficientsFit w (done ++ p ∷ [])
CoefficientsFit-push w [] p fit some fits = ((some, fits), tt)
CoefficientsFit-push w (q ∷ done) p fit some fits = (fit.0, CoefficientsFit-push w done p fit.1 some fits)

-- one symbol is taken off both lists, with its coefficients x and y
module _ (w k : ℕ) (s : SymId) (x y : ℕ) (left right left' right' : List Part) (split_left : (t : ℕ) → coefficient_of t left ≡ (if s.0 == t then x else 0) + coefficient_of t left') (split_right : (t : ℕ) → coefficient_of t right ≡ (if s.0 == t then y else 0) + coefficient_of t right') (up_left : AscendsFrom (suc s.0) left') (up_right : AscendsFrom (suc s.0) right') where
  -- what the symbol gives and what is left are together what was left before
  step : (c t : ℕ) → c ≡ (x + k * y) % 2 ^ w → (if s.0 == t then c else 0) + (coefficient_of t left' + k * coefficient_of t right') % 2 ^ w ≡ (coefficient_of t left + k * coefficient_of t right) % 2 ^ w
  step c t e =
      ⊎_elim
      (λ (here : s.0 ≡ t).
      let no_left : coefficient_of t left' ≡ 0 = coefficient_of-before (suc s.0) t left' up_left (omega arith) in
      let no_right : coefficient_of t right' ≡ 0 = coefficient_of-before (suc s.0) t right' up_right (omega arith) in
      let own : (if s.0 == t then c else 0) ≡ c = grind arith in
      let of_left : coefficient_of t left ≡ x = grind (arith, split_left t) in
      let of_right : coefficient_of t right ≡ y = grind (arith, split_right t) in
      rw (own, no_left, no_right, of_left, of_right) (omega (arith, none_left k (2 ^ w))))
      (λ (other : s.0 ≡ t → ⊥).
      let own : (if s.0 == t then c else 0) ≡ 0 = grind arith in
      let of_left : coefficient_of t left ≡ coefficient_of t left' = grind (arith, split_left t) in
      let of_right : coefficient_of t right ≡ coefficient_of t right' = grind (arith, split_right t) in
      rw (own, of_left, of_right) (omega arith))
      (cases_eq s.0 t)

  -- its coefficient is not 0: the symbol is added
  pub merging_more : (left_whole right_whole done : List Part) (c : ℕ) → IsMerging w k left_whole right_whole done left right → ((n : ℕ) → AscendsFrom n left → AscendsFrom n right → n ≤ s.0) → c ≡ (x + k * y) % 2 ^ w → 0 < c → IsMerging w k left_whole right_whole (done ++ (s, c) ∷ []) left' right'
  merging_more left_whole right_whole done c m first e some =
      let from : m.from ≤ s.0 = first m.from m.left_from m.right_from in
      let fits : c < 2 ^ w = subst (λ (n : ℕ). n < 2 ^ w) (sym e) (mod_below (x + k * y) (2 ^ w) (pow_pos w)) in
      record {
        from = suc s.0;
        left_from = up_left;
        right_from = up_right;
        follows = λ rest h. rw (append_assoc done ((s, c) ∷ []) rest) (m.follows ((s, c) ∷ rest) (from, h));
        reduced = CoefficientsFit-push w done (s, c) m.reduced some fits;
        coefficients = λ t. omega (arith, m.coefficients t, step c t e, coefficient_of-append t done ((s, c) ∷ []));
      }

  -- its coefficient is 0: nothing is added
  pub merging_skip : (left_whole right_whole done : List Part) → IsMerging w k left_whole right_whole done left right → ((n : ℕ) → AscendsFrom n left → AscendsFrom n right → n ≤ s.0) → 0 ≡ (x + k * y) % 2 ^ w → IsMerging w k left_whole right_whole done left' right'
  merging_skip left_whole right_whole done m first e =
      let step_none : (t : ℕ) → (coefficient_of t left' + k * coefficient_of t right') % 2 ^ w ≡ (coefficient_of t left + k * coefficient_of t right) % 2 ^ w = λ t. (let h = step 0 t e in grind arith) in
      let from : m.from ≤ s.0 = first m.from m.left_from m.right_from in
      record {
        from = suc s.0;
        left_from = up_left;
        right_from = up_right;
        follows = λ rest h. m.follows rest (AscendsFrom-earlier m.from (suc s.0) rest (omega arith) h);
        reduced = m.reduced;
        coefficients = λ t. ap (λ (n : ℕ). coefficient_of t done + n) (step_none t) ∙ m.coefficients t;
      }

-- both lists are used up
pub ascending_all : (w k : ℕ) (left right done : List Part) → IsMerging w k left right done [] [] → AscendsFrom 0 done
ascending_all w k left right done m = let h = m.follows [] tt in rw append-nil at h

pub coefficients_all : (w k : ℕ) (left right done : List Part) → IsMerging w k left right done [] [] → (s : ℕ) → coefficient_of s done ≡ (coefficient_of s left + k * coefficient_of s right) % 2 ^ w
coefficients_all w k left right done m s = omega (arith, m.coefficients s, none_left k (2 ^ w))
