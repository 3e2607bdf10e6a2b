-- Domains that are apart.
use Rattle.std.proofs.Common.{◌≡◌, ◌∙◌, ◌<◌, ◌&&◌, ℕ, zero, suc, Bool, true, false, List, [], ◌∷◌, arith, length, refl, sym, ap, subst, true≢false, Some, slice_get}
use Rattle.sn_width.specs.declared.ids.SymId.{SymId}
use Rattle.sn_ranges.specs.Ranges.{IsSetOf, RangeSet, is_member}
use Rattle.path_cond.specs.Conditions.{Condition}
use Rattle.path_cond.specs.Seen.{itself, seen}
use Rattle.path_formula.specs.View.{view}
use Rattle.refutation_check.specs.Seen.{is_possible}
use Rattle.refutation_check.specs.Trees.{IsJudgedByTrees}
use Rattle.interval_solver.specs.Domains.{AreDomainsOf}

got_below : {A : Type 0} (xs : List A) (n : ℕ) (x : A) → slice_get xs n ≡ Some x → n < length xs
got_below [] n x at = absurd (cc)
got_below (y ∷ ys) zero x at = omega arith
got_below (y ∷ ys) (suc n) x at = let less : n < length ys = got_below ys n x at in omega (arith, less)

-- a symbol with a domain is one of the condition's
pub has_symbol : (c : Condition) (sets : List RangeSet) → AreDomainsOf c sets → (s : SymId) (set : RangeSet) → slice_get sets s.0 ≡ Some set → s.0 < length c.widths
has_symbol c sets are s set at = subst (λ n. s.0 < n) are.count (got_below sets s.0 set at)

both_true : (a b : Bool) → a ≡ true → b ≡ true → (a && b) ≡ true
both_true true true h k = refl
both_true true false h k = k
both_true false b h k = h

-- no value is possible in both, where the sets meet in none
module _ (c d : Condition) (one other both : RangeSet) (s : SymId)
    (own : IsJudgedByTrees view c) (others : IsJudgedByTrees view d)
    (first : IsSetOf one.width (λ value. is_member one.pairs value && is_member other.pairs value) both)
    (none : both.pairs ≡ []) where
  pub none_in_both : ((value : ℕ) → is_member one.pairs value ≡ is_possible view c s value)
      → ((value : ℕ) → is_member other.pairs value ≡ is_possible view d s value)
      → (value : ℕ) → is_possible itself (seen view c) s value ≡ true → is_possible itself (seen view d) s value ≡ true → ⊥
  unfolding is_member
  none_in_both left right value h k =
      let one_has = left value ∙ (sym (own.possible s value) ∙ h) in
      let other_has = right value ∙ (sym (others.possible s value) ∙ k) in
      let has = first.members value ∙ both_true (is_member one.pairs value) (is_member other.pairs value) one_has other_has in
      true≢false (sym has ∙ ap (λ pairs. is_member pairs value) none)
