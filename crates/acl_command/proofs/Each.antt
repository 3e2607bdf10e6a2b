-- Each fate of a list of fates is that of the rule of its number.
use Rattle.std.proofs.Common.{◌≡◌, ◌∙◌, sym, ap, subst, ℕ, zero, suc, ◌+◌, List, [], ◌∷◌, ◌++◌, length, map, Some, length-append, arith}
use Rattle.std.specs.Prelude.{slice_get}
use Rattle.std.proofs.lemmas.List.{map-append}
use Rattle.std.proofs.lemmas.Option.{none-some, same_Some}
use Rattle.acl_rules.specs.declared.decided.Fate.{Fate}
use Rattle.acl_rules.specs.declared.rule.Rule.{Rule}
use Rattle.acl_rules.specs.Covers.{FateSeen, IsFate, fate_seen}

one_more : {X : Type 0} (P : ℕ → X → Type 0) (xs : List X) (x : X) → ((k : ℕ) (y : X) → slice_get xs k ≡ Some y → P k y) → P (length xs) x
    → (k : ℕ) (y : X) → slice_get (xs ++ x ∷ []) k ≡ Some y → P k y
one_more P [] x all last zero y is = subst (P 0) (same_Some x y is) last
one_more P [] x all last (suc k) y is = absurd (none-some y is)
one_more P (z ∷ xs) x all last zero y is = all zero y is
one_more P (z ∷ xs) x all last (suc k) y is = one_more (λ k. P (suc k)) xs x (λ k. all (suc k)) last k y is

abbrev pub AreEach : List Rule → List FateSeen → Type 0
AreEach rules fates = (k : ℕ) (fate : FateSeen) → slice_get fates k ≡ Some fate → IsFate rules k fate

module _ (rules : List Rule) (all old : List Fate) (fate : Fate) (n : ℕ) (is : all ≡ old ++ fate ∷ []) (many : length (map fate_seen old) ≡ n) where
  seen_is : map fate_seen all ≡ map fate_seen old ++ fate_seen fate ∷ []
  seen_is = ap (map fate_seen) is ∙ map-append fate_seen old (fate ∷ [])

  pub as_many : length (map fate_seen all) ≡ n + 1
  as_many = ap length seen_is ∙ length-append (map fate_seen old) (fate_seen fate ∷ []) ∙ ap (λ k. k + 1) many

  pub each : AreEach rules (map fate_seen old) → IsFate rules n (fate_seen fate) → AreEach rules (map fate_seen all)
  each so_far last =
      subst (AreEach rules) (sym seen_is)
      (one_more (IsFate rules) (map fate_seen old) (fate_seen fate) so_far (subst (λ k. IsFate rules k (fate_seen fate)) (sym many) last))
