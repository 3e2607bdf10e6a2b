-- Symbols that no formula has change no truth: values go on with zeros.
use Rattle.std.proofs.Common.{◌≡◌, ℕ, zero, suc, ◌+◌, ◌*◌, ◌%◌, ◌^◌, Bool, not, ◌&&◌, ◌||◌, cond, List, [], ◌∷◌, ◌++◌, length, refl, sym, ap, subst, ◌∙◌, arith, length-append, Some}
use Rattle.std.specs.Prelude.{slice_index, slice_get}
use Rattle.std.specs.List.{list_all, position_from}
use Rattle.std.proofs.lemmas.Nat.{pow_pos}
use Rattle.sn_width.specs.Width.{FitsWidth}
use Rattle.sn_width.specs.Rel.{relates}
use Rattle.lin_term.specs.Terms.{LinearTerm, Part, weighted_sum, value_at}
use Rattle.sn_ranges.specs.Ranges.{is_member}
use Rattle.path_formula.specs.Formulas.{FormulaTree, Formulas, always, compared, belongs, all_of, any_of, opposite, no_formulas, formula, truth_at, all_true, any_true}
use Rattle.path_formula.specs.Kinds.{kind_of}
use Rattle.path_formula.specs.Solutions.{agrees}
use Rattle.path_cond.specs.Seen.{ConditionOf}
use Rattle.refutation_check.specs.Longer.{zeros, with_widths}
use Rattle.refutation_check.specs.Seen.{AreCandidates, HasNoCandidates, holds_unless_outside, is_broken_outside, is_outside_kind, first_broken_outside}

zero_there : (ws : List ℕ) (s : ℕ) → slice_index (zeros ws) s ≡ 0
zero_there [] s = refl
zero_there (w ∷ ws) zero = refl
zero_there (w ∷ ws) (suc s) = zero_there ws s

same_there : (vs ws : List ℕ) (s : ℕ) → slice_index (vs ++ zeros ws) s ≡ slice_index vs s
same_there [] ws s = zero_there ws s
same_there (v ∷ vs) ws zero = refl
same_there (v ∷ vs) ws (suc s) = same_there vs ws s

same_sum : (ps : List Part) (vs ws : List ℕ) → weighted_sum ps (vs ++ zeros ws) ≡ weighted_sum ps vs
same_sum [] vs ws = refl
same_sum (p ∷ ps) vs ws = λ i. p.1 * same_there vs ws p.0.0 i + same_sum ps vs ws i

same_value : (t : LinearTerm) (vs ws : List ℕ) → value_at t (vs ++ zeros ws) ≡ value_at t vs
same_value t vs ws = ap (λ (n : ℕ). (t.constant + n) % 2 ^ t.width) (same_sum t.parts vs ws)

mutual
  -- a formula has one truth at values, and at these with zeros behind them
  same_truth : (f : FormulaTree) (vs ws : List ℕ) → truth_at f (vs ++ zeros ws) ≡ truth_at f vs
  same_truth (always truth) vs ws = refl
  same_truth (compared rel left right) vs ws = λ i. relates rel (same_value left vs ws i) (same_value right vs ws i)
  same_truth (belongs term set) vs ws = ap (is_member set.pairs) (same_value term vs ws)
  same_truth (all_of fs) vs ws = same_all fs vs ws
  same_truth (any_of fs) vs ws = same_any fs vs ws
  same_truth (opposite f) vs ws = ap not (same_truth f vs ws)

  same_all : (fs : Formulas) (vs ws : List ℕ) → all_true fs (vs ++ zeros ws) ≡ all_true fs vs
  same_all no_formulas vs ws = refl
  same_all (formula f fs) vs ws = λ i. same_truth f vs ws i && same_all fs vs ws i

  same_any : (fs : Formulas) (vs ws : List ℕ) → any_true fs (vs ++ zeros ws) ≡ any_true fs vs
  same_any no_formulas vs ws = refl
  same_any (formula f fs) vs ws = λ i. same_truth f vs ws i || same_any fs vs ws i

pub zeros_length : (ws : List ℕ) → length (zeros ws) ≡ length ws
zeros_length [] = refl
zeros_length (w ∷ ws) = ap suc (zeros_length ws)

fits_there : (vs us ws : List ℕ) → length vs ≡ length us → ((place width : ℕ) → slice_get us place ≡ Some width → FitsWidth width (slice_index vs place))
    → (place width : ℕ) → slice_get (us ++ ws) place ≡ Some width → FitsWidth width (slice_index (vs ++ zeros ws) place)
fits_there [] [] ws e h place width k = subst (FitsWidth width) (sym (zero_there ws place)) (pow_pos width)
fits_there [] (u ∷ us) ws e h place width k = absurd (omega (arith, e))
fits_there (v ∷ vs) [] ws e h place width k = absurd (omega (arith, e))
fits_there (v ∷ vs) (u ∷ us) ws e h zero width k = h zero width k
fits_there (v ∷ vs) (u ∷ us) ws e h (suc place) width k = fits_there vs us ws (omega (arith, e)) (λ p w q. h (suc p) w q) place width k

module _ {X : Type 0} (tree : X → FormulaTree) (more : List ℕ) where
  satisfied_same : (es : List (X × Bool)) (vs : List ℕ) → list_all (holds_unless_outside tree (vs ++ zeros more)) es ≡ list_all (holds_unless_outside tree vs) es
  satisfied_same [] vs = refl
  satisfied_same (e ∷ es) vs = λ i. (is_outside_kind (kind_of (tree e.0)) || agrees e.1 (same_truth (tree e.0) vs more i)) && satisfied_same es vs i

  outside_same : (n : ℕ) (es : List (X × Bool)) (vs : List ℕ) → position_from (is_broken_outside tree (vs ++ zeros more)) n es ≡ position_from (is_broken_outside tree vs) n es
  outside_same n [] vs = refl
  outside_same n (e ∷ es) vs = λ i. cond (is_outside_kind (kind_of (tree e.0)) && not (agrees e.1 (same_truth (tree e.0) vs more i))) (Some n) (outside_same (n + 1) es vs i)

  -- candidates, with zeros for more symbols
  pub candidates_wider : (c : ConditionOf X) (vs : List ℕ) → AreCandidates tree c vs → AreCandidates tree (with_widths c more) (vs ++ zeros more)
  candidates_wider c vs h = record {
    fitting = record {
      one_each = length-append vs (zeros more) ∙ ((λ i. h.fitting.one_each i + zeros_length more i) ∙ sym (length-append c.widths more));
      fit = fits_there vs c.widths more h.fitting.one_each h.fitting.fit;
    };
    satisfied = satisfied_same c.entries vs ∙ h.satisfied;
  }

  -- where more symbols leave no candidates, there were none
  pub none_narrower : (c : ConditionOf X) → HasNoCandidates tree (with_widths c more) → HasNoCandidates tree c
  none_narrower c h = λ vs k. h (vs ++ zeros more) (candidates_wider c vs k)

  -- the same outside formula is broken
  pub broken_wider : (c : ConditionOf X) (vs : List ℕ) → first_broken_outside tree (with_widths c more) (vs ++ zeros more) ≡ first_broken_outside tree c vs
  broken_wider c vs = outside_same 0 c.entries vs
