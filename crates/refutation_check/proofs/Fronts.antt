-- Values of more symbols than a typed condition has: the front of them counts.
use Rattle.std.proofs.Common.{◌≡◌, ℕ, zero, suc, ◌+◌, ◌*◌, ◌%◌, ◌^◌, ◌==◌, nat_lt, Bool, true, false, not, ◌&&◌, ◌||◌, List, [], ◌∷◌, ◌++◌, length, refl, sym, ap, subst, ◌∙◌, arith, length-append, Some, None}
use Rattle.std.specs.Prelude.{slice_index, slice_get}
use Rattle.std.proofs.lemmas.Bool.Decides.{nat_tests}
use Rattle.std.specs.List.{list_all}
use Rattle.sn_width.specs.Width.{FitsWidth}
use Rattle.sn_width.specs.Rel.{relates}
use Rattle.lin_term.specs.Terms.{LinearTerm, Part, weighted_sum, value_at}
use Rattle.sn_ranges.specs.Ranges.{is_member}
use Rattle.path_formula.specs.Formulas.{FormulaTree, Formulas, always, compared, belongs, all_of, any_of, opposite, no_formulas, formula, truth_at, all_true, any_true}
use Rattle.path_formula.specs.Kinds.{kind_of}
use Rattle.path_formula.specs.Solutions.{agrees}
use Rattle.path_formula.specs.Typed.{PartsAreTyped, IsTyped, AreTyped}
use Rattle.path_cond.specs.Seen.{ConditionOf, AllTyped}
use Rattle.refutation_check.specs.Longer.{zeros, with_widths}
use Rattle.refutation_check.specs.Seen.{AreCandidates, AreLeast, HasNoCandidates, holds_unless_outside, is_outside_kind, is_at_most}
use Rattle.refutation_check.proofs.Padding.{candidates_wider}

-- as many values as there are widths
abbrev front : List ℕ → List ℕ → List ℕ
front [] ws = []
front (u ∷ us) [] = 0 ∷ front us []
front (u ∷ us) (w ∷ ws) = w ∷ front us ws

front_length : (us ws : List ℕ) → length (front us ws) ≡ length us
front_length [] ws = refl
front_length (u ∷ us) [] = ap suc (front_length us [])
front_length (u ∷ us) (w ∷ ws) = ap suc (front_length us ws)

front_there : (us ws : List ℕ) (s width : ℕ) → slice_get us s ≡ Some width → slice_index (front us ws) s ≡ slice_index ws s
front_there [] ws s width e = let bad : None ≡ Some width = e in cc
front_there (u ∷ us) [] zero width e = refl
front_there (u ∷ us) [] (suc s) width e = front_there us [] s width e
front_there (u ∷ us) (w ∷ ws) zero width e = refl
front_there (u ∷ us) (w ∷ ws) (suc s) width e = front_there us ws s width e

front_sum : (us ws : List ℕ) (width : ℕ) (ps : List Part) → PartsAreTyped us width ps → weighted_sum ps (front us ws) ≡ weighted_sum ps ws
front_sum us ws width [] h = refl
front_sum us ws width (p ∷ ps) h = λ i. p.1 * front_there us ws p.0.0 width h.0 i + front_sum us ws width ps h.1 i

front_value : (us ws : List ℕ) (t : LinearTerm) → PartsAreTyped us t.width t.parts → value_at t (front us ws) ≡ value_at t ws
front_value us ws t h = ap (λ (n : ℕ). (t.constant + n) % 2 ^ t.width) (front_sum us ws t.width t.parts h)

mutual
  front_truth : (f : FormulaTree) (us ws : List ℕ) → IsTyped us f → truth_at f (front us ws) ≡ truth_at f ws
  front_truth (always truth) us ws h = refl
  front_truth (compared rel left right) us ws h = λ i. relates rel (front_value us ws left h.1 i) (front_value us ws right h.2 i)
  front_truth (belongs term set) us ws h = ap (is_member set.pairs) (front_value us ws term h.1)
  front_truth (all_of fs) us ws h = front_all fs us ws h
  front_truth (any_of fs) us ws h = front_any fs us ws h
  front_truth (opposite f) us ws h = ap not (front_truth f us ws h)

  front_all : (fs : Formulas) (us ws : List ℕ) → AreTyped us fs → all_true fs (front us ws) ≡ all_true fs ws
  front_all no_formulas us ws h = refl
  front_all (formula f fs) us ws h = λ i. front_truth f us ws h.0 i && front_all fs us ws h.1 i

  front_any : (fs : Formulas) (us ws : List ℕ) → AreTyped us fs → any_true fs (front us ws) ≡ any_true fs ws
  front_any no_formulas us ws h = refl
  front_any (formula f fs) us ws h = λ i. front_truth f us ws h.0 i || front_any fs us ws h.1 i

get_first : (us vs : List ℕ) (n width : ℕ) → slice_get us n ≡ Some width → slice_get (us ++ vs) n ≡ Some width
get_first [] vs n width e = let bad : None ≡ Some width = e in cc
get_first (u ∷ us) vs zero width e = e
get_first (u ∷ us) vs (suc n) width e = get_first us vs n width e

either : (a b c : Bool) → (a || (b && c)) ≡ true → (d : Bool) → (c ≡ true → d ≡ true) → (a || (b && d)) ≡ true
either true b c h d f = refl
either false true c h d f = f h
either false false c h d f = h

zeros_least : (us ws : List ℕ) → length ws ≡ length us → is_at_most (zeros us) ws ≡ true
zeros_least [] ws e = refl
zeros_least (u ∷ us) [] e = absurd (omega (arith, e))
zeros_least (u ∷ us) (zero ∷ ws) e = zeros_least us ws (omega (arith, e))
zeros_least (u ∷ us) (suc w ∷ ws) e = let less : nat_lt 0 (suc w) ≡ true = grind (arith, nat_tests) in ap (λ b. b || ((0 == suc w) && is_at_most (zeros us) ws)) less

at_most_wider : (us more vs ws : List ℕ) → length vs ≡ length us → length ws ≡ length us + length more → is_at_most vs (front us ws) ≡ true → is_at_most (vs ++ zeros more) ws ≡ true
at_most_wider [] more [] ws e k h = zeros_least more ws (omega (arith, k))
at_most_wider [] more (v ∷ vs) ws e k h = absurd (omega (arith, e))
at_most_wider (u ∷ us) more [] ws e k h = absurd (omega (arith, e))
at_most_wider (u ∷ us) more (v ∷ vs) [] e k h = absurd (omega (arith, k))
at_most_wider (u ∷ us) more (v ∷ vs) (w ∷ ws) e k h =
    either (nat_lt v w) (v == w) (is_at_most vs (front us ws)) h (is_at_most (vs ++ zeros more) ws) (at_most_wider us more vs ws (omega (arith, e)) (omega (arith, k)))

module _ {X : Type 0} (tree : X → FormulaTree) (more : List ℕ) where
  satisfied_front : (widths : List ℕ) (es : List (X × Bool)) (ws : List ℕ) → AllTyped tree widths es → list_all (holds_unless_outside tree (front widths ws)) es ≡ list_all (holds_unless_outside tree ws) es
  satisfied_front widths [] ws h = refl
  satisfied_front widths (e ∷ es) ws h = λ i. (is_outside_kind (kind_of (tree e.0)) || agrees e.1 (front_truth (tree e.0) widths ws h.0 i)) && satisfied_front widths es ws h.1 i

  candidates_narrower : (c : ConditionOf X) (ws : List ℕ) → AllTyped tree c.widths c.entries → AreCandidates tree (with_widths c more) ws → AreCandidates tree c (front c.widths ws)
  candidates_narrower c ws typed h = record {
    fitting = record {
      one_each = front_length c.widths ws;
      fit = λ place width e. subst (FitsWidth width) (sym (front_there c.widths ws place width e)) (h.fitting.fit place width (get_first c.widths more place width e));
    };
    satisfied = satisfied_front c.widths c.entries ws typed ∙ h.satisfied;
  }

  -- where there are no candidates, more symbols leave none
  pub none_wider : (c : ConditionOf X) → AllTyped tree c.widths c.entries → HasNoCandidates tree c → HasNoCandidates tree (with_widths c more)
  none_wider c typed h = λ ws k. h (front c.widths ws) (candidates_narrower c ws typed k)

  -- the least values, with zeros for more symbols, are the least
  pub least_wider : (c : ConditionOf X) (vs : List ℕ) → AllTyped tree c.widths c.entries → AreLeast tree c vs → AreLeast tree (with_widths c more) (vs ++ zeros more)
  least_wider c vs typed h = record {
    candidates = candidates_wider tree more c vs h.candidates;
    first = λ ws k. at_most_wider c.widths more vs ws h.candidates.fitting.one_each (k.fitting.one_each ∙ length-append c.widths more) (h.first (front c.widths ws) (candidates_narrower c ws typed k));
  }
