-- Two lists of paths have one comparison.
use Rattle.std.proofs.Common.{◌≡◌, ◌⊎◌, ℕ, inl, inr, Bool, true, false, true≢false, ◌&&◌, ◌||◌, ◌==◌, nat_lt, List, [], ◌∷◌, ◌++◌, map, refl, sym, ap, subst, ◌∙◌, Option, Some, None, arith}
use Rattle.std.proofs.lemmas.Bool.Decides.{nat_tests}
use Rattle.std.proofs.lemmas.Map.Views.{exact_unsigned_eq}
use Rattle.std.specs.List.{AllByRecursion}
use Rattle.lin_term.specs.Terms.{LinearTerm}
use Rattle.path_formula.specs.Formulas.{FormulaTree, all_of}
use Rattle.path_formula.specs.View.{formulas_of}
use Rattle.path_cond.specs.Seen.{itself}
use Rattle.refutation_check.specs.Seen.{IsMetBy, IsRefuted, is_at_most}
use Rattle.path_solver.specs.Judged.{AreExact}
use Rattle.cell_stacks.specs.declared.cell.Cell.{Cell}
use Rattle.exact_records.specs.Records.{SymCondition}
use Rattle.compare_meaning.specs.Comparing.{AreUndecided, IsFirstMet, IsMetAt, IsOutAt, IsUndecidedAt, IsUnmetAt, same, other, unknown}
use Rattle.compare_meaning.specs.Facing.{AreCellEqualities, AreEqualities, AreFacingBy, AreFacingFormulas, AreMissing, Faces, IsEquality, IsFacingFormula, IsMiss, longest, must_be, must_not}
use Rattle.compare_meaning.specs.Laws.{ComparisonIsOne}
use Rattle.compare_meaning.specs.Outputs.{Heads}
use Rattle.compare_meaning.specs.Paths.{DeliveredPath}
use Rattle.compare_meaning.proofs.Lists.{all_weaker}

-- ---- one miss condition

missing_one : (had es : List (FormulaTree × Bool)) (fs gs : List FormulaTree) → AreMissing had es fs → AreMissing had es gs → fs ≡ gs
missing_one had [] fs gs h k = h ∙ sym k
missing_one had (e ∷ es) fs gs (inl h) (inl k) = missing_one had es fs gs h.1 k.1
missing_one had (e ∷ es) fs gs (inl h) (inr k) = absurd (k.0 h.0)
missing_one had (e ∷ es) fs gs (inr h) (inl k) = absurd (h.0 k.0)
missing_one had (e ∷ es) fs gs (inr h) (inr k) = h.2 ∙ (ap (λ z. must_be e ∷ z) (missing_one had es h.1 k.1 h.3 k.3) ∙ sym k.2)

equality_one : (a b : Option LinearTerm) (fs gs : List FormulaTree) → IsEquality a b fs → IsEquality a b gs → fs ≡ gs
equality_one None b fs gs h k = h ∙ sym k
equality_one (Some a) None fs gs h k = h ∙ sym k
equality_one (Some a) (Some b) fs gs (inl h) (inl k) = h.1 ∙ sym k.1
equality_one (Some a) (Some b) fs gs (inl h) (inr k) = absurd (k.0 h.0)
equality_one (Some a) (Some b) fs gs (inr h) (inl k) = absurd (h.0 k.0)
equality_one (Some a) (Some b) fs gs (inr h) (inr k) = h.1 ∙ sym k.1

cells_one : (cs ds : List (Cell LinearTerm)) (fs gs : List FormulaTree) → AreCellEqualities cs ds fs → AreCellEqualities cs ds gs → fs ≡ gs
cells_one [] ds fs gs h k = h ∙ sym k
cells_one (c ∷ cs) [] fs gs h k = h ∙ sym k
cells_one (c ∷ cs) (d ∷ ds) fs gs h k =
    let first = equality_one c.value d.value h.0 k.0 h.1 k.1 in
    let rest = cells_one cs ds h.2 k.2 h.3 k.3 in
    h.4 ∙ ((λ i. first i ++ rest i) ∙ sym k.4)

equalities_one : (hs ks : Heads LinearTerm) (fs gs : List FormulaTree) → AreEqualities hs ks fs → AreEqualities hs ks gs → fs ≡ gs
equalities_one [] ks fs gs h k = h ∙ sym k
equalities_one (x ∷ hs) [] fs gs h k = h ∙ sym k
equalities_one (x ∷ hs) (y ∷ ks) fs gs h k =
    let first = cells_one x.1 y.1 h.0 k.0 h.1 k.1 in
    let rest = equalities_one hs ks h.2 k.2 h.3 k.3 in
    h.4 ∙ ((λ i. first i ++ rest i) ∙ sym k.4)

formula_one : (p q : DeliveredPath) (f g : FormulaTree) → IsFacingFormula p q f → IsFacingFormula p q g → f ≡ g
formula_one p q f g h k =
    let missing = missing_one p.condition.entries q.condition.entries h.missing k.missing h.are_missing k.are_missing in
    let equalities = equalities_one p.heads q.heads h.equalities k.equalities h.are_equalities k.are_equalities in
    h.is ∙ ((λ i. all_of (formulas_of (missing i ++ equalities i))) ∙ sym k.is)

facing_one : (p : DeliveredPath) (qs fs gs : List DeliveredPath) → AreFacingBy (λ q. Faces p q → ⊥) p qs fs → AreFacingBy (λ q. Faces p q → ⊥) p qs gs → fs ≡ gs
facing_one p [] fs gs h k = h ∙ sym k
facing_one p (q ∷ qs) fs gs (inl h) (inl k) = h.2 ∙ (ap (λ z. q ∷ z) (facing_one p qs h.1 k.1 h.3 k.3) ∙ sym k.2)
facing_one p (q ∷ qs) fs gs (inl h) (inr k) = absurd (k.0 h.0)
facing_one p (q ∷ qs) fs gs (inr h) (inl k) = absurd (h.0 k.0)
facing_one p (q ∷ qs) fs gs (inr h) (inr k) = facing_one p qs fs gs h.1 k.1

formulas_one : (p : DeliveredPath) (qs : List DeliveredPath) (fs gs : List FormulaTree) → AreFacingFormulas p qs fs → AreFacingFormulas p qs gs → fs ≡ gs
formulas_one p [] fs gs h k = h ∙ sym k
formulas_one p (q ∷ qs) fs gs h k =
    let first = formula_one p q h.0 k.0 h.1 k.1 in
    let rest = formulas_one p qs h.2 k.2 h.3 k.3 in
    h.4 ∙ ((λ i. first i ∷ rest i) ∙ sym k.4)

miss_one : (p : DeliveredPath) (qs : List DeliveredPath) (c d : SymCondition) → IsMiss p qs c → IsMiss p qs d → c ≡ d
miss_one p qs c d h k =
    let facing = facing_one p qs h.facing k.facing h.are_facing k.are_facing in
    let formulas = formulas_one p k.facing h.formulas k.formulas (subst (λ fs. AreFacingFormulas p fs h.formulas) facing h.are_formulas) k.are_formulas in
    let widths = h.widths ∙ (ap (longest p.condition.widths) facing ∙ sym k.widths) in
    let entries = h.entries ∙ (ap (λ fs. p.condition.entries ++ map must_not fs) formulas ∙ sym k.entries) in
    let most = h.most_choices ∙ sym k.most_choices in
    λ i. record { widths = widths i; entries = entries i; most_choices = most i }

-- ---- one list of least values

either : (a b c : Bool) → (a || (b && c)) ≡ true → (a ≡ true) ⊎ ((b ≡ true) × (c ≡ true))
either true b c h = inl refl
either false true c h = inr (refl, h)
either false false c h = absurd (true≢false (sym h))

first_same : (x y : ℕ) (a b : Bool) → (nat_lt x y || (x == y && a)) ≡ true → (nat_lt y x || (y == x && b)) ≡ true → (x ≡ y) × (a ≡ true) × (b ≡ true)
first_same x y a b h k =
    elim (either (nat_lt x y) (x == y) a h) [
      | inl l ↦
          elim (either (nat_lt y x) (y == x) b k) [
            | inl m ↦ absurd (grind (arith, nat_tests))
            | inr m ↦ absurd (apart (exact_unsigned_eq y x m.0) l)
          ]
      | inr l ↦
          elim (either (nat_lt y x) (y == x) b k) [
            | inl m ↦ absurd (apart (exact_unsigned_eq x y l.0) m)
            | inr m ↦ (exact_unsigned_eq x y l.0, l.1, m.1)
          ]
    ]
  where
    apart : {m n : ℕ} → m ≡ n → nat_lt n m ≡ true → ⊥
    apart e h = grind (arith, nat_tests)

at_most_both : (vs ws : List ℕ) → is_at_most vs ws ≡ true → is_at_most ws vs ≡ true → vs ≡ ws
at_most_both [] [] h k = refl
at_most_both [] (w ∷ ws) h k = absurd (true≢false (sym k))
at_most_both (v ∷ vs) [] h k = absurd (true≢false (sym h))
at_most_both (v ∷ vs) (w ∷ ws) h k =
    let both = first_same v w (is_at_most vs ws) (is_at_most ws vs) h k in
    let rest = at_most_both vs ws both.1 both.2 in
    λ i. both.0 i ∷ rest i

least_one : (c : SymCondition) (vs ws : List ℕ) → IsMetBy itself c vs → IsMetBy itself c ws → vs ≡ ws
least_one c vs ws h k = at_most_both vs ws (h.least.first ws k.least.candidates) (k.least.first vs h.least.candidates)

-- ---- one comparison

module _ (exact : AreExact itself) where
  module _ (qs : List DeliveredPath) (p : DeliveredPath) where
    met_not_out : (vs : List ℕ) → IsMetAt IsMiss (IsRefuted itself) qs p vs → IsOutAt IsMiss (IsRefuted itself) qs p → ⊥
    met_not_out vs h k = exact.not_met k.0 vs k.2 (subst (λ c. IsMetBy itself c vs) (miss_one p qs h.0 k.0 h.1 k.1) h.2)

    met_not_undecided : (vs : List ℕ) → IsMetAt IsMiss (IsRefuted itself) qs p vs → IsUndecidedAt IsMiss (IsRefuted itself) qs p → ⊥
    met_not_undecided vs h k = exact.not_both k.0 k.2.0 vs k.2.1 (subst (λ c. IsMetBy itself c vs) (miss_one p qs h.0 k.0 h.1 k.1) h.2)

    undecided_not_out : IsUndecidedAt IsMiss (IsRefuted itself) qs p → IsOutAt IsMiss (IsRefuted itself) qs p → ⊥
    undecided_not_out h k = exact.not_undecided h.0 h.2.0 (subst (IsRefuted itself) (sym (miss_one p qs h.0 k.0 h.1 k.1)) k.2) h.2.1

    met_not_unmet : (vs : List ℕ) → IsMetAt IsMiss (IsRefuted itself) qs p vs → IsUnmetAt IsMiss (IsRefuted itself) qs p → ⊥
    met_not_unmet vs h (inl k) = met_not_undecided vs h k
    met_not_unmet vs h (inr k) = met_not_out vs h k

    met_one : (vs ws : List ℕ) → IsMetAt IsMiss (IsRefuted itself) qs p vs → IsMetAt IsMiss (IsRefuted itself) qs p ws → vs ≡ ws
    met_one vs ws h k = least_one k.0 vs ws (subst (λ c. IsMetBy itself c vs) (miss_one p qs h.0 k.0 h.1 k.1) h.2) k.2

  first_one : (qs ps : List DeliveredPath) (m n : ℕ) (vs ws : List ℕ) → IsFirstMet IsMiss (IsRefuted itself) qs ps m vs → IsFirstMet IsMiss (IsRefuted itself) qs ps n ws
      → (m ≡ n) × (vs ≡ ws)
  first_one qs [] m n vs ws h k = absurd h
  first_one qs (p ∷ ps) m n vs ws (inl h) (inl k) = (h.0 ∙ sym k.0, met_one qs p vs ws h.1 k.1)
  first_one qs (p ∷ ps) m n vs ws (inl h) (inr k) = absurd (met_not_unmet qs p vs h.1 k.0)
  first_one qs (p ∷ ps) m n vs ws (inr h) (inl k) = absurd (met_not_unmet qs p ws k.1 h.0)
  first_one qs (p ∷ ps) m n vs ws (inr h) (inr k) = first_one qs ps m n vs ws h.1 k.1

  none_first : (qs ps : List DeliveredPath) (n : ℕ) (vs : List ℕ) → AllByRecursion (IsUnmetAt IsMiss (IsRefuted itself) qs) ps
      → IsFirstMet IsMiss (IsRefuted itself) qs ps n vs → ⊥
  none_first qs [] n vs h k = k
  none_first qs (p ∷ ps) n vs h (inl k) = met_not_unmet qs p vs k.1 h.0
  none_first qs (p ∷ ps) n vs h (inr k) = none_first qs ps n vs h.1 k.1

  undecided_one : (qs ps : List DeliveredPath) (ms ns : List ℕ) → AreUndecided IsMiss (IsRefuted itself) qs ps ms → AreUndecided IsMiss (IsRefuted itself) qs ps ns → ms ≡ ns
  undecided_one qs [] ms ns h k = h ∙ sym k
  undecided_one qs (p ∷ ps) ms ns (inl h) (inl k) = h.2 ∙ (ap (λ z. p.number ∷ z) (undecided_one qs ps h.1 k.1 h.3 k.3) ∙ sym k.2)
  undecided_one qs (p ∷ ps) ms ns (inl h) (inr k) = absurd (undecided_not_out qs p h.0 k.0)
  undecided_one qs (p ∷ ps) ms ns (inr h) (inl k) = absurd (undecided_not_out qs p k.0 h.0)
  undecided_one qs (p ∷ ps) ms ns (inr h) (inr k) = undecided_one qs ps ms ns h.1 k.1

  none_undecided : (qs ps : List DeliveredPath) (ns : List ℕ) → AllByRecursion (IsOutAt IsMiss (IsRefuted itself) qs) ps → AreUndecided IsMiss (IsRefuted itself) qs ps ns → ns ≡ []
  none_undecided qs [] ns h k = k
  none_undecided qs (p ∷ ps) ns h (inl k) = absurd (undecided_not_out qs p k.0 h.0)
  none_undecided qs (p ∷ ps) ns h (inr k) = none_undecided qs ps ns h.1 k.1

  out_unmet : (qs ps : List DeliveredPath) → AllByRecursion (IsOutAt IsMiss (IsRefuted itself) qs) ps → AllByRecursion (IsUnmetAt IsMiss (IsRefuted itself) qs) ps
  out_unmet qs ps h = all_weaker _ _ ps (λ p k. inr k) h

  undecided_unmet : (qs ps : List DeliveredPath) (ns : List ℕ) → AreUndecided IsMiss (IsRefuted itself) qs ps ns → AllByRecursion (IsUnmetAt IsMiss (IsRefuted itself) qs) ps
  undecided_unmet qs [] ns h = tt
  undecided_unmet qs (p ∷ ps) ns (inl h) = (inl h.0, undecided_unmet qs ps h.1 h.3)
  undecided_unmet qs (p ∷ ps) ns (inr h) = (inr h.0, undecided_unmet qs ps ns h.1)

  pub comparison_is_one : ComparisonIsOne
  comparison_is_one ls rs same same h k = refl
  comparison_is_one ls rs same (other true n ws) h k = absurd (none_first rs ls n ws (out_unmet rs ls h.0) k)
  comparison_is_one ls rs same (other false n ws) h k = absurd (none_first ls rs n ws (out_unmet ls rs h.1) k.1)
  comparison_is_one ls rs same (unknown ns ms) h k = absurd (k.2 (none_undecided rs ls ns h.0 k.0, none_undecided ls rs ms h.1 k.1))
  comparison_is_one ls rs (other true m vs) same h k = absurd (none_first rs ls m vs (out_unmet rs ls k.0) h)
  comparison_is_one ls rs (other true m vs) (other true n ws) h k = let one = first_one rs ls m n vs ws h k in λ i. other true (one.0 i) (one.1 i)
  comparison_is_one ls rs (other true m vs) (other false n ws) h k = absurd (none_first rs ls m vs k.0 h)
  comparison_is_one ls rs (other true m vs) (unknown ns ms) h k = absurd (none_first rs ls m vs (undecided_unmet rs ls ns k.0) h)
  comparison_is_one ls rs (other false m vs) same h k = absurd (none_first ls rs m vs (out_unmet ls rs k.1) h.1)
  comparison_is_one ls rs (other false m vs) (other true n ws) h k = absurd (none_first rs ls n ws h.0 k)
  comparison_is_one ls rs (other false m vs) (other false n ws) h k = let one = first_one ls rs m n vs ws h.1 k.1 in λ i. other false (one.0 i) (one.1 i)
  comparison_is_one ls rs (other false m vs) (unknown ns ms) h k = absurd (none_first ls rs m vs (undecided_unmet ls rs ms k.1) h.1)
  comparison_is_one ls rs (unknown ns ms) same h k = absurd (h.2 (none_undecided rs ls ns k.0 h.0, none_undecided ls rs ms k.1 h.1))
  comparison_is_one ls rs (unknown ns ms) (other true n ws) h k = absurd (none_first rs ls n ws (undecided_unmet rs ls ns h.0) k)
  comparison_is_one ls rs (unknown ns ms) (other false n ws) h k = absurd (none_first ls rs n ws (undecided_unmet ls rs ms h.1) k.1)
  comparison_is_one ls rs (unknown ns ms) (unknown ks os) h k =
      let left = undecided_one rs ls ns ks h.0 k.0 in
      let right = undecided_one ls rs ms os h.1 k.1 in
      λ i. unknown (left i) (right i)
