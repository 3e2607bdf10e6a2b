-- Joined conditions, and what is open of them.
use Rattle.std.proofs.Common.{◌≡◌, ◌∙◌, ◌⊎◌, ℕ, Bool, List, [], ◌∷◌, ◌++◌, map, sym, ap, subst}
use Rattle.std.specs.List.{AllByRecursion}
use Rattle.path_cond.specs.Conditions.{Condition}
use Rattle.path_cond.specs.Seen.{AllTyped, entry_seen, itself, seen}
use Rattle.path_formula.specs.Formulas.{FormulaTree}
use Rattle.path_formula.specs.Typed.{IsTyped}
use Rattle.path_formula.specs.View.{view}
use Rattle.path_formula.specs.declared.formula.Formula.{Formula}
use Rattle.path_solver.specs.Judged.{AreExact}
use Rattle.refutation_check.specs.Longer.{condition_of, with_entries}
use Rattle.exact_records.specs.Records.{SymCondition}
use Rattle.compare_meaning.specs.Clashes.{Begins}
use Rattle.compare_meaning.specs.Facing.{AreMissing, joined, longer, must_not}
use Rattle.compare_meaning.specs.Paths.{DeliveredPath}
use Rattle.compare_typing.specs.Selecting.{CandidatesLeaveOpen, IsTorn}
use Rattle.net_compare.specs.declared.judged.Judged.{Judged}
use Rattle.net_compare.specs.declared.judged.Judged.TheVariants.{Met, Open, Out}
use Rattle.net_compare.specs.declared.weighing.Weighed.{Weighed}
use Rattle.net_compare.specs.declared.weighing.Weighed.TheVariants.{Least, Never, Unknown}
use Rattle.net_compare.specs.Facings.{KnowsOpen, TellsOpen, is_open, weighed_open}
use Rattle.net_compare.specs.Joining.{denied_by}
use Rattle.net_compare.specs.Saying.{Says}
use Rattle.net_compare.specs.Weighing.{IsWeighed}
use Rattle.net_compare.proofs.Matched.{other_begins}

pub open_told : AreExact itself → (c : SymCondition) (judged : Judged) → Says c judged → TellsOpen c (is_open judged)
open_told exact c (Met values) h = λ refuted. exact.not_met c values refuted h
open_told exact c Open h = λ refuted. exact.not_undecided c h.0 refuted h.1
open_told exact c Out h = h

pub open_weighed : CandidatesLeaveOpen → (c : SymCondition) (weighed : Weighed) → IsWeighed c weighed → KnowsOpen c (weighed_open weighed)
open_weighed leave c (Least values) h = λ refuted. leave c values h.candidates refuted
open_weighed leave c Never h = h
open_weighed leave c Unknown h = tt

module _ (stay : (widths more : List ℕ) (f : FormulaTree) → IsTyped widths f → IsTyped (widths ++ more) f) where
  typed_begun : (ws vs : List ℕ) (es : List (FormulaTree × Bool)) → Begins ws vs → AllTyped itself ws es → AllTyped itself vs es
  typed_begun ws vs [] h k = tt
  typed_begun ws vs (e ∷ es) h k = (subst (λ z. IsTyped z e.0) h.1 (stay ws h.0 e.0 k.0), typed_begun ws vs es h k.1)

  -- the formulas of the other are typed over the symbols of both
  pub typed_longer : (ws vs now : List ℕ) (es : List (FormulaTree × Bool)) → Begins ws vs ⊎ Begins vs ws → now ≡ longer ws vs → AllTyped itself vs es → AllTyped itself now es
  typed_longer ws vs now es agree is k = subst (λ z. AllTyped itself z es) (sym is) (typed_begun vs (longer ws vs) es (other_begins ws vs agree) k)

module _ (p q : DeliveredPath) where
  -- with the symbols of both and the formulas of the other it is joined
  pub is_joined : (own start wider : Condition) (vs : List ℕ) (row : List (FormulaTree × Bool)) → seen view own ≡ p.condition → vs ≡ q.condition.widths
      → row ≡ q.condition.entries → start ≡ own → wider ≡ record start { widths = longer start.widths vs } → with_entries (seen view wider) row ≡ joined p q
  is_joined own start wider vs row pis vis rowis same is =
      ap (λ (c : Condition). with_entries (seen view c) row) is
      ∙ (ap (λ (c : Condition). record { widths = longer c.widths vs; entries = map (entry_seen view) c.entries ++ row; most_choices = c.most_choices }) same
      ∙ λ i. record { widths = longer (pis i).widths (vis i); entries = (pis i).entries ++ rowis i; most_choices = (pis i).most_choices })

  -- so it is from rows
  pub whole_is_joined : (most : ℕ) (widths : List ℕ) (firsts seconds : List (FormulaTree × Bool)) → most ≡ p.condition.most_choices
      → widths ≡ longer p.condition.widths q.condition.widths → firsts ≡ p.condition.entries → seconds ≡ q.condition.entries
      → condition_of most widths (firsts ++ seconds) ≡ joined p q
  whole_is_joined most widths firsts seconds a b c d = λ i. record { widths = b i; entries = c i ++ d i; most_choices = a i }

-- ---- rows of paths

pub rows_lack : (xs ys es fs : List (FormulaTree × Bool)) (gs : List FormulaTree) → xs ≡ es → ys ≡ fs → AreMissing xs ys gs → AreMissing es fs gs
rows_lack xs ys es fs gs a b h = subst (λ zs. AreMissing es zs gs) b (subst (λ zs. AreMissing zs ys gs) a h)

pub rows_torn : (xs ys es fs : List (FormulaTree × Bool)) → xs ≡ es → ys ≡ fs → IsTorn xs ys → IsTorn es fs
rows_torn xs ys es fs a b h = subst (λ zs. IsTorn es zs) b (subst (λ zs. IsTorn zs ys) a h)

-- a row of a condition's formulas, each to be false behind them
pub whole_is_denied : (start : Condition) (fs : List FormulaTree) (most : ℕ) (firsts seconds : List (FormulaTree × Bool)) → most ≡ start.most_choices
    → firsts ≡ (seen view start).entries → seconds ≡ map must_not fs → condition_of most start.widths (firsts ++ seconds) ≡ denied_by (seen view start) fs
whole_is_denied start fs most firsts seconds a b c = λ i. record { widths = start.widths; entries = b i ++ c i; most_choices = a i }

typed_append : (ws : List ℕ) (es fs : List (FormulaTree × Bool)) → AllTyped itself ws es → AllTyped itself ws fs → AllTyped itself ws (es ++ fs)
typed_append ws [] fs h k = k
typed_append ws (e ∷ es) fs h k = (h.0, typed_append ws es fs h.1 k)

denied_typed : (ws : List ℕ) (fs : List Formula) → AllByRecursion (λ f. IsTyped ws (view f)) fs → AllTyped itself ws (map must_not (map view fs))
denied_typed ws [] h = tt
denied_typed ws (f ∷ fs) h = (h.0, denied_typed ws fs h.1)

pub all_typed : (start : Condition) (fs : List Formula) → AllTyped itself start.widths (seen view start).entries → AllByRecursion (λ f. IsTyped start.widths (view f)) fs
    → AllTyped itself (denied_by (seen view start) (map view fs)).widths (denied_by (seen view start) (map view fs)).entries
all_typed start fs h k = typed_append start.widths (seen view start).entries (map must_not (map view fs)) h (denied_typed start.widths fs k)
