-- A formula without cases refutes.
use Rattle.std.proofs.Common.{◌≡◌, ℕ, zero, suc, ◌+◌, ◌*◌, ◌≤◌, ◌==◌, ◌&&◌, ◌||◌, Bool, true, false, cond, List, [], ◌∷◌, length, map, Option, Some, refl, sym, ap, ◌∙◌, subst, arith, inr}
use Rattle.std.specs.Prelude.{slice_get}
use Rattle.std.specs.List.{list_all, position_from}
use Rattle.std.proofs.lemmas.Bool.{eqb-true}
use Rattle.std.proofs.lemmas.List.{nil_from_length}
use Rattle.path_formula.specs.Kinds.{kind_of}
use Rattle.path_formula.specs.Typed.{IsTyped}
use Rattle.path_formula.specs.View.{view}
use Rattle.path_formula.specs.declared.kinds.Kind.{Kind}
use Rattle.path_formula.specs.declared.kinds.Kind.TheVariants.{Constant, Simple, Inside, Outside}
use Rattle.path_cond.specs.Conditions.{Condition, Entry, AllTyped, entry_holds}
use Rattle.path_cond.specs.Seen.{tried}
use Rattle.path_formula.specs.Bounds.{is_one_met}
use Rattle.path_formula.specs.Cases.{cases_of}
use Rattle.path_formula.specs.CaseCounts.{capped}
use Rattle.path_cond.specs.Counts.{entry_case_count, product, formula_choices, range_choices, choice_count, has_no_cases, first_without_cases}
use Rattle.path_cond.specs.Coupled.{coupled_count, is_inside, is_inside_kind}
use Rattle.refutation_check.specs.Accepted.{IsAccepted}
use Rattle.refutation_check.specs.Decisions.{IsRefuted, most_coupled}
use Rattle.refutation_check.specs.Least.{is_outside_kind, holds_unless_outside}
use Rattle.refutation_check.specs.declared.steps.Refute.TheVariants.{Split}
use Rattle.path_solver.specs.Laws.{Facts}

-- the first entry that passes
pub record IsFirstAt (p : Entry → Bool) (n pick : ℕ) (es : List Entry) : Type 0 where
  pub place : ℕ
  pub entry : Entry
  pub is : pick ≡ n + place
  pub at : slice_get es place ≡ Some entry
  pub passes : p entry ≡ true

found_by : (p : Entry → Bool) (n pick : ℕ) (e : Entry) (es : List Entry) (o : Option ℕ) (b : Bool) → p e ≡ b → (o ≡ Some pick → IsFirstAt p (n + 1) pick es) → cond b (Some n) o ≡ Some pick → IsFirstAt p n pick (e ∷ es)
found_by p n pick e es o true is f h = let same : n ≡ pick = cc in record { place = 0; entry = e; is = omega (arith, same); at = refl; passes = is }
found_by p n pick e es o false is f h = let r = f h in record { place = suc r.place; entry = r.entry; is = omega (arith, r.is); at = r.at; passes = r.passes }

found : (p : Entry → Bool) (n pick : ℕ) (es : List Entry) → position_from p n es ≡ Some pick → IsFirstAt p n pick es
found p n pick [] h = cc
found p n pick (e ∷ es) h = found_by p n pick e es (position_from p (n + 1) es) (p e) refl (λ k. found p (n + 1) pick es k) h

inside_by : (b : Bool) (n : ℕ) → (cond b n 1 == 0) ≡ true → b ≡ true
inside_by true n h = refl
inside_by false n h = cc

inside_kind : (k : Kind) → is_inside_kind k ≡ true → k ≡ Inside
inside_kind (Constant b) h = cc
inside_kind (Simple s) h = cc
inside_kind Inside h = refl
inside_kind Outside h = cc

zero_times : (n : ℕ) → 0 * n ≡ 0
zero_times n = omega arith

times_zero : (n : ℕ) → n * 0 ≡ 0
times_zero n = omega arith

no_product : (es : List Entry) (i : ℕ) (e : Entry) → slice_get es i ≡ Some e → entry_case_count e ≡ 0 → product (map entry_case_count es) ≡ 0
no_product [] i e at h = cc
no_product (d ∷ es) zero e at h =
    let same : d ≡ e = cc in
    let none : entry_case_count d ≡ 0 = ap entry_case_count same ∙ h in
    ap (λ n. n * product (map entry_case_count es)) none ∙ zero_times (product (map entry_case_count es))
no_product (d ∷ es) (suc i) e at h = ap (λ n. entry_case_count d * n) (no_product es i e at h) ∙ times_zero (entry_case_count d)

holds_at_place : (q : Entry → Bool) (es : List Entry) (i : ℕ) (e : Entry) → list_all q es ≡ true → slice_get es i ≡ Some e → q e ≡ true
holds_at_place q [] i e h at = cc
holds_at_place q (d ∷ es) zero e h at = let same : d ≡ e = cc in subst (λ (x : Entry). q x ≡ true) same (left (q d) (list_all q es) h)
  where
    left : (a b : Bool) → (a && b) ≡ true → a ≡ true
    left true b h = refl
    left false b h = cc
holds_at_place q (d ∷ es) (suc i) e h at = holds_at_place q es i e (right (q d) (list_all q es) h) at
  where
    right : (a b : Bool) → (a && b) ≡ true → b ≡ true
    right true b h = h
    right false b h = cc

abbrev TypedAt : Type 0
TypedAt = (cond : Condition) (pick : ℕ) (entry : Entry) → AllTyped cond.widths cond.entries → slice_get cond.entries pick ≡ Some entry → IsTyped cond.widths (view entry.0)

-- one Split of a formula without cases refutes, where few enough symbols are coupled
pub split_refutes : Facts → TypedAt → (cond : Condition) (pick : ℕ) → AllTyped cond.widths cond.entries → first_without_cases cond ≡ Some pick
    → coupled_count cond ≤ most_coupled → IsRefuted cond × IsAccepted cond (Split pick [] ∷ [])
split_refutes facts typed_at c pick typed first few =
    let r = found has_no_cases 0 pick c.entries first in
    let e = r.entry in
    let place : r.place ≡ pick = omega (arith, r.is) in
    let at : slice_get c.entries pick ≡ Some e = subst (λ k. slice_get c.entries k ≡ Some e) place r.at in
    let inside = inside_by (is_inside e) (length (cases_of (view e.0) e.1)) r.passes in
    let kind = inside_kind (kind_of (view e.0)) inside in
    let none : entry_case_count e ≡ 0 = eqb-true (entry_case_count e) 0 r.passes in
    let count : length (cases_of (view e.0) e.1) ≡ 0 = ap (λ b. cond b (length (cases_of (view e.0) e.1)) 1) (sym inside) ∙ none in
    let empty : cases_of (view e.0) e.1 ≡ [] = nil_from_length (cases_of (view e.0) e.1) count in
    let entry_typed = typed_at c pick e typed at in
    let splits = facts.inside_splits (view e.0) c.widths kind entry_typed in
    let zero_choices : formula_choices c * range_choices c ≡ 0 = ap (λ n. n * range_choices c) (no_product c.entries pick e at none) ∙ zero_times (range_choices c) in
    let within : choice_count c ≤ tried c.most_choices = subst (λ n. capped n ≤ tried c.most_choices) (sym zero_choices) (omega arith) in (
      inr (record {
        within = record { coupled = few; choices = within };
        no_candidates = λ values h.
            let held = holds_at_place (holds_unless_outside values) c.entries pick e h.satisfied at in
            let truth : entry_holds values e ≡ true = ap (λ k. is_outside_kind k || entry_holds values e) (sym kind) ∙ held in
            let met = ap (is_one_met values) (sym empty) ∙ facts.cases_are_truth (view e.0) e.1 c.widths values splits entry_typed h.fitting.fit ∙ truth in
            let bad : false ≡ true = met in
            cc;
      }),
      ([], record { entry = e; at = at; member = (view e.0, e.1); leads = refl; splits = splits; cases_are = sym empty }, tt),
    )
