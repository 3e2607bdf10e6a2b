-- Conditions that are always decided, and what their values are.
use Rattle.std.proofs.Common.{◌≡◌, ◌⊎◌, ℕ, zero, suc, ◌*◌, ◌<◌, ◌≤◌, Bool, true, false, cond, ◌&&◌, ◌||◌, nat_eq, List, [], ◌∷◌, map, length, Some, None, Option, refl, sym, ap, ap₂, subst, ◌∙◌, arith, inl, inr}
use Rattle.std.specs.Prelude.{slice_index, slice_set}
use Rattle.std.specs.List.{list_any}
use Rattle.std.proofs.lemmas.Bool.{eqb-true}
use Rattle.std.proofs.lemmas.List.{length-set, get_or-set_same}
use Rattle.sn_width.specs.declared.ids.SymId.{SymId}
use Rattle.path_formula.specs.View.{view}
use Rattle.path_cond.specs.Conditions.{Condition, Entry, AllTyped, first_broken, is_possible}
use Rattle.path_cond.specs.Seen.{tried}
use Rattle.path_formula.specs.Cases.{cases_of}
use Rattle.path_formula.specs.CaseCounts.{capped}
use Rattle.interval_solver.specs.Verdicts.{IsLeastPossible, AreLeastValues}
use Rattle.path_cond.specs.Coupled.{is_inside, occurs_in, couples, is_coupled, symbol_at, symbols_from, coupled_symbols}
use Rattle.path_cond.specs.Counts.{range_count, entry_case_count, product, choice_count}
use Rattle.refutation_check.specs.Decisions.{IsWithinLimits, IsUndecidedBy}
use Rattle.refutation_check.specs.Least.{AreCandidates, AreLeast, is_outside}
use Rattle.refutation_check.specs.declared.outcome.Cause.{Cause}
use Rattle.refutation_check.specs.declared.outcome.Cause.TheVariants.{Outside as OutsideCause, Cases, Coupled}
use Rattle.path_solver.specs.Decisions.{IsDecisionOn, IsSettled, IsInFragment, HasNoInside, HasNoOutside, IsByLeastValues, HasLeastValues}
use Rattle.path_solver.specs.Laws.{Facts}
use Rattle.path_solver.specs.Origins.{IsOrigin, origins_of}
use Rattle.path_solver.specs.Unknowns.{is_listed}
use Rattle.path_solver.specs.declared.decision.Decided.{Decided}
use Rattle.path_solver.specs.declared.decision.Decided.TheVariants.{Sat, Unsat, Undecided}
use Rattle.refutation_check.specs.declared.steps.Refute.{Refute}
use Rattle.refutation_check.specs.declared.steps.Refute.TheVariants.{Empty, Domain, Split, Cycle}
use Rattle.path_solver.proofs.Ascending.{or_no_left, or_no_right, other_place}
use Rattle.path_solver.proofs.Bridge.{origins_are, meet_all}
use Rattle.path_solver.proofs.Candidates.{candidate_possible, met_candidate}
use Rattle.path_solver.proofs.Entries.{any_at}
use Rattle.path_solver.proofs.Exact.{licensed, refuted_none}
use Rattle.path_solver.proofs.Words.{at_most_set}

-- Limits

not_both : (a b : Bool) → a ≡ false → (a && b) ≡ false
not_both true b h = absurd (cc)
not_both false b h = refl

pub not_either : (a b : Bool) → a ≡ false → b ≡ false → (a || b) ≡ false
not_either true b h g = absurd (cc)
not_either false b h g = g

none_couple : (s : SymId) (entries : List Entry) → list_any is_inside entries ≡ false → list_any (couples s) entries ≡ false
none_couple s [] h = refl
none_couple s (e ∷ entries) h =
    not_either (couples s e) (list_any (couples s) entries)
    (not_both (is_inside e) (occurs_in s (view e.0)) (or_no_left (is_inside e) (list_any is_inside entries) h))
    (none_couple s entries (or_no_right (is_inside e) (list_any is_inside entries) h))

not_listed : (s : SymId) (rest : List SymId) (b : Bool) → b ≡ false → rest ≡ [] → cond b (s ∷ rest) rest ≡ []
not_listed s rest true e h = absurd (cc)
not_listed s rest false e h = h

none_from : (test : SymId → Bool) (place count : ℕ) → ((s : SymId) → test s ≡ false) → symbols_from test place count ≡ []
none_from test place zero h = refl
none_from test place (suc count) h =
    not_listed (symbol_at place) (symbols_from test (suc place) count) (test (symbol_at place)) (h (symbol_at place))
    (none_from test (suc place) count h)

none_coupled : (c : Condition) → HasNoInside c → coupled_symbols c ≡ []
none_coupled c h = none_from (is_coupled c) 0 (length c.widths) (λ s. none_couple s c.entries h)

one_unless : (n : ℕ) (b : Bool) → b ≡ false → cond b n 1 ≡ 1
one_unless n true e = absurd (cc)
one_unless n false e = refl

all_one : (entries : List Entry) → list_any is_inside entries ≡ false → product (map entry_case_count entries) ≡ 1
all_one [] h = refl
all_one (e ∷ entries) h =
    ap₂ (λ (m n : ℕ). m * n) (one_case e (or_no_left (is_inside e) (list_any is_inside entries) h))
    (all_one entries (or_no_right (is_inside e) (list_any is_inside entries) h))
  where
    one_case : (e : Entry) → is_inside e ≡ false → entry_case_count e ≡ 1
    one_case e h = one_unless (length (cases_of (view e.0) e.1)) (is_inside e) h

one_choice : (c : Condition) → HasNoInside c → choice_count c ≡ 1
one_choice c h =
    ap₂ (λ (m n : ℕ). capped (m * n)) (all_one c.entries h)
    (ap (λ (symbols : List SymId). product (map (range_count c) symbols)) (none_coupled c h))

one_is_tried : (most : ℕ) → 1 ≤ tried most
one_is_tried zero = omega arith
one_is_tried (suc more) = omega arith

limits_kept : (c : Condition) → HasNoInside c → IsWithinLimits c
limits_kept c h =
    record {
      coupled = omega (arith, ap (λ (symbols : List SymId). length symbols) (none_coupled c h));
      choices = omega (arith, one_choice c h, one_is_tried c.most_choices);
    }

within : (c : Condition) → IsWithinLimits c ⊎ HasNoInside c → IsWithinLimits c
within c (inl h) = h
within c (inr h) = limits_kept c h

-- where no formula is outside and the limits are kept, the condition is not undecided
never_undecided : (c : Condition) (cause : Cause) → IsUndecidedBy c cause → HasNoOutside c → IsWithinLimits c → ⊥
never_undecided c (Coupled count) h none limits = absurd (omega (arith, limits.coupled, h.is, h.many))
never_undecided c (Cases count) h none limits = absurd (omega (arith, limits.choices, h.1.is, h.1.many))
never_undecided c (OutsideCause pick values) h none limits =
    let breaking = licensed view c (OutsideCause pick values) h in
    let some : list_any is_outside c.entries ≡ true =
    any_at is_outside c.entries pick breaking.entry breaking.at breaking.outside in cc

pub fragment_settled : (c : Condition) (d : Decided) → IsDecisionOn c d → IsInFragment c → IsSettled d
fragment_settled c (Sat values) h f = tt
fragment_settled c (Unsat refutation) h f = tt
fragment_settled c (Undecided cause) h f = never_undecided c cause h f.0 (within c f.1)

-- Values

unbroken_by : Facts → (c : Condition) (values : List ℕ) (broken : Option ℕ) → AreCandidates c values
    → first_broken c ≡ broken → broken ≡ None
unbroken_by facts c values None h e = refl
unbroken_by facts c values (Some pick) h e = absurd (refuted_none view facts c values (inl (inl record { pick = pick; first = e })) h)

unbroken : Facts → (c : Condition) (values : List ℕ) → AreCandidates c values → first_broken c ≡ None
unbroken facts c values h = unbroken_by facts c values (first_broken c) h refl

pub no_origin : (c : Condition) (o : Refute) → HasNoInside c → IsOrigin c o → ⊥
no_origin c (Empty s picks) none h = h
no_origin c (Domain s) none h =
    let not : is_listed (coupled_symbols c) s ≡ false =
    ap (λ (symbols : List SymId). is_listed symbols s) (none_coupled c none) in cc
no_origin c (Cycle bounds) none h = h
no_origin c (Split pick way) none h =
    let some : list_any is_inside c.entries ≡ true = any_at is_inside c.entries pick h.entry h.at h.inside in cc

possible_with : Facts → (c : Condition) (values : List ℕ) (s : SymId) (value : ℕ) (r : SymId) (b : Bool)
    → nat_eq s.0 r.0 ≡ b → AreCandidates c values
    → s.0 < length c.widths → is_possible c s value ≡ true → r.0 < length c.widths
    → is_possible c r (slice_index (slice_set values s.0 value) r.0) ≡ true
possible_with facts c values s value r true e h known p there =
    let same : s.0 ≡ r.0 = eqb-true s.0 r.0 e in
    subst (λ (n : ℕ). is_possible c (record { 0 = n }) (slice_index (slice_set values s.0 value) n) ≡ true) same
    (subst (λ (v : ℕ). is_possible c s v ≡ true) (sym (get_or-set_same values s.0 value 0 (omega (arith, h.fitting.one_each)))) p)
possible_with facts c values s value r false e h known p there =
    subst (λ (v : ℕ). is_possible c r v ≡ true) (sym (other_place values s.0 r.0 value e))
    (candidate_possible facts c values r h there)

-- where no formula is inside, one value of a candidate may be any possible value
candidate_with : Facts → (c : Condition) (values : List ℕ) (s : SymId) (value : ℕ) → AllTyped c.widths c.entries
    → HasNoInside c → AreCandidates c values
    → s.0 < length c.widths → is_possible c s value ≡ true → AreCandidates c (slice_set values s.0 value)
candidate_with facts c values s value typed none h known p =
    met_candidate facts c (slice_set values s.0 value) typed (unbroken facts c values h)
    (length-set values s.0 value ∙ h.fitting.one_each)
    (λ r there. possible_with facts c values s value r (nat_eq s.0 r.0) refl h known p there)
    (meet_all c (slice_set values s.0 value) (origins_of c) (origins_are c) (λ o is. absurd (no_origin c o none is)))

least_at : Facts → (c : Condition) (values : List ℕ) (s : SymId) → AllTyped c.widths c.entries → HasNoInside c
    → AreLeast c values → s.0 < length c.widths
    → IsLeastPossible c s (slice_index values s.0)
least_at facts c values s typed none h known =
    record {
      possible = candidate_possible facts c values s h.candidates known;
      least = λ other p.
          at_most_set values s.0 other (omega (arith, h.candidates.fitting.one_each))
          (h.first (slice_set values s.0 other)
          (candidate_with facts c values s other typed none h.candidates known p));
    }

pub simple_least : Facts → (c : Condition) (values : List ℕ) → AllTyped c.widths c.entries → HasNoInside c
    → AreLeast c values → AreLeastValues c values
simple_least facts c values typed none h =
    record { count_is = h.candidates.fitting.one_each; each = λ s known. least_at facts c values s typed none h known }

by_least_values : Facts → (c : Condition) (cause : Cause) → AllTyped c.widths c.entries → IsUndecidedBy c cause
    → HasNoInside c → IsByLeastValues c cause
by_least_values facts c (Coupled count) typed h none = absurd (omega (arith, (limits_kept c none).coupled, h.is, h.many))
by_least_values facts c (Cases count) typed h none = absurd (omega (arith, (limits_kept c none).choices, h.1.is, h.1.many))
by_least_values facts c (OutsideCause pick values) typed h none = simple_least facts c values typed none h.least

pub has_least_values : Facts → (c : Condition) (d : Decided) → AllTyped c.widths c.entries → IsDecisionOn c d
    → HasNoInside c → HasLeastValues c d
has_least_values facts c (Sat values) typed h none = simple_least facts c values typed none h.least
has_least_values facts c (Unsat refutation) typed h none = tt
has_least_values facts c (Undecided cause) typed h none = by_least_values facts c cause typed h none
