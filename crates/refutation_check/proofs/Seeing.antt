-- What is said of a condition is said of the trees of its formulas.
use Rattle.std.proofs.Common.{◌≡◌, ◌↔◌, ℕ, ◌+◌, ◌*◌, cond, Bool, ◌&&◌, ◌||◌, List, [], ◌∷◌, ◌++◌, map, length, Option, Some, None, refl, sym, ap, ◌∙◌}
use Rattle.std.specs.Prelude.{slice_get, slice_index}
use Rattle.std.specs.List.{list_all, list_any, position_from}
use Rattle.std.specs.Option.{option_map}
use Rattle.std.proofs.lemmas.List.Folds.{list_all-map}
use Rattle.std.proofs.lemmas.Option.{slice_get-map}
use Rattle.sn_width.specs.declared.ids.SymId.{SymId}
use Rattle.sn_ranges.specs.Ranges.{fits_width}
use Rattle.path_formula.specs.Formulas.{FormulaTree}
use Rattle.path_formula.specs.Solutions.{alone}
use Rattle.path_cond.specs.Seen.{ConditionOf, itself, entry_seen, seen, entry_holds, holds_at, is_entry_on, meets, in_domain, is_broken, first_broken, AllTyped}
use Rattle.path_formula.specs.Bounds.{Case}
use Rattle.path_formula.specs.Cases.{single_cases, with_bounds}
use Rattle.path_formula.specs.CaseCounts.{capped}
use Rattle.sn_ranges.specs.Sets.{ranges_where}
use Rattle.path_formula.specs.Members.{member_of}
use Rattle.path_cond.specs.Occurring.{symbols_from}
use Rattle.path_cond.specs.Choices.{product, passes, couples, is_coupled, coupled_symbols, domain_cases, range_count, entry_case_count, choice_count, are_simple_picks, meets_picks, has_no_cases, first_without_cases}
use Rattle.refutation_check.specs.Trees.{IsJudgedByTrees}
use Rattle.refutation_check.specs.Seen.{is_outside, holds_unless_outside, is_broken_outside, first_broken_outside, IsRefuted, IsMetBy, IsUndecidedBy, AreBreaking, IsLicensed, Leaves, Refutes, IsAccepted}
use Rattle.refutation_check.specs.declared.outcome.Cause.{Cause}
use Rattle.refutation_check.specs.declared.outcome.Cause.TheVariants.{Outside, Cases, Coupled}
use Rattle.refutation_check.specs.declared.steps.Refute.{Refute}
use Rattle.refutation_check.specs.declared.steps.Refute.TheVariants.{Empty, Domain, Split, Cycle}
use Rattle.refutation_check.proofs.Agreeing.{Agrees, turned, agree_throughout, refuted, met, undecided_same, many_coupled, many_choices, candidates, least, none, empty}

module _ {A B : Type 0} (p : B → Bool) (f : A → B) where
  any_mapped : (xs : List A) → list_any p (map f xs) ≡ list_any (λ x. p (f x)) xs
  any_mapped [] = refl
  any_mapped (x ∷ xs) = ap (λ b. p (f x) || b) (any_mapped xs)

  position_mapped : (n : ℕ) (xs : List A) → position_from p n (map f xs) ≡ position_from (λ x. p (f x)) n xs
  position_mapped n [] = refl
  position_mapped n (x ∷ xs) = ap (λ (o : Option ℕ). cond (p (f x)) (Some n) o) (position_mapped (n + 1) xs)

  passes_mapped : (o : Option A) → passes p (option_map f o) ≡ passes (λ x. p (f x)) o
  passes_mapped None = refl
  passes_mapped (Some x) = refl

  pick_mapped : (xs : List A) (pick : ℕ) → passes p (slice_get (map f xs) pick) ≡ passes (λ x. p (f x)) (slice_get xs pick)
  pick_mapped xs pick = ap (passes p) (slice_get-map f xs pick) ∙ passes_mapped (slice_get xs pick)

module _ {X : Type 0} (tree : X → FormulaTree) (c : ConditionOf X) where
  pub holds_seen : (values : List ℕ) → holds_at itself (seen tree c) values ≡ holds_at tree c values
  holds_seen values = list_all-map (entry_holds itself values) (entry_seen tree) c.entries

  pub broken_seen : first_broken itself (seen tree c) ≡ first_broken tree c
  broken_seen = position_mapped (is_broken itself) (entry_seen tree) 0 c.entries

  pub domain_seen : (s : SymId) (value : ℕ) → in_domain itself s (seen tree c) value ≡ in_domain tree s c value
  domain_seen s value = list_all-map (meets itself s (alone s value)) (entry_seen tree) c.entries

  coupled_seen : (s : SymId) → is_coupled itself (seen tree c) s ≡ is_coupled tree c s
  coupled_seen s = any_mapped (couples itself s) (entry_seen tree) c.entries

  pub symbols_seen : coupled_symbols itself (seen tree c) ≡ coupled_symbols tree c
  symbols_seen = λ i. symbols_from (λ (s : SymId). coupled_seen s i) 0 (length c.widths)

  pub cases_seen : (s : SymId) → domain_cases itself (seen tree c) s ≡ domain_cases tree c s
  cases_seen s = λ i. single_cases s (slice_index c.widths s.0) (λ value. domain_seen s value i)

  ranges_seen : (s : SymId) → range_count itself (seen tree c) s ≡ range_count tree c s
  ranges_seen s = λ i. length (ranges_where (slice_index c.widths s.0) (λ value. domain_seen s value i))

  counts_seen : (es : List (X × Bool)) → product (map (entry_case_count itself) (map (entry_seen tree) es)) ≡ product (map (entry_case_count tree) es)
  counts_seen [] = refl
  counts_seen (e ∷ es) = ap (λ n. entry_case_count tree e * n) (counts_seen es)

  choices_seen : choice_count itself (seen tree c) ≡ choice_count tree c
  choices_seen = λ i. capped (counts_seen c.entries i * product (map (λ (s : SymId). ranges_seen s i) (symbols_seen i)))

  satisfied_seen : (values : List ℕ) → list_all (holds_unless_outside itself values) (seen tree c).entries ≡ list_all (holds_unless_outside tree values) c.entries
  satisfied_seen values = list_all-map (holds_unless_outside itself values) (entry_seen tree) c.entries

  outside_seen : (values : List ℕ) → first_broken_outside itself (seen tree c) values ≡ first_broken_outside tree c values
  outside_seen values = position_mapped (is_broken_outside itself values) (entry_seen tree) 0 c.entries

  -- a condition and its trees agree
  pub agrees_seen : Agrees tree itself (λ n. n) (λ n. n) c (seen tree c)
  agrees_seen =
      agree_throughout tree itself c (seen tree c) refl (sym broken_seen) (λ s value. sym (domain_seen s value)) (ap length (sym symbols_seen)) (sym choices_seen) refl
      (λ values. sym (satisfied_seen values)) (λ values. sym (outside_seen values))

  seen_agrees : Agrees itself tree (λ n. n) (λ n. n) (seen tree c) c
  seen_agrees = turned tree itself (λ n. n) (λ n. n) c (seen tree c) agrees_seen

  pub refuted_seen : IsRefuted tree c ↔ IsRefuted itself (seen tree c)
  refuted_seen = (refuted tree itself (λ n. n) (λ n. n) c (seen tree c) agrees_seen, refuted itself tree (λ n. n) (λ n. n) (seen tree c) c seen_agrees)

  pub met_seen : (values : List ℕ) → IsMetBy tree c values ↔ IsMetBy itself (seen tree c) values
  met_seen values = (met tree itself (λ n. n) (λ n. n) c (seen tree c) agrees_seen values, met itself tree (λ n. n) (λ n. n) (seen tree c) c seen_agrees values)

  pub undecided_seen : (cause : Cause) → IsUndecidedBy tree c cause ↔ IsUndecidedBy itself (seen tree c) cause
  undecided_seen cause = (undecided_same tree itself c (seen tree c) agrees_seen cause, undecided_same itself tree (seen tree c) c seen_agrees cause)

  -- formulas at picks

  entry_there : (es : List (X × Bool)) (pick : ℕ) (e : X × Bool) → slice_get es pick ≡ Some e → slice_get (map (entry_seen tree) es) pick ≡ Some (entry_seen tree e)
  entry_there es pick e at = slice_get-map (entry_seen tree) es pick ∙ ap (option_map (entry_seen tree)) at

  entry_behind : (o : Option (X × Bool)) (e : FormulaTree × Bool) → option_map (entry_seen tree) o ≡ Some e → (d : X × Bool) × (o ≡ Some d) × (entry_seen tree d ≡ e)
  entry_behind None e h = let bad : None ≡ Some e = h in cc
  entry_behind (Some d) e h = let same : entry_seen tree d ≡ e = cc in (d, refl, same)

  entry_back : (es : List (X × Bool)) (pick : ℕ) (e : FormulaTree × Bool) → slice_get (map (entry_seen tree) es) pick ≡ Some e → (d : X × Bool) × (slice_get es pick ≡ Some d) × (entry_seen tree d ≡ e)
  entry_back es pick e at = entry_behind (slice_get es pick) e (sym (slice_get-map (entry_seen tree) es pick) ∙ at)

  breaking_seen : (pick : ℕ) (values : List ℕ) → AreBreaking tree c pick values → AreBreaking itself (seen tree c) pick values
  breaking_seen pick values h = record {
    entry = entry_seen tree h.entry;
    at = entry_there c.entries pick h.entry h.at;
    outside = h.outside;
    candidates = candidates tree itself (λ n. n) (λ n. n) c (seen tree c) agrees_seen values h.candidates;
    broken = h.broken;
  }

  seen_breaking : (pick : ℕ) (values : List ℕ) → AreBreaking itself (seen tree c) pick values → AreBreaking tree c pick values
  seen_breaking pick values h =
      let back = entry_back c.entries pick h.entry h.at in
      record {
        entry = back.0;
        at = back.1;
        outside = ap (is_outside itself) back.2 ∙ h.outside;
        candidates = candidates itself tree (λ n. n) (λ n. n) (seen tree c) c seen_agrees values h.candidates;
        broken = ap (entry_holds itself values) back.2 ∙ h.broken;
      }

  pub licensed_seen : (cause : Cause) → IsLicensed tree c cause ↔ IsLicensed itself (seen tree c) cause
  licensed_seen (Outside pick values) = (breaking_seen pick values, seen_breaking pick values)
  licensed_seen (Cases count) = (many_choices tree itself (λ n. n) (λ n. n) c (seen tree c) agrees_seen count, many_choices itself tree (λ n. n) (λ n. n) (seen tree c) c seen_agrees count)
  licensed_seen (Coupled count) = (many_coupled tree itself (λ n. n) (λ n. n) c (seen tree c) agrees_seen count, many_coupled itself tree (λ n. n) (λ n. n) (seen tree c) c seen_agrees count)

  -- refutations

  simple_seen : (s : SymId) (picks : List ℕ) → are_simple_picks itself s (seen tree c) picks ≡ are_simple_picks tree s c picks
  simple_seen s picks = λ i. list_all (λ (pick : ℕ). pick_mapped (is_entry_on itself s) (entry_seen tree) c.entries pick i) picks

  picks_seen : (s : SymId) (picks : List ℕ) (value : ℕ) → meets_picks itself s (seen tree c) picks value ≡ meets_picks tree s c picks value
  picks_seen s picks value = λ i. list_all (λ (pick : ℕ). pick_mapped (entry_holds itself (alone s value)) (entry_seen tree) c.entries pick i) picks

  value_seen : (s : SymId) (picks : List ℕ) (value : ℕ) → (fits_width (slice_index c.widths s.0) value && meets_picks itself s (seen tree c) picks value) ≡ (fits_width (slice_index c.widths s.0) value && meets_picks tree s c picks value)
  value_seen s picks value = ap (λ b. fits_width (slice_index c.widths s.0) value && b) (picks_seen s picks value)

  leaves_seen : (gathered : Case) (step : Refute) (cases : List Case) → Leaves tree c gathered step cases → Leaves itself (seen tree c) gathered step cases
  leaves_seen gathered (Empty s picks) cases h =
      (record { known = h.0.known; simple = simple_seen s picks ∙ h.0.simple; no_value = λ value. value_seen s picks value ∙ h.0.no_value value }, h.1)
  leaves_seen gathered (Domain s) cases h = (record { known = h.0.known; narrow = h.0.narrow }, h.1 ∙ sym (cases_seen s))
  leaves_seen gathered (Split pick way) cases h =
      record { entry = entry_seen tree h.entry; at = entry_there c.entries pick h.entry h.at; member = h.member; leads = h.leads; splits = h.splits; cases_are = h.cases_are }
  leaves_seen gathered (Cycle bounds) cases h = h

  seen_leaves : (gathered : Case) (step : Refute) (cases : List Case) → Leaves itself (seen tree c) gathered step cases → Leaves tree c gathered step cases
  seen_leaves gathered (Empty s picks) cases h =
      (record { known = h.0.known; simple = sym (simple_seen s picks) ∙ h.0.simple; no_value = λ value. sym (value_seen s picks value) ∙ h.0.no_value value }, h.1)
  seen_leaves gathered (Domain s) cases h = (record { known = h.0.known; narrow = h.0.narrow }, h.1 ∙ cases_seen s)
  seen_leaves gathered (Split pick way) cases h =
      let back = entry_back c.entries pick h.entry h.at in
      record {
        entry = back.0;
        at = back.1;
        member = h.member;
        leads = ap (λ (e : FormulaTree × Bool). member_of e.0 e.1 way) back.2 ∙ h.leads;
        splits = h.splits;
        cases_are = h.cases_are;
      }
  seen_leaves gathered (Cycle bounds) cases h = h

  refutes_seen : (alternatives : List Case) (steps : List Refute) → Refutes tree c alternatives steps → Refutes itself (seen tree c) alternatives steps
  refutes_seen [] [] h = tt
  refutes_seen [] (step ∷ steps) h = absurd h
  refutes_seen (gathered ∷ alternatives) [] h = absurd h
  refutes_seen (gathered ∷ alternatives) (step ∷ steps) h =
      (h.0, leaves_seen gathered step h.0 h.1, refutes_seen (with_bounds h.0 gathered ++ alternatives) steps h.2)

  seen_refutes : (alternatives : List Case) (steps : List Refute) → Refutes itself (seen tree c) alternatives steps → Refutes tree c alternatives steps
  seen_refutes [] [] h = tt
  seen_refutes [] (step ∷ steps) h = absurd h
  seen_refutes (gathered ∷ alternatives) [] h = absurd h
  seen_refutes (gathered ∷ alternatives) (step ∷ steps) h =
      (h.0, seen_leaves gathered step h.0 h.1, seen_refutes (with_bounds h.0 gathered ++ alternatives) steps h.2)

  pub accepted_seen : (steps : List Refute) → IsAccepted tree c steps ↔ IsAccepted itself (seen tree c) steps
  accepted_seen steps = (refutes_seen ([] ∷ []) steps, seen_refutes ([] ∷ []) steps)

  typed_to : (widths : List ℕ) (es : List (X × Bool)) → AllTyped tree widths es → AllTyped itself widths (map (entry_seen tree) es)
  typed_to widths [] h = tt
  typed_to widths (e ∷ es) h = (h.0, typed_to widths es h.1)

  typed_from : (widths : List ℕ) (es : List (X × Bool)) → AllTyped itself widths (map (entry_seen tree) es) → AllTyped tree widths es
  typed_from widths [] h = tt
  typed_from widths (e ∷ es) h = (h.0, typed_from widths es h.1)

  pub typed_seen : AllTyped tree c.widths c.entries ↔ AllTyped itself c.widths (seen tree c).entries
  typed_seen = (typed_to c.widths c.entries, typed_from c.widths c.entries)

  caseless_seen : first_without_cases itself (seen tree c) ≡ first_without_cases tree c
  caseless_seen = position_mapped (has_no_cases itself) (entry_seen tree) 0 c.entries

  pub judged : IsJudgedByTrees tree c
  judged = record {
    holds = holds_seen;
    typed = typed_seen;
    broken = broken_seen;
    possible = λ s value. ap (λ b. fits_width (slice_index c.widths s.0) value && b) (domain_seen s value);
    empty = (empty tree itself (λ n. n) (λ n. n) c (seen tree c) agrees_seen, empty itself tree (λ n. n) (λ n. n) (seen tree c) c seen_agrees);
    candidates = λ values. (candidates tree itself (λ n. n) (λ n. n) c (seen tree c) agrees_seen values, candidates itself tree (λ n. n) (λ n. n) (seen tree c) c seen_agrees values);
    least = λ values. (least tree itself (λ n. n) (λ n. n) c (seen tree c) agrees_seen values, least itself tree (λ n. n) (λ n. n) (seen tree c) c seen_agrees values);
    none = (none tree itself (λ n. n) (λ n. n) c (seen tree c) agrees_seen, none itself tree (λ n. n) (λ n. n) (seen tree c) c seen_agrees);
    outside = outside_seen;
    coupled = symbols_seen;
    choices = choices_seen;
    caseless = caseless_seen;
    cases = cases_seen;
    leaves = λ gathered step cases. (leaves_seen gathered step cases, seen_leaves gathered step cases);
    refutes = λ alternatives steps. (refutes_seen alternatives steps, seen_refutes alternatives steps);
    refuted = refuted_seen;
    met = met_seen;
    undecided = undecided_seen;
    licensed = licensed_seen;
    accepted = accepted_seen;
  }
