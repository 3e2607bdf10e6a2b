-- Symbols that no formula has change nothing.
use Rattle.std.proofs.Common.{◌≡◌, inl, inr, ℕ, zero, suc, ◌+◌, ◌*◌, ◌^◌, ◌<◌, ◌≤◌, ◌==◌, Bool, true, false, ◌&&◌, ◌||◌, cond, List, [], ◌∷◌, ◌++◌, map, length, refl, sym, ap, ap₂, subst, ◌∙◌, arith, length-append, Option, Some, None}
use Rattle.std.specs.Prelude.{slice_index, slice_get}
use Rattle.std.specs.List.{list_all, list_any}
use Rattle.std.proofs.lemmas.Bool.{cases_lt, lt-ltb}
use Rattle.std.proofs.lemmas.Bool.Decides.{nat_tests}
use Rattle.std.proofs.lemmas.Nat.{pow_pos}
use Rattle.std.proofs.lemmas.Option.{slice_get_within}
use Rattle.sn_width.specs.declared.ids.SymId.{SymId}
use Rattle.lin_term.specs.Terms.{Part}
use Rattle.sn_ranges.specs.Ranges.{fits_width}
use Rattle.path_formula.specs.Atoms.{comparison_kind, membership_kind}
use Rattle.path_formula.specs.Formulas.{FormulaTree, Formulas, always, compared, belongs, all_of, any_of, opposite, no_formulas, formula}
use Rattle.path_formula.specs.Kinds.{is_constant_kind, kind_of}
use Rattle.path_formula.specs.Solutions.{alone}
use Rattle.path_formula.specs.Typed.{PartsAreTyped, IsTyped, AreTyped}
use Rattle.path_formula.specs.declared.kinds.Kind.{Kind}
use Rattle.path_formula.specs.declared.kinds.Kind.TheVariants.{Constant, Simple, Inside, Outside}
use Rattle.path_cond.specs.Seen.{ConditionOf, AllTyped, entry_holds, is_simple_on, meets, in_domain, tried}
use Rattle.path_formula.specs.CaseCounts.{capped}
use Rattle.sn_ranges.specs.Sets.{ranges_where}
use Rattle.path_cond.specs.Occurring.{stands_in, occurs_in, occurs_among, symbol_at, symbols_from}
use Rattle.path_cond.specs.Choices.{product, couples, is_inside, is_coupled, coupled_symbols, coupled_count, range_count, formula_choices, choice_count}
use Rattle.refutation_check.specs.Longer.{zeros, with_widths, with_zeros, WidenFreely}
use Rattle.refutation_check.specs.Seen.{most_coupled, is_possible, HasEmptyDomain, IsSimplyOpen, IsWithinLimits, IsRefuted, HasLeast, IsUndecidedBy}
use Rattle.refutation_check.specs.declared.outcome.Cause.{Cause}
use Rattle.refutation_check.specs.declared.outcome.Cause.TheVariants.{Outside as OutsideCause, Cases, Coupled}
use Rattle.refutation_check.proofs.Fronts.{none_wider, least_wider}
use Rattle.refutation_check.proofs.Padding.{none_narrower, broken_wider}

-- the law of formulas, as it is handed on
abbrev pub KnownSymbols : Type 0
KnownSymbols = (f : FormulaTree) (s : SymId) (widths : List ℕ) → kind_of f ≡ Simple s → IsTyped widths f → (w : ℕ) × (slice_get widths s.0 ≡ Some w)

-- Symbols past the last occur nowhere

none_by : (b x : Bool) → x ≡ false → cond b false x ≡ false
none_by true x h = refl
none_by false x h = h

and_none : (a b : Bool) → b ≡ false → (a && b) ≡ false
and_none true b h = h
and_none false b h = refl

other : (n m : ℕ) → n < m → (n == m) ≡ false
other n m h = grind (arith, nat_tests)

part_past : (widths : List ℕ) (w : ℕ) (parts : List Part) (s : SymId) → PartsAreTyped widths w parts → length widths ≤ s.0 → stands_in s parts ≡ false
part_past widths w [] s typed past = refl
part_past widths w (p ∷ parts) s typed past =
    let within : p.0.0 < length widths = slice_get_within widths p.0.0 w typed.0 in
    ap₂ (λ a b. a || b) (other p.0.0 s.0 (omega (arith, within, past))) (part_past widths w parts s typed.1 past)

module _ (widths : List ℕ) (s : SymId) (past : length widths ≤ s.0) where
  mutual
    occurs_past : (f : FormulaTree) → IsTyped widths f → occurs_in s f ≡ false
    occurs_past (always truth) typed = refl
    occurs_past (compared rel a b) typed =
        none_by (is_constant_kind (comparison_kind a b)) (stands_in s a.parts || stands_in s b.parts)
        (ap₂ (λ x y. x || y) (part_past widths a.width a.parts s typed.1 past) (part_past widths b.width b.parts s typed.2 past))
    occurs_past (belongs t set) typed = none_by (is_constant_kind (membership_kind t)) (stands_in s t.parts) (part_past widths t.width t.parts s typed.1 past)
    occurs_past (all_of fs) typed = none_past fs typed
    occurs_past (any_of fs) typed = none_past fs typed
    occurs_past (opposite f) typed = occurs_past f typed

    none_past : (fs : Formulas) → AreTyped widths fs → occurs_among s fs ≡ false
    none_past no_formulas typed = refl
    none_past (formula f fs) typed = ap₂ (λ x y. x || y) (occurs_past f typed.0) (none_past fs typed.1)

-- Symbols that pass a test

symbols_none : (test : SymId → Bool) (place k : ℕ) → ((s : SymId) → place ≤ s.0 → test s ≡ false) → symbols_from test place k ≡ []
symbols_none test place zero h = refl
symbols_none test place (suc k) h =
    ap (λ b. cond b (symbol_at place ∷ symbols_from test (suc place) k) (symbols_from test (suc place) k)) (h (symbol_at place) (omega arith))
    ∙ symbols_none test (suc place) k (λ s le. h s (omega (arith, le)))

symbols_split : (test : SymId → Bool) (place m k : ℕ) → ((s : SymId) → place + m ≤ s.0 → test s ≡ false) → symbols_from test place (m + k) ≡ symbols_from test place m
symbols_split test place zero k h = let e : 0 + k ≡ k = omega arith in ap (symbols_from test place) e ∙ symbols_none test place k (λ s le. h s (omega (arith, le)))
symbols_split test place (suc m) k h =
    let e : suc m + k ≡ suc (m + k) = omega arith in
    ap (symbols_from test place) e
    ∙ ap (λ (rest : List SymId). cond (test (symbol_at place)) (symbol_at place ∷ rest) rest) (symbols_split test (suc place) m k (λ s le. h s (omega (arith, le))))

mapped_by : (b : Bool) (f g : SymId → ℕ) (s : SymId) (rest : List SymId) → f s ≡ g s → map f rest ≡ map g rest → map f (cond b (s ∷ rest) rest) ≡ map g (cond b (s ∷ rest) rest)
mapped_by true f g s rest h k = ap₂ (λ (n : ℕ) (ns : List ℕ). n ∷ ns) h k
mapped_by false f g s rest h k = k

mapped : (test : SymId → Bool) (f g : SymId → ℕ) (place k : ℕ) → ((s : SymId) → s.0 < place + k → f s ≡ g s) → map f (symbols_from test place k) ≡ map g (symbols_from test place k)
mapped test f g place zero h = refl
mapped test f g place (suc k) h =
    mapped_by (test (symbol_at place)) f g (symbol_at place) (symbols_from test (suc place) k) (h (symbol_at place) (omega arith))
    (mapped test f g (suc place) k (λ s lt. h s (omega (arith, lt))))

index_first : (us vs : List ℕ) (n : ℕ) → n < length us → slice_index (us ++ vs) n ≡ slice_index us n
index_first [] vs n h = absurd (omega (arith, h))
index_first (u ∷ us) vs zero h = refl
index_first (u ∷ us) vs (suc n) h = index_first us vs n (omega (arith, h))

module _ {X : Type 0} (tree : X → FormulaTree) (law : KnownSymbols) (c : ConditionOf X) (more : List ℕ) (typed : AllTyped tree c.widths c.entries) where
  couples_past : (s : SymId) → length c.widths ≤ s.0 → (es : List (X × Bool)) → AllTyped tree c.widths es → list_any (couples tree s) es ≡ false
  couples_past s past [] h = refl
  couples_past s past (e ∷ es) h =
      ap₂ (λ x y. x || y) (and_none (is_inside tree e) (occurs_in s (tree e.0)) (occurs_past c.widths s past (tree e.0) h.0)) (couples_past s past es h.1)

  symbols_wider : coupled_symbols tree (with_widths c more) ≡ coupled_symbols tree c
  symbols_wider =
      ap (symbols_from (is_coupled tree c) 0) (length-append c.widths more)
      ∙ symbols_split (is_coupled tree c) 0 (length c.widths) (length more) (λ s past. couples_past s (omega (arith, past)) c.entries typed)

  range_wider : (s : SymId) → s.0 < length c.widths → range_count tree (with_widths c more) s ≡ range_count tree c s
  range_wider s known = ap (λ w. length (ranges_where w (in_domain tree s c))) (index_first c.widths more s.0 known)

  counts_wider : map (range_count tree (with_widths c more)) (coupled_symbols tree (with_widths c more)) ≡ map (range_count tree c) (coupled_symbols tree c)
  counts_wider =
      ap (map (range_count tree (with_widths c more))) symbols_wider
      ∙ mapped (is_coupled tree c) (range_count tree (with_widths c more)) (range_count tree c) 0 (length c.widths) (λ s lt. range_wider s (omega (arith, lt)))

  choices_wider : choice_count tree (with_widths c more) ≡ choice_count tree c
  choices_wider = ap (λ (ns : List ℕ). capped (formula_choices tree c * product ns)) counts_wider

  coupled_wider : coupled_count tree (with_widths c more) ≡ coupled_count tree c
  coupled_wider = ap length symbols_wider

  -- Values of symbols

  possible_wider : (s : SymId) (value : ℕ) → s.0 < length c.widths → is_possible tree (with_widths c more) s value ≡ is_possible tree c s value
  possible_wider s value known = ap (λ w. fits_width w value && in_domain tree s c value) (index_first c.widths more s.0 known)

  not_on : (s : SymId) (e : X × Bool) (kind : Kind) → kind_of (tree e.0) ≡ kind → IsTyped c.widths (tree e.0) → length c.widths ≤ s.0 → is_simple_on s kind ≡ false
  not_on s e (Constant truth) is h past = refl
  not_on s e (Simple r) is h past =
      let known = law (tree e.0) r c.widths is h in
      let within : r.0 < length c.widths = slice_get_within c.widths r.0 known.0 known.1 in
      other r.0 s.0 (omega (arith, within, past))
  not_on s e Inside is h past = refl
  not_on s e Outside is h past = refl

  all_meet : (s : SymId) (vs : List ℕ) (es : List (X × Bool)) → AllTyped tree c.widths es → length c.widths ≤ s.0 → list_all (meets tree s vs) es ≡ true
  all_meet s vs [] h past = refl
  all_meet s vs (e ∷ es) h past =
      ap₂ (λ b r. cond b (entry_holds tree vs e) true && r) (not_on s e (kind_of (tree e.0)) refl h.0 past) (all_meet s vs es h.1 past)

  -- 0 is possible for a new symbol
  zero_is_possible : (s : SymId) → length c.widths ≤ s.0 → is_possible tree (with_widths c more) s 0 ≡ true
  zero_is_possible s past =
      let w = slice_index (c.widths ++ more) s.0 in
      ap₂ (λ a b. a && b) (lt-ltb 0 (2 ^ w) (pow_pos w)) (all_meet s (alone s 0) c.entries typed past)

  known_wider : (s : SymId) → s.0 < length c.widths → s.0 < length (c.widths ++ more)
  known_wider s h = let e = length-append c.widths more in omega (arith, h, e)

  empty_narrower : HasEmptyDomain tree (with_widths c more) → HasEmptyDomain tree c
  empty_narrower h =
      elim (cases_lt h.symbol.0 (length c.widths)) [
        | inl known ↦ record { symbol = h.symbol; known = known; no_value = λ value. sym (possible_wider h.symbol value known) ∙ h.no_value value }
        | inr past ↦ let bad : true ≡ false = sym (zero_is_possible h.symbol past) ∙ h.no_value 0 in absurd (cc)
      ]

  open_wider : IsSimplyOpen tree c → IsSimplyOpen tree (with_widths c more)
  open_wider h = record {
    unbroken = h.unbroken;
    possible = λ s lt.
        elim (cases_lt s.0 (length c.widths)) [
          | inl known ↦ let found = h.possible s known in (found.0, possible_wider s found.0 known ∙ found.1)
          | inr past ↦ (0, zero_is_possible s past)
        ];
  }

  within_wider : IsWithinLimits tree c → IsWithinLimits tree (with_widths c more)
  within_wider h = record {
    coupled = subst (λ n. n ≤ most_coupled) (sym coupled_wider) h.coupled;
    choices = subst (λ n. n ≤ tried c.most_choices) (sym choices_wider) h.choices;
  }

  within_narrower : IsWithinLimits tree (with_widths c more) → IsWithinLimits tree c
  within_narrower h = record {
    coupled = subst (λ n. n ≤ most_coupled) coupled_wider h.coupled;
    choices = subst (λ n. n ≤ tried c.most_choices) choices_wider h.choices;
  }

  -- Verdicts

  refuted_wider : IsRefuted tree c → IsRefuted tree (with_widths c more)
  refuted_wider (inl (inl h)) = inl (inl (record { pick = h.pick; first = h.first }))
  refuted_wider (inl (inr h)) =
      inl (inr (record { symbol = h.symbol; known = known_wider h.symbol h.known; no_value = λ value. possible_wider h.symbol value h.known ∙ h.no_value value }))
  refuted_wider (inr h) = inr (record { within = within_wider h.within; no_candidates = none_wider tree more c typed h.no_candidates })

  refuted_narrower : IsRefuted tree (with_widths c more) → IsRefuted tree c
  refuted_narrower (inl (inl h)) = inl (inl (record { pick = h.pick; first = h.first }))
  refuted_narrower (inl (inr h)) = inl (inr (empty_narrower h))
  refuted_narrower (inr h) = inr (record { within = within_narrower h.within; no_candidates = none_narrower tree more c h.no_candidates })

  least_widened : (values : List ℕ) (broken : Option ℕ) → HasLeast tree c values broken → HasLeast tree (with_widths c more) (values ++ zeros more) broken
  least_widened values broken h = record {
    within = within_wider h.within;
    least = least_wider tree more c values typed h.least;
    broken_is = broken_wider tree more c values ∙ h.broken_is;
  }

  undecided_wider : (cause : Cause) → IsUndecidedBy tree c cause → IsUndecidedBy tree (with_widths c more) (with_zeros more cause)
  undecided_wider (OutsideCause pick values) h = least_widened values (Some pick) h
  undecided_wider (Cases count) h =
      (subst (λ n. n ≤ most_coupled) (sym coupled_wider) h.0, record { simply_open = open_wider h.1.simply_open; is = h.1.is ∙ sym choices_wider; many = h.1.many })
  undecided_wider (Coupled count) h = record { simply_open = open_wider h.simply_open; is = h.is ∙ sym coupled_wider; many = h.many }

module _ {X : Type 0} (tree : X → FormulaTree) (law : KnownSymbols) where
  pub widen_freely : WidenFreely tree
  widen_freely = record {
    refuted = λ c more typed. (refuted_narrower tree law c more typed, refuted_wider tree law c more typed);
    met = λ c more values typed h. least_widened tree law c more typed values None h;
    undecided = λ c more cause typed h. undecided_wider tree law c more typed cause h;
  }
