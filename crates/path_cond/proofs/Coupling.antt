-- The symbols with a mark, and those that inside formulas couple.
use Rattle.std.proofs.Common.{◌≡◌, ℕ, zero, suc, ◌+◌, ◌<◌, ◌≤◌, Bool, true, false, cond, ◌||◌, ◌&&◌, List, [], ◌∷◌, map, length, refl, sym, ap, ap₂, ◌∙◌, arith, inl, inr}
use Rattle.std.specs.Prelude.{is_some}
use Rattle.std.specs.List.{AllByRecursion, list_any}
use Rattle.std.specs.Ordering.{nat_cmp}
use Rattle.std.specs.declared.cmp.Ordering.TheVariants.{Less}
use Rattle.std.proofs.lemmas.Bool.{cases_lt, cases_eq, ne_eqb}
use Rattle.std.proofs.lemmas.List.{length-map}
use Rattle.std.proofs.lemmas.Option.{slice_get_within}
use Rattle.sn_tree.specs.Pairs.{IsAscending, value_at}
use Rattle.sn_width.specs.declared.ids.SymId.{SymId}
use Rattle.lin_term.specs.Terms.{Part}
use Rattle.path_formula.specs.Atoms.{comparison_kind, membership_kind}
use Rattle.path_formula.specs.Formulas.{FormulaTree, always, compared, belongs, all_of, any_of, opposite, Formulas, no_formulas, formula}
use Rattle.path_formula.specs.Kinds.{is_constant_kind}
use Rattle.path_formula.specs.Typed.{PartsAreTyped, IsTyped, AreTyped}
use Rattle.path_formula.specs.View.{view}
use Rattle.path_cond.specs.Conditions.{AllTyped, Condition, Entry}
use Rattle.path_cond.specs.Marks.{has_mark, marked_symbol}
use Rattle.path_cond.specs.Occurring.{stands_in, occurs_in, occurs_among, symbol_at, symbols_from}
use Rattle.path_cond.specs.Summaries.{is_inside, couples, is_coupled, coupled_symbols, coupled_count}
use Rattle.path_cond.proofs.Places.{nat_cmp-lt, nat_cmp-eq, nat_cmp-gt}

-- No symbol past the last occurs in a typed formula

part_past : (widths : List ℕ) (w : ℕ) (parts : List Part) (s : SymId) → PartsAreTyped widths w parts → length widths ≤ s.0 → stands_in s parts ≡ false
part_past widths w [] s typed past = refl
part_past widths w (p ∷ parts) s typed past =
    let known : p.0.0 < length widths = slice_get_within widths p.0.0 w typed.0 in
    ap₂ (λ x y. x || y) (ne_eqb p.0.0 s.0 (λ e. omega (arith, known, past, e))) (part_past widths w parts s typed.1 past)

none_by : (b c : Bool) → c ≡ false → cond b false c ≡ false
none_by true c h = refl
none_by false c h = h

module _ (widths : List ℕ) (s : SymId) (past : length widths ≤ s.0) where
  mutual
    occurs_past : (f : FormulaTree) → IsTyped widths f → occurs_in s f ≡ false
    occurs_past (always truth) typed = refl
    occurs_past (compared rel a b) typed =
        none_by (is_constant_kind (comparison_kind a b)) (stands_in s a.parts || stands_in s b.parts)
        (ap₂ (λ x y. x || y) (part_past widths a.width a.parts s typed.1 past) (part_past widths b.width b.parts s typed.2 past))
    occurs_past (belongs t set) typed = none_by (is_constant_kind (membership_kind t)) (stands_in s t.parts) (part_past widths t.width t.parts s typed.1 past)
    occurs_past (all_of fs) typed = none_past fs typed
    occurs_past (any_of fs) typed = none_past fs typed
    occurs_past (opposite f) typed = occurs_past f typed

    none_past : (fs : Formulas) → AreTyped widths fs → occurs_among s fs ≡ false
    none_past no_formulas typed = refl
    none_past (formula f fs) typed = ap₂ (λ x y. x || y) (occurs_past f typed.0) (none_past fs typed.1)

  and_none : (a b : Bool) → b ≡ false → (a && b) ≡ false
  and_none true b h = h
  and_none false b h = refl

  couples_past : (es : List Entry) → AllTyped widths es → list_any (couples s) es ≡ false
  couples_past [] typed = refl
  couples_past (e ∷ es) typed =
      ap₂ (λ x y. x || y) (and_none (is_inside e) (occurs_in s (view e.0)) (occurs_past (view e.0) typed.0)) (couples_past es typed.1)

-- The symbols with a mark, in order

nat_less : (x y : ℕ) → nat_cmp x y ≡ Less → x < y
nat_less x y h = elim (cases_lt x y) [
  | inl lt ↦ lt
  | inr ge ↦ elim (cases_eq x y) [
    | inl same ↦ let is = nat_cmp-eq x y same in absurd (cc)
    | inr other ↦ let lt : y < x = omega arith in let is = nat_cmp-gt x y lt in absurd (cc)
  ]
]

chosen : (b c : Bool) (s : SymId) (rest : List SymId) → b ≡ c → cond b (s ∷ rest) rest ≡ cond c (s ∷ rest) rest
chosen b c s rest e = ap (λ x. cond x (s ∷ rest) rest) e

module _ {V : Type 0} where
  -- the first key, if there is one, is no less
  abbrev StartsFrom : ℕ → List (ℕ × V) → Type 0
  StartsFrom n [] = Unit {0}
  StartsFrom n (p ∷ ps) = n ≤ p.0

  starts_later : (n : ℕ) (p : ℕ × V) (ps : List (ℕ × V)) → n ≤ p.0 → AllByRecursion (λ (q : ℕ × V). nat_cmp p.0 q.0 ≡ Less) ps → StartsFrom (suc n) ps
  starts_later n p [] le h = tt
  starts_later n p (q ∷ ps) le h = let lt : p.0 < q.0 = nat_less p.0 q.0 h.0 in omega (arith, le, lt)

  sooner : (n : ℕ) (ps : List (ℕ × V)) → StartsFrom (suc n) ps → StartsFrom n ps
  sooner n [] h = tt
  sooner n (p ∷ ps) h = omega (arith, h)

  key_first : (p : ℕ × V) (ps : List (ℕ × V)) (n : ℕ) → n ≡ p.0 → is_some (value_at nat_cmp n (p ∷ ps)) ≡ true
  key_first p ps n e = rw (nat_cmp-eq n p.0 e)

  key_later : (p : ℕ × V) (ps : List (ℕ × V)) (n : ℕ) → p.0 < n → is_some (value_at nat_cmp n (p ∷ ps)) ≡ is_some (value_at nat_cmp n ps)
  key_later p ps n lt = rw (nat_cmp-gt n p.0 lt)

  key_before : (p : ℕ × V) (ps : List (ℕ × V)) (n : ℕ) → n < p.0 → is_some (value_at nat_cmp n (p ∷ ps)) ≡ is_some (value_at nat_cmp n ps)
  key_before p ps n lt = rw (nat_cmp-lt n p.0 lt)

  -- no key before the first is there
  no_key : (ps : List (ℕ × V)) (n : ℕ) → IsAscending nat_cmp ps → StartsFrom (suc n) ps → is_some (value_at nat_cmp n ps) ≡ false
  no_key [] n h start = refl
  no_key (p ∷ ps) n h start =
      key_before p ps n (omega (arith, start)) ∙ no_key ps n h.1 (sooner (suc n) ps (starts_later (suc n) p ps start h.0))

  -- the keys are the numbers that pass a test which the marks tell, and which none passes from some number on
  keys_are : (test : SymId → Bool) (place k : ℕ) (ps : List (ℕ × V)) → IsAscending nat_cmp ps → StartsFrom place ps
      → ((s : SymId) → place ≤ s.0 → has_mark ps s ≡ test s) → ((s : SymId) → place + k ≤ s.0 → test s ≡ false)
      → map marked_symbol ps ≡ symbols_from test place k
  keys_are test place zero [] h start marks past = refl
  keys_are test place zero (p ∷ ps) h start marks past =
      let on : test (symbol_at p.0) ≡ true = sym (marks (symbol_at p.0) start) ∙ key_first p ps p.0 refl in
      let off : test (symbol_at p.0) ≡ false = past (symbol_at p.0) (omega (arith, start)) in
      absurd (cc)
  keys_are test place (suc k) [] h start marks past =
      keys_are test (suc place) k [] h tt (λ s le. marks s (omega (arith, le))) (λ s le. past s (omega (arith, le)))
      ∙ sym (chosen (test (symbol_at place)) false (symbol_at place) (symbols_from test (suc place) k) (sym (marks (symbol_at place) (omega arith))))
  keys_are test place (suc k) (p ∷ ps) h start marks past = elim (cases_eq place p.0) [
    | inl same ↦
        let on : test (symbol_at place) ≡ true = sym (marks (symbol_at place) (omega arith)) ∙ key_first p ps place same in
        let rest : map marked_symbol ps ≡ symbols_from test (suc place) k =
        keys_are test (suc place) k ps h.1 (starts_later place p ps start h.0)
        (λ s le. sym (key_later p ps s.0 (omega (arith, same, le))) ∙ marks s (omega (arith, le))) (λ s le. past s (omega (arith, le))) in
        (λ i. symbol_at (sym same i) ∷ rest i)
        ∙ sym (chosen (test (symbol_at place)) true (symbol_at place) (symbols_from test (suc place) k) on)
    | inr other ↦
        let later : suc place ≤ p.0 = omega (arith, start, other) in
        let off : test (symbol_at place) ≡ false = sym (marks (symbol_at place) (omega arith)) ∙ no_key (p ∷ ps) place h later in
        keys_are test (suc place) k (p ∷ ps) h later (λ s le. marks s (omega (arith, le))) (λ s le. past s (omega (arith, le)))
        ∙ sym (chosen (test (symbol_at place)) false (symbol_at place) (symbols_from test (suc place) k) off)
  ]

-- the symbols with a mark are the coupled ones, where a mark says that the symbol is coupled
pub marked_coupled : (c : Condition) (marks : List (ℕ × Unit {0})) → AllTyped c.widths c.entries → IsAscending nat_cmp marks
    → ((s : SymId) → has_mark marks s ≡ is_coupled c s) → map marked_symbol marks ≡ coupled_symbols c
marked_coupled c marks typed ascending are =
    keys_are (is_coupled c) 0 (length c.widths) marks ascending (from_zero marks) (λ s le. are s)
    (λ s past. couples_past c.widths s (omega (arith, past)) c.entries typed)
  where
    from_zero : (ps : List (ℕ × Unit {0})) → StartsFrom 0 ps
    from_zero [] = tt
    from_zero (p ∷ ps) = omega arith

-- their numbers are the same
pub marked_count : (c : Condition) (marks : List (ℕ × Unit {0})) (n : ℕ) → AllTyped c.widths c.entries → IsAscending nat_cmp marks
    → ((s : SymId) → has_mark marks s ≡ is_coupled c s) → n ≡ length marks → n ≡ coupled_count c
marked_count c marks n typed ascending are is =
    is ∙ sym (length-map marks marked_symbol) ∙ ap length (marked_coupled c marks typed ascending are)
