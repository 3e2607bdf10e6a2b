-- Maps from numbers.
use Rattle.std.proofs.Common.{◌≡◌, ℕ, ◌<◌, ◌≤◌, true, false, cond, List, [], ◌∷◌, ◌++◌, Some, refl, sym, ap, ap₂, ◌∙◌, arith, nat_eq, inl, inr}
use Rattle.std.specs.Prelude.{unwrap_or}
use Rattle.std.specs.Option.{option_map}
use Rattle.std.specs.Ordering.{nat_cmp, is_eq}
use Rattle.std.proofs.lemmas.Bool.{cases_lt, cases_eq, cond-true, cond-false, eq-eqb, ne_eqb, lt-ltb, le-ltb}
use Rattle.std.proofs.lemmas.List.{append-nil}
use Rattle.std.specs.declared.cmp.Ordering.TheVariants.{Less, Equal, Greater}
use Rattle.sn_tree.specs.Ends.{first}
use Rattle.sn_tree.specs.Pairs.{pairs_before, pairs_at, pairs_after, value_at, pairs_with}
use Rattle.sn_width.specs.declared.ids.SymId.{SymId}
use Rattle.path_cond.specs.Conditions.{picks_at}

pub nat_cmp-lt : (x y : ℕ) → x < y → nat_cmp x y ≡ Less
nat_cmp-lt x y h = rw (lt-ltb x y h)

pub nat_cmp-eq : (x y : ℕ) → x ≡ y → nat_cmp x y ≡ Equal
nat_cmp-eq x y h = rw (le-ltb x y (omega arith), eq-eqb x y h)

pub nat_cmp-gt : (x y : ℕ) → y < x → nat_cmp x y ≡ Greater
nat_cmp-gt x y h = rw (le-ltb x y (omega arith), ne_eqb x y (λ e. omega arith))

-- the pairs at one key, among those before or after another
module _ {V : Type 0} where
  at_before : (ps : List (ℕ × V)) (s k : ℕ) → k ≤ s → pairs_at nat_cmp s (pairs_before nat_cmp k ps) ≡ []
  at_before [] s k le = refl
  at_before (p ∷ ps) s k le = elim (cases_lt p.0 k) [
    | inl lt ↦
        rw (nat_cmp-gt k p.0 lt, nat_cmp-gt s p.0 (omega arith)) (at_before ps s k le)
    | inr ge ↦ elim (cases_eq k p.0) [
      | inl same ↦ rw (nat_cmp-eq k p.0 same) (at_before ps s k le)
      | inr other ↦ let lt : k < p.0 = omega arith in rw (nat_cmp-lt k p.0 lt) (at_before ps s k le)
    ]
  ]

  at_after : (ps : List (ℕ × V)) (s k : ℕ) → s ≤ k → pairs_at nat_cmp s (pairs_after nat_cmp k ps) ≡ []
  at_after [] s k le = refl
  at_after (p ∷ ps) s k le = elim (cases_lt k p.0) [
    | inl lt ↦
        rw (nat_cmp-lt k p.0 lt, nat_cmp-lt s p.0 (omega arith)) (at_after ps s k le)
    | inr ge ↦ elim (cases_eq k p.0) [
      | inl same ↦ rw (nat_cmp-eq k p.0 same) (at_after ps s k le)
      | inr other ↦ let lt : p.0 < k = omega arith in rw (nat_cmp-gt k p.0 lt) (at_after ps s k le)
    ]
  ]

  still_before : (ps : List (ℕ × V)) (s k : ℕ) → s < k → pairs_at nat_cmp s (pairs_before nat_cmp k ps) ≡ pairs_at nat_cmp s ps
  still_before [] s k lt = refl
  still_before (p ∷ ps) s k lt = elim (cases_lt p.0 k) [
    | inl below ↦ rw (nat_cmp-gt k p.0 below) (ap (λ qs. cond (is_eq (nat_cmp s p.0)) (p ∷ qs) qs) (still_before ps s k lt))
    | inr ge ↦
        let skips : pairs_before nat_cmp k (p ∷ ps) ≡ pairs_before nat_cmp k ps = elim (cases_eq k p.0) [
          | inl same ↦ rw (nat_cmp-eq k p.0 same)
          | inr other ↦ let above : k < p.0 = omega arith in rw (nat_cmp-lt k p.0 above)
        ] in
        ap (pairs_at nat_cmp s) skips ∙ still_before ps s k lt ∙ rw (nat_cmp-lt s p.0 (omega arith))
  ]

  still_after : (ps : List (ℕ × V)) (s k : ℕ) → k < s → pairs_at nat_cmp s (pairs_after nat_cmp k ps) ≡ pairs_at nat_cmp s ps
  still_after [] s k lt = refl
  still_after (p ∷ ps) s k lt = elim (cases_lt k p.0) [
    | inl above ↦ rw (nat_cmp-lt k p.0 above) (ap (λ qs. cond (is_eq (nat_cmp s p.0)) (p ∷ qs) qs) (still_after ps s k lt))
    | inr ge ↦
        let skips : pairs_after nat_cmp k (p ∷ ps) ≡ pairs_after nat_cmp k ps = elim (cases_eq k p.0) [
          | inl same ↦ rw (nat_cmp-eq k p.0 same)
          | inr other ↦ let below : p.0 < k = omega arith in rw (nat_cmp-gt k p.0 below)
        ] in
        ap (pairs_at nat_cmp s) skips ∙ still_after ps s k lt ∙ rw (nat_cmp-gt s p.0 (omega arith))
  ]

  pairs_at-append : (ps qs : List (ℕ × V)) (s : ℕ) → pairs_at nat_cmp s (ps ++ qs) ≡ pairs_at nat_cmp s ps ++ pairs_at nat_cmp s qs
  pairs_at-append [] qs s = refl
  pairs_at-append (p ∷ ps) qs s = elim (is_eq (nat_cmp s p.0)) as (λ b. cond b (p ∷ pairs_at nat_cmp s (ps ++ qs)) (pairs_at nat_cmp s (ps ++ qs)) ≡ cond b (p ∷ pairs_at nat_cmp s ps) (pairs_at nat_cmp s ps) ++ pairs_at nat_cmp s qs) [
    | true ↦ ap (λ rs. p ∷ rs) (pairs_at-append ps qs s)
    | false ↦ pairs_at-append ps qs s
  ]

  -- what stands at another key stays
  pub value_at-with_other : (ps : List (ℕ × V)) (s k : ℕ) (v : V) → (k ≡ s → ⊥) → value_at nat_cmp s (pairs_with nat_cmp k v ps) ≡ value_at nat_cmp s ps
  value_at-with_other ps s k v other =
      let parts = pairs_at-append (pairs_before nat_cmp k ps) ((k, v) ∷ pairs_after nat_cmp k ps) s in
      ap (λ qs. option_map (λ (p : ℕ × V). p.1) (first qs))
      (elim (cases_lt s k) [
        | inl lt ↦ parts ∙ ap₂ ◌++◌ (still_before ps s k lt) (rw (nat_cmp-lt s k lt) (at_after ps s k (omega arith))) ∙ append-nil (pairs_at nat_cmp s ps)
        | inr ge ↦ let above : k < s = omega arith in parts ∙ ap₂ ◌++◌ (at_before ps s k ge) (rw (nat_cmp-gt s k above) (still_after ps s k above))
      ])

  -- what was put at a key stands there
  pub value_at-with_same : (ps : List (ℕ × V)) (k : ℕ) (v : V) → value_at nat_cmp k (pairs_with nat_cmp k v ps) ≡ Some v
  value_at-with_same ps k v =
      let e : k ≤ k = omega arith in
      let at : pairs_at nat_cmp k ((k, v) ∷ pairs_after nat_cmp k ps) ≡ (k, v) ∷ pairs_at nat_cmp k (pairs_after nat_cmp k ps) = rw (nat_cmp-eq k k refl) in
      ap (λ qs. option_map (λ (p : ℕ × V). p.1) (first qs))
      (pairs_at-append (pairs_before nat_cmp k ps) ((k, v) ∷ pairs_after nat_cmp k ps) k ∙ ap₂ ◌++◌ (at_before ps k k e) at)

-- the picks at a symbol, after one more was put on top of those of a symbol
pub picks_at-pushed : (s : SymId) (simple tree : List (ℕ × List ℕ)) (key pick : ℕ) (picks : List ℕ) → tree ≡ pairs_with nat_cmp key picks simple → picks ≡ pick ∷ picks_at (record { 0 = key }) simple
    → picks_at s tree ≡ cond (nat_eq key s.0) (pick ∷ picks_at s simple) (picks_at s simple)
picks_at-pushed s simple tree key pick picks put is = elim (cases_eq key s.0) [
  | inl same ↦
      let found : value_at nat_cmp s.0 tree ≡ Some picks = ap (value_at nat_cmp s.0) put ∙ ap (λ k. value_at nat_cmp k (pairs_with nat_cmp key picks simple)) (sym same) ∙ value_at-with_same simple key picks in
      ap (λ o. unwrap_or o []) found ∙ is ∙ ap (λ k. pick ∷ unwrap_or (value_at nat_cmp k simple) []) same
      ∙ sym (cond-true (nat_eq key s.0) (pick ∷ picks_at s simple) (picks_at s simple) (eq-eqb key s.0 same))
  | inr other ↦
      ap (λ o. unwrap_or o []) (ap (value_at nat_cmp s.0) put ∙ value_at-with_other simple s.0 key picks other)
      ∙ sym (cond-false (nat_eq key s.0) (pick ∷ picks_at s simple) (picks_at s simple) (ne_eqb key s.0 other))
]
