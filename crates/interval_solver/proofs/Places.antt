-- Maps from places.
use Rattle.std.proofs.Common.{◌≡◌, ℕ, zero, suc, ◌+◌, ◌<◌, List, [], ◌∷◌, ◌++◌, length, refl, sym, ap, ap₂, ◌∙◌, subst, arith}
use Rattle.std.specs.Prelude.{slice_get}
use Rattle.std.specs.Ordering.{nat_cmp}
use Rattle.std.proofs.Math.ListN.{set}
use Rattle.std.proofs.lemmas.Bool.{eq-eqb, ne_eqb, lt-ltb, le-ltb}
use Rattle.std.specs.declared.cmp.Ordering.TheVariants.{Less, Equal, Greater}
use Rattle.sn_tree.specs.Pairs.{pairs_before, pairs_after, value_at, pairs_with}
use Rattle.interval_solver.specs.Numbered.{CountsFrom, IsNumbered, values_of}

nat_cmp-lt : (x y : ℕ) → x < y → nat_cmp x y ≡ Less
nat_cmp-lt x y h = rw (lt-ltb x y h)

nat_cmp-eq : (x y : ℕ) → x ≡ y → nat_cmp x y ≡ Equal
nat_cmp-eq x y h = rw (le-ltb x y (omega arith), eq-eqb x y h)

nat_cmp-gt : (x y : ℕ) → y < x → nat_cmp x y ≡ Greater
nat_cmp-gt x y h = rw (le-ltb x y (omega arith), ne_eqb x y (λ e. omega arith))

module _ {V : Type 0} where
  -- what stands at a place
  value_at-from : (ps : List (ℕ × V)) (n i : ℕ) → CountsFrom n ps → value_at nat_cmp (n + i) ps ≡ slice_get (values_of ps) i
  value_at-from [] n i h = refl
  value_at-from (p ∷ ps) n zero h = rw (nat_cmp-eq (n + 0) p.0 (omega arith))
  value_at-from (p ∷ ps) n (suc i) h =
      let next : n + suc i ≡ suc n + i = omega arith in
      let later : value_at nat_cmp (n + suc i) (p ∷ ps) ≡ value_at nat_cmp (n + suc i) ps = rw (nat_cmp-gt (n + suc i) p.0 (omega arith)) in
      later ∙ ap (λ k. value_at nat_cmp k ps) next ∙ value_at-from ps (suc n) i h.1

  pub value_at_place : (ps : List (ℕ × V)) (n i : ℕ) → IsNumbered ps n → value_at nat_cmp i ps ≡ slice_get (values_of ps) i
  value_at_place ps n i h =
      let same : i ≡ 0 + i = omega arith in
      ap (λ k. value_at nat_cmp k ps) same ∙ value_at-from ps 0 i h.counts

  -- before a place below all others stand no pairs, and after it all
  before_all : (ps : List (ℕ × V)) (n k : ℕ) → CountsFrom n ps → k < n → pairs_before nat_cmp k ps ≡ []
  before_all [] n k h lt = refl
  before_all (p ∷ ps) n k h lt = rw (nat_cmp-lt k p.0 (omega arith)) (before_all ps (suc n) k h.1 (omega arith))

  after_all : (ps : List (ℕ × V)) (n k : ℕ) → CountsFrom n ps → k < n → pairs_after nat_cmp k ps ≡ ps
  after_all [] n k h lt = refl
  after_all (p ∷ ps) n k h lt = rw (nat_cmp-lt k p.0 (omega arith)) (ap (λ qs. p ∷ qs) (after_all ps (suc n) k h.1 (omega arith)))

  -- a pair put at the first place, and at a later one
  with_here : (p : ℕ × V) (ps : List (ℕ × V)) (n k : ℕ) (v : V) → CountsFrom n (p ∷ ps) → k ≡ n → pairs_with nat_cmp k v (p ∷ ps) ≡ (k, v) ∷ ps
  with_here p ps n k v h e =
      rw (nat_cmp-eq k p.0 (omega arith))
      (ap₂ (λ qs rs. qs ++ (k, v) ∷ rs) (before_all ps (suc n) k h.1 (omega arith)) (after_all ps (suc n) k h.1 (omega arith)))

  with_later : (p : ℕ × V) (ps : List (ℕ × V)) (n k : ℕ) (v : V) → CountsFrom n (p ∷ ps) → n < k → pairs_with nat_cmp k v (p ∷ ps) ≡ p ∷ pairs_with nat_cmp k v ps
  with_later p ps n k v h lt = rw (nat_cmp-gt k p.0 (omega arith))

  -- the pairs with one more at their end
  more_from : (ps : List (ℕ × V)) (n k : ℕ) (v : V) → CountsFrom n ps → k ≡ n + length ps → pairs_with nat_cmp k v ps ≡ ps ++ (k, v) ∷ []
  more_from [] n k v h e = refl
  more_from (p ∷ ps) n k v h e = with_later p ps n k v h (omega arith) ∙ ap (λ qs. p ∷ qs) (more_from ps (suc n) k v h.1 (omega arith))

  counts_more : (ps : List (ℕ × V)) (n k : ℕ) (v : V) → CountsFrom n ps → k ≡ n + length ps → CountsFrom n (ps ++ (k, v) ∷ [])
  counts_more [] n k v h e = (omega arith, tt)
  counts_more (p ∷ ps) n k v h e = (h.0, counts_more ps (suc n) k v h.1 (omega arith))

  length_more : (ps : List (ℕ × V)) (p : ℕ × V) → length (ps ++ p ∷ []) ≡ length ps + 1
  length_more [] p = refl
  length_more (q ∷ ps) p = ap suc (length_more ps p) ∙ omega arith

  values_more : (ps : List (ℕ × V)) (p : ℕ × V) → values_of (ps ++ p ∷ []) ≡ values_of ps ++ p.1 ∷ []
  values_more [] p = refl
  values_more (q ∷ ps) p = ap (λ vs. q.1 ∷ vs) (values_more ps p)

  pub is_numbered_more : (ps qs : List (ℕ × V)) (n m : ℕ) (v : V) → IsNumbered ps n → m ≡ n + 1 → qs ≡ pairs_with nat_cmp n v ps → IsNumbered qs m
  is_numbered_more ps qs n m v h e is =
      let all = h.all in
      let whole : qs ≡ ps ++ (n, v) ∷ [] = is ∙ more_from ps 0 n v h.counts (omega arith) in
      record {
        counts = subst (CountsFrom 0) (sym whole) (counts_more ps 0 n v h.counts (omega arith));
        all = ap length whole ∙ length_more ps (n, v) ∙ omega arith;
      }

  pub values_of_more : (ps qs : List (ℕ × V)) (n : ℕ) (v : V) → IsNumbered ps n → qs ≡ pairs_with nat_cmp n v ps → values_of qs ≡ values_of ps ++ v ∷ []
  values_of_more ps qs n v h is =
      let all = h.all in
      ap values_of (is ∙ more_from ps 0 n v h.counts (omega arith)) ∙ values_more ps (n, v)

  -- the pairs with another value at a place
  counts_with : (ps : List (ℕ × V)) (n i : ℕ) (v : V) → CountsFrom n ps → i < length ps → CountsFrom n (pairs_with nat_cmp (n + i) v ps)
  counts_with [] n i v h lt = absurd (omega arith)
  counts_with (p ∷ ps) n zero v h lt =
      let here : n + 0 ≡ n = omega arith in
      subst (CountsFrom n) (sym (with_here p ps n (n + 0) v h here)) (here, h.1)
  counts_with (p ∷ ps) n (suc i) v h lt =
      let next : suc n + i ≡ n + suc i = omega arith in
      subst (CountsFrom n) (sym (with_later p ps n (n + suc i) v h (omega arith)))
      (h.0, subst (λ k. CountsFrom (suc n) (pairs_with nat_cmp k v ps)) next (counts_with ps (suc n) i v h.1 (omega arith)))

  length_with : (ps : List (ℕ × V)) (n i : ℕ) (v : V) → CountsFrom n ps → i < length ps → length (pairs_with nat_cmp (n + i) v ps) ≡ length ps
  length_with [] n i v h lt = absurd (omega arith)
  length_with (p ∷ ps) n zero v h lt = ap length (with_here p ps n (n + 0) v h (omega arith))
  length_with (p ∷ ps) n (suc i) v h lt =
      let next : n + suc i ≡ suc n + i = omega arith in
      ap length (with_later p ps n (n + suc i) v h (omega arith)) ∙ ap (λ k. suc (length (pairs_with nat_cmp k v ps))) next ∙ ap suc (length_with ps (suc n) i v h.1 (omega arith))

  values_with : (ps : List (ℕ × V)) (n i : ℕ) (v : V) → CountsFrom n ps → i < length ps → values_of (pairs_with nat_cmp (n + i) v ps) ≡ set (values_of ps) i v
  values_with [] n i v h lt = absurd (omega arith)
  values_with (p ∷ ps) n zero v h lt = ap values_of (with_here p ps n (n + 0) v h (omega arith))
  values_with (p ∷ ps) n (suc i) v h lt =
      let next : n + suc i ≡ suc n + i = omega arith in
      ap values_of (with_later p ps n (n + suc i) v h (omega arith)) ∙ ap (λ k. p.1 ∷ values_of (pairs_with nat_cmp k v ps)) next ∙ ap (λ vs. p.1 ∷ vs) (values_with ps (suc n) i v h.1 (omega arith))

  length_values : (ps : List (ℕ × V)) → length (values_of ps) ≡ length ps
  length_values [] = refl
  length_values (p ∷ ps) = ap suc (length_values ps)

  pub is_numbered_with : (ps qs : List (ℕ × V)) (n i : ℕ) (v : V) → IsNumbered ps n → i < length (values_of ps) → qs ≡ pairs_with nat_cmp i v ps → IsNumbered qs n
  is_numbered_with ps qs n i v h lt is =
      let within : i < length ps = omega (arith, length_values ps) in
      let same : 0 + i ≡ i = omega arith in
      record {
        counts = subst (CountsFrom 0) (sym is) (subst (λ k. CountsFrom 0 (pairs_with nat_cmp k v ps)) same (counts_with ps 0 i v h.counts within));
        all = ap length is ∙ ap (λ k. length (pairs_with nat_cmp k v ps)) (sym same) ∙ length_with ps 0 i v h.counts within ∙ h.all;
      }

  pub values_of_with : (ps qs : List (ℕ × V)) (n i : ℕ) (v : V) → IsNumbered ps n → i < length (values_of ps) → qs ≡ pairs_with nat_cmp i v ps → values_of qs ≡ set (values_of ps) i v
  values_of_with ps qs n i v h lt is =
      let within : i < length ps = omega (arith, length_values ps) in
      let same : i ≡ 0 + i = omega arith in
      ap values_of is ∙ ap (λ k. values_of (pairs_with nat_cmp k v ps)) same ∙ values_with ps 0 i v h.counts within
