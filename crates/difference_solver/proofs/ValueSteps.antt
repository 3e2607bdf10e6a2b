-- The numbers of the unknowns, found one after another from a table that is closed.
use Rattle.std.proofs.Common.{◌≡◌, ℕ, ◌+◌, ◌*◌, ◌^◌, ◌≤◌, ◌<◌, ℤ, pos, ◌+ℤ◌, ◌-ℤ◌, ◌≤ℤ◌, ◌⊎◌, inl, inr, List, [], ◌∷◌, ◌++◌, length, length-append, Option, Some, None, refl, ap, sym, subst, ◌∙◌, arith}
use Rattle.std.specs.Prelude.{unwrap_or}
use Rattle.std.specs.Int.{int_max, int_min, w128}
use mir.Val.{to_z, of_z}
use Rattle.std.proofs.lemmas.Bool.{cases_lt}
use Rattle.std.proofs.lemmas.Int.{ints, clamps}
use Rattle.std.proofs.lemmas.List.{get_or_append_left, get_or_push}
use Rattle.difference_solver.specs.Bound.{number}
use Rattle.difference_solver.specs.Table.{entry}
use Rattle.difference_solver.specs.Elimination.{IsWithin, HasLimit, IsClosed}
use Rattle.difference_solver.specs.Values.{larger_of, smaller_of, AreWithin, AreValues, IsReached, IsLowest, IsHighest, IsLowestOf, IsHighestOf, IsNext}
use Rattle.difference_solver.specs.declared.table.Table.{Table}
use Rattle.difference_solver.specs.declared.table.Kept.{Kept}
use Rattle.difference_solver.proofs.Steps.{one_or_two, AtMost-some}

int_max_cases : (y z : ℤ) → (y ≤ℤ int_max y z) × (z ≤ℤ int_max y z) × ((int_max y z ≡ y) ⊎ (int_max y z ≡ z))
int_max_cases y z = (omega (arith, ints, clamps), omega (arith, ints, clamps), grind (arith, ints))

int_min_cases : (y z : ℤ) → (int_min y z ≤ℤ y) × (int_min y z ≤ℤ z) × ((int_min y z ≡ y) ⊎ (int_min y z ≡ z))
int_min_cases y z = (omega (arith, ints, clamps), omega (arith, ints, clamps), grind (arith, ints))

-- what is read twice is one
one_kept : (o : Option Kept) (x y : Kept) → o ≡ Some x → o ≡ Some y → x ≡ y
one_kept o x y p q = let e : Some x ≡ Some y = sym p ∙ q in cc

no_kept : (o : Option Kept) (x : Kept) {P : Type 0} → o ≡ None → o ≡ Some x → P
no_kept o x p q = let e : None ≡ Some x = sym p ∙ q in cc

pub lowest_skip : (t : Table) (v : List ℤ) (u n : ℕ) (o : Option ℤ) → entry t n u ≡ None → IsLowestOf t v u n o → IsLowestOf t v u (n + 1) o
lowest_skip t v u n None none h = λ m lt.
    elim (cases_lt m n) [
      | inl low ↦ h m low
      | inr high ↦ let e : n ≡ m = omega arith in subst (λ (m : ℕ). entry t m u ≡ None) e none
    ]
lowest_skip t v u n (Some z) none h = record {
  met = λ m x lt at.
      elim (cases_lt m n) [
        | inl low ↦ h.met m x low at
        | inr high ↦ let e : n ≡ m = omega arith in no_kept (entry t m u) x (subst (λ (m : ℕ). entry t m u ≡ None) e none) at
      ];
  reached = record { unknown = h.reached.unknown; kept = h.reached.kept; below = omega (arith, h.reached.below); at = h.reached.at; is = h.reached.is };
}

pub lowest_more : (t : Table) (v : List ℤ) (u n : ℕ) (o : Option ℤ) (b : Kept) → entry t n u ≡ Some b → IsLowestOf t v u n o → IsLowestOf t v u (n + 1) (Some (larger_of o (number v n -ℤ b.at_most)))
lowest_more t v u n None b at_n h = record {
  met = λ m x lt at.
      elim (cases_lt m n) [
        | inl low ↦ no_kept (entry t m u) x (h m low) at
        | inr high ↦
            let e : m ≡ n = omega arith in
            let same : x ≡ b = one_kept (entry t n u) x b (subst (λ (m : ℕ). entry t m u ≡ Some x) e at) at_n in
            subst (λ (m : ℕ). number v m ≤ℤ ((number v n -ℤ b.at_most) +ℤ x.at_most)) (sym e)
            (subst (λ (x : Kept). number v n ≤ℤ ((number v n -ℤ b.at_most) +ℤ x.at_most)) (sym same) (omega (arith, ints)))
      ];
  reached = record { unknown = n; kept = b; below = omega arith; at = at_n; is = omega (arith, ints) };
}
lowest_more t v u n (Some y) b at_n h =
    let z = number v n -ℤ b.at_most in
    let larger = int_max_cases y z in
    record {
      met = λ m x lt at.
          elim (cases_lt m n) [
            | inl low ↦ let old = h.met m x low at in omega (arith, ints, old, larger.0)
            | inr high ↦
                let e : m ≡ n = omega arith in
                let same : x ≡ b = one_kept (entry t n u) x b (subst (λ (m : ℕ). entry t m u ≡ Some x) e at) at_n in
                subst (λ (m : ℕ). number v m ≤ℤ (int_max y z +ℤ x.at_most)) (sym e)
                (subst (λ (x : Kept). number v n ≤ℤ (int_max y z +ℤ x.at_most)) (sym same) (omega (arith, ints, larger.1)))
          ];
      reached =
          elim larger.2 [
            | inl is ↦ record { unknown = h.reached.unknown; kept = h.reached.kept; below = omega (arith, h.reached.below); at = h.reached.at; is = h.reached.is ∙ ap (λ (s : ℤ). s +ℤ h.reached.kept.at_most) (sym is) }
            | inr is ↦ record { unknown = n; kept = b; below = omega arith; at = at_n; is = let e : number v n ≡ z +ℤ b.at_most = omega (arith, ints) in e ∙ ap (λ (s : ℤ). s +ℤ b.at_most) (sym is) }
          ];
    }

pub highest_skip : (t : Table) (v : List ℤ) (u n : ℕ) (o : Option ℤ) → entry t u n ≡ None → IsHighestOf t v u n o → IsHighestOf t v u (n + 1) o
highest_skip t v u n None none h = λ m lt.
    elim (cases_lt m n) [
      | inl low ↦ h m low
      | inr high ↦ let e : n ≡ m = omega arith in subst (λ (m : ℕ). entry t u m ≡ None) e none
    ]
highest_skip t v u n (Some z) none h = record {
  met = λ m x lt at.
      elim (cases_lt m n) [
        | inl low ↦ h.met m x low at
        | inr high ↦ let e : n ≡ m = omega arith in no_kept (entry t u m) x (subst (λ (m : ℕ). entry t u m ≡ None) e none) at
      ];
  unknown = h.unknown;
  kept = h.kept;
  below = omega (arith, h.below);
  at = h.at;
  is = h.is;
}

pub highest_more : (t : Table) (v : List ℤ) (u n : ℕ) (o : Option ℤ) (b : Kept) → entry t u n ≡ Some b → IsHighestOf t v u n o → IsHighestOf t v u (n + 1) (Some (smaller_of o (number v n +ℤ b.at_most)))
highest_more t v u n None b at_n h = record {
  met = λ m x lt at.
      elim (cases_lt m n) [
        | inl low ↦ no_kept (entry t u m) x (h m low) at
        | inr high ↦
            let e : m ≡ n = omega arith in
            let same : x ≡ b = one_kept (entry t u n) x b (subst (λ (m : ℕ). entry t u m ≡ Some x) e at) at_n in
            subst (λ (m : ℕ). (number v n +ℤ b.at_most) ≤ℤ (number v m +ℤ x.at_most)) (sym e)
            (subst (λ (x : Kept). (number v n +ℤ b.at_most) ≤ℤ (number v n +ℤ x.at_most)) (sym same) (omega (arith, ints)))
      ];
  unknown = n;
  kept = b;
  below = omega arith;
  at = at_n;
  is = refl;
}
highest_more t v u n (Some y) b at_n h =
    let z = number v n +ℤ b.at_most in
    let smaller = int_min_cases y z in
    elim smaller.2 [
      | inl is ↦ record {
        met = λ m x lt at.
            elim (cases_lt m n) [
              | inl low ↦ let old = h.met m x low at in omega (arith, ints, old, smaller.0)
              | inr high ↦ at_last t v u n y b at_n m x (omega arith) at
            ];
        unknown = h.unknown;
        kept = h.kept;
        below = omega (arith, h.below);
        at = h.at;
        is = is ∙ h.is;
      }
      | inr is ↦ record {
        met = λ m x lt at.
            elim (cases_lt m n) [
              | inl low ↦ let old = h.met m x low at in omega (arith, ints, old, smaller.0)
              | inr high ↦ at_last t v u n y b at_n m x (omega arith) at
            ];
        unknown = n;
        kept = b;
        below = omega arith;
        at = at_n;
        is = is;
      }
    ]
  where
    at_last : (t : Table) (v : List ℤ) (u n : ℕ) (y : ℤ) (b : Kept) → entry t u n ≡ Some b → (m : ℕ) (x : Kept) → m ≡ n → entry t u m ≡ Some x → int_min y (number v n +ℤ b.at_most) ≤ℤ (number v m +ℤ x.at_most)
    at_last t v u n y b at_n m x e at =
        let z = number v n +ℤ b.at_most in
        let same : x ≡ b = one_kept (entry t u n) x b (subst (λ (m : ℕ). entry t u m ≡ Some x) e at) at_n in
        subst (λ (m : ℕ). int_min y z ≤ℤ (number v m +ℤ x.at_most)) (sym e)
        (subst (λ (x : Kept). int_min y z ≤ℤ (number v n +ℤ x.at_most)) (sym same) ((int_min_cases y z).1))

pub next_lowest : (t : Table) (v : List ℤ) (u : ℕ) (z : ℤ) → u ≤ t.count → length v ≡ u → HasLimit (65 * 2 ^ 66) t → IsClosed 0 t → AreValues t v → IsLowest t v u u z → IsNext t v u z
next_lowest t v u z within len limit closed values low =
    let r = low.reached in
    record {
      first = λ e. absurd (omega (arith, r.below));
      lower = low.met;
      upper = λ m x lt at.
          let joint = closed u r.unknown m r.kept x (omega (arith, r.below)) within r.below lt r.at at in
          elim (one_or_two r.unknown m) [
            | inl e ↦
                let sum = joint.self e in
                let is : number v m ≡ z +ℤ r.kept.at_most = subst (λ (j : ℕ). number v j ≡ z +ℤ r.kept.at_most) e r.is in
                omega (arith, ints, is, sum)
            | inr ne ↦
                let (y, y_at, le) = AtMost-some (entry t r.unknown m) (r.kept.at_most +ℤ x.at_most) (joint.apart ne) in
                let met = values.met r.unknown m y (omega (arith, r.below)) (omega arith) ne y_at in
                omega (arith, ints, r.is, le, met)
          ];
      reached = λ m x lt at. r;
      within =
          let w = values.within r.unknown (omega (arith, r.below)) in
          let l = limit r.unknown u r.kept r.at in
          (omega (arith, ints, r.is, r.below, w.0, w.1, l.0, l.1), omega (arith, ints, r.is, r.below, w.0, w.1, l.0, l.1));
    }

pub next_highest : (t : Table) (v : List ℤ) (u : ℕ) (z : ℤ) → length v ≡ u → HasLimit (65 * 2 ^ 66) t → AreValues t v → IsLowestOf t v u u None → IsHighest t v u u z → IsNext t v u z
next_highest t v u z len limit values none high = record {
  first = λ e. absurd (omega (arith, high.below));
  lower = λ m x lt at. no_kept (entry t m u) x (none m lt) at;
  upper = high.met;
  reached = λ m x lt at. no_kept (entry t m u) x (none m lt) at;
  within =
      let w = values.within high.unknown (omega (arith, high.below)) in
      let l = limit u high.unknown high.kept high.at in
      (omega (arith, ints, high.is, high.below, w.0, w.1, l.0, l.1), omega (arith, ints, high.is, high.below, w.0, w.1, l.0, l.1));
}

pub next_free : (t : Table) (v : List ℤ) (u : ℕ) → IsLowestOf t v u u None → IsHighestOf t v u u None → IsNext t v u (pos 0)
next_free t v u none none' = record {
  first = λ e. refl;
  lower = λ m x lt at. no_kept (entry t m u) x (none m lt) at;
  upper = λ m x lt at. no_kept (entry t u m) x (none' m lt) at;
  reached = λ m x lt at. no_kept (entry t m u) x (none m lt) at;
  within = (omega (arith, ints), omega (arith, ints));
}

-- the highest number, or 0 where there is none
pub next_otherwise : (t : Table) (v : List ℤ) (u : ℕ) (o : Option ℤ) → length v ≡ u → HasLimit (65 * 2 ^ 66) t → AreValues t v → IsLowestOf t v u u None → IsHighestOf t v u u o → IsNext t v u (unwrap_or o (pos 0))
next_otherwise t v u None len limit values none high = next_free t v u none high
next_otherwise t v u (Some z) len limit values none high = next_highest t v u z len limit values none high

-- the same in another list with the same numbers below u
reached_in : (t : Table) (v w : List ℤ) (u : ℕ) (y z : ℤ) → ((m : ℕ) → m < u → number w m ≡ number v m) → y ≡ z → IsReached t v u u z → IsReached t w u u y
reached_in t v w u y z old e r = record {
  unknown = r.unknown;
  kept = r.kept;
  below = r.below;
  at = r.at;
  is = old r.unknown r.below ∙ r.is ∙ ap (λ (n : ℤ). n +ℤ r.kept.at_most) (sym e);
}

-- the numbers with one more
pub values_more : (t : Table) (v : List ℤ) (u : ℕ) (z : ℤ) → length v ≡ u → AreValues t v → IsNext t v u z → AreValues t (v ++ z ∷ [])
values_more t v u z len values next =
    let old : (m : ℕ) → m < length v → number (v ++ z ∷ []) m ≡ number v m = λ m lt. get_or_append_left v (z ∷ []) (pos 0) m lt in
    let new : number (v ++ z ∷ []) u ≡ z = get_or_push v z (pos 0) u len in
    let size : length (v ++ z ∷ []) ≡ u + 1 = omega (arith, length-append v (z ∷ [])) in
    record {
      first = λ some.
          elim (cases_lt 0 u) [
            | inl pos_u ↦ old 0 (omega arith) ∙ values.first (omega arith)
            | inr none ↦ let e : u ≡ 0 = omega arith in subst (λ (m : ℕ). number (v ++ z ∷ []) m ≡ z) e new ∙ next.first e
          ];
      met = λ i j x p q ne at.
          elim (cases_lt i u) [
            | inl low_i ↦
                elim (cases_lt j u) [
                  | inl low_j ↦
                      let h = values.met i j x (omega arith) (omega arith) ne at in
                      omega (arith, ints, old i (omega arith), old j (omega arith), h)
                  | inr high_j ↦
                      let e : j ≡ u = omega arith in
                      let h = next.lower i x low_i (subst (λ (j : ℕ). entry t i j ≡ Some x) e at) in
                      let new_j : number (v ++ z ∷ []) j ≡ z = subst (λ (j : ℕ). number (v ++ z ∷ []) j ≡ z) (sym e) new in
                      omega (arith, ints, old i (omega arith), new_j, h)
                ]
            | inr high_i ↦
                let e : i ≡ u = omega arith in
                let new_i : number (v ++ z ∷ []) i ≡ z = subst (λ (i : ℕ). number (v ++ z ∷ []) i ≡ z) (sym e) new in
                elim (cases_lt j u) [
                  | inl low_j ↦
                      let h = next.upper j x low_j (subst (λ (i : ℕ). entry t i j ≡ Some x) e at) in
                      omega (arith, ints, old j (omega arith), new_i, h)
                  | inr high_j ↦ absurd (ne (omega arith))
                ]
          ];
      reached = λ w m x p q at.
          elim (cases_lt w u) [
            | inl low ↦
                reached_in t v (v ++ z ∷ []) w (number (v ++ z ∷ []) w) (number v w) (λ m lt. old m (omega arith)) (old w (omega arith)) (values.reached w m x (omega arith) q at)
            | inr high ↦
                let e : w ≡ u = omega arith in
                let r = next.reached m x (omega arith) (subst (λ (w : ℕ). entry t m w ≡ Some x) e at) in
                subst (λ (w : ℕ). IsReached t (v ++ z ∷ []) w w (number (v ++ z ∷ []) w)) (sym e)
                (reached_in t v (v ++ z ∷ []) u (number (v ++ z ∷ []) u) z (λ m lt. old m (omega arith)) new r)
          ];
      within = λ m lt.
          elim (cases_lt m u) [
            | inl low ↦ let h = values.within m (omega arith) in (omega (arith, ints, old m (omega arith), h.0), omega (arith, ints, old m (omega arith), h.1))
            | inr high ↦
                let e : u ≡ m = omega arith in
                subst (λ (m : ℕ). IsWithin (m * 2 ^ 80) (number (v ++ z ∷ []) m)) e
                (subst (λ (n : ℤ). IsWithin (u * 2 ^ 80) n) (sym new) next.within)
          ];
    }

-- what the code computes is what it says
pub value_sub : (v : List ℤ) (m : ℕ) (x : ℤ) → m < length v → length v ≤ 64 → AreWithin v → IsWithin (65 * 2 ^ 66) x → to_z w128 (of_z w128 (to_z w128 (of_z w128 (number v m)) -ℤ to_z w128 (of_z w128 x))) ≡ number v m -ℤ x
value_sub v m x lt few within l =
    let w = within m lt in
    omega (arith, ints, w.0, w.1, l.0, l.1)

pub value_add : (v : List ℤ) (m : ℕ) (x : ℤ) → m < length v → length v ≤ 64 → AreWithin v → IsWithin (65 * 2 ^ 66) x → to_z w128 (of_z w128 (to_z w128 (of_z w128 (number v m)) +ℤ to_z w128 (of_z w128 x))) ≡ number v m +ℤ x
value_add v m x lt few within l =
    let w = within m lt in
    omega (arith, ints, w.0, w.1, l.0, l.1)
