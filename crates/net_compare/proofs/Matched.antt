-- Lists that match, and the longer one of them.
use Rattle.std.proofs.Common.{◌≡◌, ◌∙◌, ◌⊎◌, ◌↔◌, ◌<◌, ◌≤◌, inl, inr, ℕ, zero, suc, ◌+◌, Bool, true, false, nat_lt, List, [], ◌∷◌, ◌++◌, arith, drop, length, min, refl, sym, ap, subst, Some, slice_get, if◌then◌else◌}
use Rattle.std.proofs.lemmas.Bool.Decides.{nat_tests}
use Rattle.std.proofs.lemmas.List.{append_assoc, drop_all}
use Rattle.compare_meaning.specs.Clashes.{Begins}
use Rattle.compare_meaning.specs.Facing.{longer}
use Rattle.net_compare.specs.Matching.{Match}
use Rattle.net_compare.proofs.Lacking.{append_none}

-- ---- one begins the other

begun : (ws vs : List ℕ) → Match ws vs → Begins ws vs ⊎ Begins vs ws
begun [] vs h = inl (vs, refl)
begun (w ∷ ws) [] h = inr (w ∷ ws, refl)
begun (w ∷ ws) (v ∷ vs) h = by (begun ws vs h.1)
  where
    by : Begins ws vs ⊎ Begins vs ws → Begins (w ∷ ws) (v ∷ vs) ⊎ Begins (v ∷ vs) (w ∷ ws)
    by (inl k) = inl (k.0, λ i. h.0 i ∷ k.1 i)
    by (inr k) = inr (k.0, λ i. sym h.0 i ∷ k.1 i)

matched : (ws vs : List ℕ) → Begins ws vs ⊎ Begins vs ws → Match ws vs
matched [] vs h = tt
matched (w ∷ ws) [] h = tt
matched (w ∷ ws) (v ∷ vs) (inl h) = let e : w ∷ (ws ++ h.0) ≡ v ∷ vs = h.1 in let first : w ≡ v = cc in let rest : ws ++ h.0 ≡ vs = cc in (first, matched ws vs (inl (h.0, rest)))
matched (w ∷ ws) (v ∷ vs) (inr h) = let e : v ∷ (vs ++ h.0) ≡ w ∷ ws = h.1 in let first : w ≡ v = cc in let rest : vs ++ h.0 ≡ ws = cc in (first, matched ws vs (inr (h.0, rest)))

pub matched_is_begun : (ws vs : List ℕ) → Match ws vs ↔ (Begins ws vs ⊎ Begins vs ws)
matched_is_begun ws vs = (begun ws vs, matched ws vs)

-- two that begin one list match
pub both_match : (us vs ws : List ℕ) → Begins us ws → Begins vs ws → Match us vs
both_match [] vs ws h k = tt
both_match (u ∷ us) [] ws h k = tt
both_match (u ∷ us) (v ∷ vs) [] h k = let bad : u ∷ (us ++ h.0) ≡ [] = h.1 in absurd (cc)
both_match (u ∷ us) (v ∷ vs) (w ∷ ws) h k =
    let one : u ∷ (us ++ h.0) ≡ w ∷ ws = h.1 in
    let other : v ∷ (vs ++ k.0) ≡ w ∷ ws = k.1 in
    let first : u ≡ v = cc in
    let left : us ++ h.0 ≡ ws = cc in
    let right : vs ++ k.0 ≡ ws = cc in
    (first, both_match us vs ws (h.0, left) (k.0, right))

-- what matches and is not longer begins
pub shorter_begins : (ws vs : List ℕ) → length ws ≤ length vs → Match ws vs → Begins ws vs
shorter_begins [] vs less h = (vs, refl)
shorter_begins (w ∷ ws) [] less h = absurd (omega (arith, less))
shorter_begins (w ∷ ws) (v ∷ vs) less h = let rest = shorter_begins ws vs (omega (arith, less)) h.1 in (rest.0, λ i. h.0 i ∷ rest.1 i)

pub begins_matches : (ws vs : List ℕ) → Begins ws vs → Match ws vs
begins_matches ws vs h = matched ws vs (inl h)

front_shorter : (ws rest : List ℕ) → length ws ≤ length (ws ++ rest)
front_shorter [] rest = omega arith
front_shorter (w ∷ ws) rest = let less : length ws ≤ length (ws ++ rest) = front_shorter ws rest in omega (arith, less)

pub begins_shorter : (ws vs : List ℕ) → Begins ws vs → length ws ≤ length vs
begins_shorter ws vs h = subst (λ z. length ws ≤ length z) h.1 (front_shorter ws h.0)

-- ---- the loop

match_nothing : (ws : List ℕ) → Match ws []
match_nothing [] = tt
match_nothing (w ∷ ws) = tt

before_suc : (ws vs : List ℕ) (n : ℕ) → slice_get ws n ≡ slice_get vs n → Match (drop (suc n) ws) (drop (suc n) vs) → Match (drop n ws) (drop n vs)
before_suc [] vs zero e h = tt
before_suc [] vs (suc n) e h = tt
before_suc (w ∷ ws) [] zero e h = tt
before_suc (w ∷ ws) [] (suc n) e h = match_nothing (drop n ws)
before_suc (w ∷ ws) (v ∷ vs) zero e h = let same : w ≡ v = cc in (same, h)
before_suc (w ∷ ws) (v ∷ vs) (suc n) e h = before_suc ws vs n e h

pub match_before : (ws vs : List ℕ) (n : ℕ) → slice_get ws n ≡ slice_get vs n → Match (drop (n + 1) ws) (drop (n + 1) vs) → Match (drop n ws) (drop n vs)
match_before ws vs n e h = let more : n + 1 ≡ suc n = omega arith in before_suc ws vs n e (subst (λ k. Match (drop k ws) (drop k vs)) more h)

after_suc : (ws vs : List ℕ) (n : ℕ) → Match (drop n ws) (drop n vs) → Match (drop (suc n) ws) (drop (suc n) vs)
after_suc [] vs n h = tt
after_suc (w ∷ ws) [] zero h = match_nothing ws
after_suc (w ∷ ws) [] (suc n) h = match_nothing (drop (suc n) ws)
after_suc (w ∷ ws) (v ∷ vs) zero h = h.1
after_suc (w ∷ ws) (v ∷ vs) (suc n) h = after_suc ws vs n h

pub match_after : (ws vs : List ℕ) (n : ℕ) → Match (drop n ws) (drop n vs) → Match (drop (n + 1) ws) (drop (n + 1) vs)
match_after ws vs n h = let more : suc n ≡ n + 1 = omega arith in subst (λ k. Match (drop k ws) (drop k vs)) more (after_suc ws vs n h)

pub matched_here : (ws vs : List ℕ) (n : ℕ) → n < length ws → n < length vs → Match (drop n ws) (drop n vs) → slice_get ws n ≡ slice_get vs n
matched_here [] vs n less more h = absurd (omega (arith, less))
matched_here (w ∷ ws) [] n less more h = absurd (omega (arith, more))
matched_here (w ∷ ws) (v ∷ vs) zero less more h = ap Some h.0
matched_here (w ∷ ws) (v ∷ vs) (suc n) less more h = matched_here ws vs n (omega (arith, less)) (omega (arith, more)) h

pub match_past : (ws vs : List ℕ) (n : ℕ) → min (length ws) (length vs) ≤ n → Match (drop n ws) (drop n vs)
match_past [] vs zero past = tt
match_past [] vs (suc n) past = tt
match_past (w ∷ ws) [] zero past = tt
match_past (w ∷ ws) [] (suc n) past = match_nothing (drop n ws)
match_past (w ∷ ws) (v ∷ vs) zero past = absurd (omega (arith, past))
match_past (w ∷ ws) (v ∷ vs) (suc n) past = match_past ws vs n (omega (arith, past))

-- ---- with the symbols of another

longer_if : (ws vs : List ℕ) (b : Bool) → nat_lt (length ws) (length vs) ≡ b → longer ws vs ≡ (if b then vs else ws)
longer_if ws vs b e = ap (λ t. if t then vs else ws) e

longer_next : (w v : ℕ) (ws vs : List ℕ) → w ≡ v → w ∷ longer ws vs ≡ longer (w ∷ ws) (v ∷ vs)
longer_next w v ws vs same = by (nat_lt (length ws) (length vs)) refl
  where
    by : (b : Bool) → nat_lt (length ws) (length vs) ≡ b → w ∷ longer ws vs ≡ longer (w ∷ ws) (v ∷ vs)
    by true e = ap (λ z. w ∷ z) (longer_if ws vs true e) ∙ (ap (λ z. z ∷ vs) same ∙ sym (longer_if (w ∷ ws) (v ∷ vs) true (grind (arith, nat_tests))))
    by false e = ap (λ z. w ∷ z) (longer_if ws vs false e) ∙ sym (longer_if (w ∷ ws) (v ∷ vs) false (grind (arith, nat_tests)))

rest_is_longer : (ws vs : List ℕ) → Match ws vs → ws ++ drop (length ws) vs ≡ longer ws vs
rest_is_longer [] [] h = refl
rest_is_longer [] (v ∷ vs) h = sym (longer_if [] (v ∷ vs) true (grind (arith, nat_tests)))
rest_is_longer (w ∷ ws) [] h = append_none (w ∷ ws) ∙ sym (longer_if (w ∷ ws) [] false (grind (arith, nat_tests)))
rest_is_longer (w ∷ ws) (v ∷ vs) h = ap (λ z. w ∷ z) (rest_is_longer ws vs h.1) ∙ longer_next w v ws vs h.0

pub symbols_first : (ws vs : List ℕ) (n : ℕ) → n ≡ length ws → Begins ws vs ⊎ Begins vs ws → ws ++ drop n vs ≡ longer ws vs
symbols_first ws vs n is h = ap (λ k. ws ++ drop k vs) is ∙ rest_is_longer ws vs (matched ws vs h)

widths_suc : (vs : List ℕ) (n w : ℕ) → slice_get vs n ≡ Some w → drop n vs ≡ w ∷ drop (suc n) vs
widths_suc [] n w at = absurd (cc)
widths_suc (v ∷ vs) zero w at = let same : v ≡ w = cc in ap (λ z. z ∷ vs) same
widths_suc (v ∷ vs) (suc n) w at = widths_suc vs n w at

pub symbols_next : (now vs all : List ℕ) (n w : ℕ) → slice_get vs n ≡ Some w → now ++ drop n vs ≡ all → (now ++ w ∷ []) ++ drop (n + 1) vs ≡ all
symbols_next now vs all n w at e =
    let more : suc n ≡ n + 1 = omega arith in
    append_assoc now (w ∷ []) (drop (n + 1) vs) ∙ (ap (λ k. now ++ w ∷ drop k vs) (sym more) ∙ (ap (λ z. now ++ z) (sym (widths_suc vs n w at)) ∙ e))

pub symbols_end : (now vs all : List ℕ) (n : ℕ) → length vs ≤ n → now ++ drop n vs ≡ all → now ≡ all
symbols_end now vs all n past e = sym (append_none now) ∙ (ap (λ z. now ++ z) (sym (drop_all n vs past)) ∙ e)

-- the other begins the longer of two that agree
pub other_begins : (ws vs : List ℕ) → Begins ws vs ⊎ Begins vs ws → Begins vs (longer ws vs)
other_begins ws vs h = by ws vs (matched ws vs h)
  where
    by : (xs ys : List ℕ) → Match xs ys → Begins ys (longer xs ys)
    by [] [] k = ([], refl)
    by [] (y ∷ ys) k = ([], append_none (y ∷ ys) ∙ sym (longer_if [] (y ∷ ys) true (grind (arith, nat_tests))))
    by (x ∷ xs) [] k = (x ∷ xs, sym (longer_if (x ∷ xs) [] false (grind (arith, nat_tests))))
    by (x ∷ xs) (y ∷ ys) k =
        let rest = by xs ys k.1 in
        (rest.0, ap (λ z. y ∷ z) rest.1 ∙ (ap (λ z. z ∷ longer xs ys) (sym k.0) ∙ longer_next x y xs ys k.0))
