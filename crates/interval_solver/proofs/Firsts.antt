-- The first set without a range.
use Rattle.std.proofs.Common.{◌≡◌, ℕ, zero, suc, ◌+◌, ◌<◌, ◌≤◌, Bool, true, false, cond, List, [], ◌∷◌, ◌++◌, length, Option, Some, None, refl, sym, ap, ◌∙◌, subst, arith}
use Rattle.std.specs.Prelude.{slice_get}
use Rattle.std.specs.List.{position_from}
use Rattle.std.proofs.Math.ListN.{set}
use Rattle.sn_ranges.specs.Ranges.{RangeSet}
use Rattle.interval_solver.specs.Domains.{is_empty, first_empty, first_or_last, first_with, IsFilledAt}

-- one set more at the end
first_of_none : (b : Bool) (n k : ℕ) → n ≡ k → cond b (Some n) None ≡ first_or_last None b k
first_of_none true n k e = ap Some e
first_of_none false n k e = refl

last_later : (b c : Bool) (n k : ℕ) (o p : Option ℕ) → o ≡ first_or_last p c k → cond b (Some n) o ≡ first_or_last (cond b (Some n) p) c k
last_later true c n k o p h = refl
last_later false c n k o p h = h

more_from : (n : ℕ) (sets : List RangeSet) (next : RangeSet) → position_from is_empty n (sets ++ next ∷ []) ≡ first_or_last (position_from is_empty n sets) (is_empty next) (n + length sets)
more_from n [] next = first_of_none (is_empty next) n (n + 0) (omega arith)
more_from n (s ∷ sets) next =
    let step : n + 1 + length sets ≡ n + suc (length sets) = omega arith in
    last_later (is_empty s) (is_empty next) n (n + suc (length sets)) (position_from is_empty (n + 1) (sets ++ next ∷ [])) (position_from is_empty (n + 1) sets)
    (more_from (n + 1) sets next ∙ ap (first_or_last (position_from is_empty (n + 1) sets) (is_empty next)) step)

pub first_empty-more : (sets : List RangeSet) (next : RangeSet) (empty : Option ℕ) (k : ℕ) → empty ≡ first_empty sets → k ≡ length sets → first_or_last empty (is_empty next) k ≡ first_empty (sets ++ next ∷ [])
first_empty-more sets next empty k is at =
    let here : k ≡ 0 + length sets = omega arith in
    ap (λ o. first_or_last o (is_empty next) k) is ∙ ap (first_or_last (first_empty sets) (is_empty next)) here ∙ sym (more_from 0 sets next)

-- another set at a place
at_least_by : (b : Bool) (n j : ℕ) (o : Option ℕ) → (o ≡ Some j → n ≤ j) → cond b (Some n) o ≡ Some j → n ≤ j
at_least_by true n j o later h = let same : n ≡ j = cc in omega arith
at_least_by false n j o later h = later h

at_least : (n : ℕ) (sets : List RangeSet) (j : ℕ) → position_from is_empty n sets ≡ Some j → n ≤ j
at_least n [] j h = cc
at_least n (s ∷ sets) j h = at_least_by (is_empty s) n j (position_from is_empty (n + 1) sets) (λ e. let le : n + 1 ≤ j = at_least (n + 1) sets j e in omega arith) h

first_here : (b : Bool) (n k : ℕ) (o : Option ℕ) → k ≡ n → ((j : ℕ) → o ≡ Some j → n ≤ j) → cond b (Some n) o ≡ first_with o b k
first_here true n k None e later = ap Some (sym e)
first_here true n k (Some j) e later = let le : n ≤ j = later j refl in ap Some (omega arith)
first_here false n k None e later = refl
first_here false n k (Some j) e later = refl

first_later : (b c : Bool) (n k : ℕ) (o p : Option ℕ) → n ≤ k → o ≡ first_with p c k → cond b (Some n) o ≡ first_with (cond b (Some n) p) c k
first_later true true n k o p le h = ap Some (omega arith)
first_later true false n k o p le h = refl
first_later false c n k o p le h = h

with_from : (n : ℕ) (sets : List RangeSet) (i : ℕ) (old next : RangeSet) → slice_get sets i ≡ Some old → is_empty old ≡ false → position_from is_empty n (set sets i next) ≡ first_with (position_from is_empty n sets) (is_empty next) (n + i)
with_from n [] i old next at filled = cc
with_from n (s ∷ sets) zero old next at filled =
    let same : s ≡ old = cc in
    let off : is_empty s ≡ false = ap is_empty same ∙ filled in
    let rest = position_from is_empty (n + 1) sets in
    first_here (is_empty next) n (n + 0) rest (omega arith) (λ j e. let le : n + 1 ≤ j = at_least (n + 1) sets j e in omega arith)
    ∙ ap (λ b. first_with (cond b (Some n) rest) (is_empty next) (n + 0)) (sym off)
with_from n (s ∷ sets) (suc i) old next at filled =
    let step : n + 1 + i ≡ n + suc i = omega arith in
    first_later (is_empty s) (is_empty next) n (n + suc i) (position_from is_empty (n + 1) (set sets i next)) (position_from is_empty (n + 1) sets) (omega arith)
    (with_from (n + 1) sets i old next at filled ∙ ap (first_with (position_from is_empty (n + 1) sets) (is_empty next)) step)

pub first_empty-with : (sets : List RangeSet) (next : RangeSet) (empty : Option ℕ) (i : ℕ) → empty ≡ first_empty sets → IsFilledAt sets i → first_with empty (is_empty next) i ≡ first_empty (set sets i next)
first_empty-with sets next empty i is filled =
    let here : i ≡ 0 + i = omega arith in
    ap (λ o. first_with o (is_empty next) i) is ∙ ap (first_with (first_empty sets) (is_empty next)) here ∙ sym (with_from 0 sets i filled.0 next filled.1 filled.2)

-- where there is no such set, each has a range
filled_by : (b : Bool) (n : ℕ) (o : Option ℕ) → cond b (Some n) o ≡ None → (b ≡ false) × (o ≡ None)
filled_by true n o h = cc
filled_by false n o h = (refl, h)

filled_from : (n : ℕ) (sets : List RangeSet) (i : ℕ) (s : RangeSet) → position_from is_empty n sets ≡ None → slice_get sets i ≡ Some s → is_empty s ≡ false
filled_from n [] i s none at = cc
filled_from n (t ∷ sets) zero s none at = let same : t ≡ s = cc in sym (ap is_empty same) ∙ (filled_by (is_empty t) n (position_from is_empty (n + 1) sets) none).0
filled_from n (t ∷ sets) (suc i) s none at = filled_from (n + 1) sets i s (filled_by (is_empty t) n (position_from is_empty (n + 1) sets) none).1 at

pub filled : (sets : List RangeSet) (i : ℕ) (s : RangeSet) → first_empty sets ≡ None → slice_get sets i ≡ Some s → is_empty s ≡ false
filled sets i s none at = filled_from 0 sets i s none at

-- the set at the place has no range, and each before it has one
pub record IsFirstAt (sets : List RangeSet) (place : ℕ) : Type 0 where
  pub found : RangeSet
  pub at : slice_get sets place ≡ Some found
  pub empty : is_empty found ≡ true
  pub before : (r : ℕ) (s : RangeSet) → r < place → slice_get sets r ≡ Some s → is_empty s ≡ false

before_more : (t : RangeSet) (sets : List RangeSet) (i : ℕ) → is_empty t ≡ false → ((r : ℕ) (s : RangeSet) → r < i → slice_get sets r ≡ Some s → is_empty s ≡ false)
    → (r : ℕ) (s : RangeSet) → r < suc i → slice_get (t ∷ sets) r ≡ Some s → is_empty s ≡ false
before_more t sets i off before zero s lt at = let same : t ≡ s = cc in sym (ap is_empty same) ∙ off
before_more t sets i off before (suc r) s lt at = before r s (omega arith) at

found_by : (t : RangeSet) (sets : List RangeSet) (n j : ℕ) → (position_from is_empty (n + 1) sets ≡ Some j → (i : ℕ) × (j ≡ n + 1 + i) × IsFirstAt sets i)
    → (b : Bool) → is_empty t ≡ b → cond b (Some n) (position_from is_empty (n + 1) sets) ≡ Some j → (i : ℕ) × (j ≡ n + i) × IsFirstAt (t ∷ sets) i
found_by t sets n j later true e h =
    let same : n ≡ j = cc in
    (0, (omega arith), record { found = t; at = refl; empty = e; before = λ r s lt at. absurd (omega arith) })
found_by t sets n j later false e h =
    let rest = later h in
    let is = rest.1 in
    (suc rest.0, (omega arith), record { found = rest.2.found; at = rest.2.at; empty = rest.2.empty; before = before_more t sets rest.0 e rest.2.before })

found_from : (n : ℕ) (sets : List RangeSet) (j : ℕ) → position_from is_empty n sets ≡ Some j → (i : ℕ) × (j ≡ n + i) × IsFirstAt sets i
found_from n [] j h = cc
found_from n (t ∷ sets) j h = found_by t sets n j (found_from (n + 1) sets j) (is_empty t) refl h

pub first_found : (sets : List RangeSet) (j : ℕ) → first_empty sets ≡ Some j → IsFirstAt sets j
first_found sets j h =
    let all = found_from 0 sets j h in
    let is = all.1 in
    let same : all.0 ≡ j = omega arith in
    subst (IsFirstAt sets) same all.2
