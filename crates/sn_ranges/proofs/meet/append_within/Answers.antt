use Rattle.std.proofs.Common.{◌≡◌, ℕ, ◌<◌, ◌≤◌, Bool, true, false, ◌&&◌, ◌||◌, List, [], ◌∷◌, Some, None, length, max, refl, sym, ap, ap₂, ◌∙◌, arith, inl, inr}
use Rattle.std.proofs.lemmas.Bool.{both_ways, cases_lt}
use Rattle.std.specs.List.{slice_get}
use Rattle.sn_ranges.specs.Ranges.{Range, in_range, is_member, AscendFrom}
use Rattle.sn_ranges.proofs.RangesLemmas.{range_at, is_member-nil, or-false, or_assoc, last_start-bounded}
use Rattle.sn_ranges.proofs.Windows.{member-bounded, cut_first}
use Rattle.sn_ranges.proofs.meet.append_within.Goals as goal
use Rattle.sn_ranges.proofs.meet.append_within.Goals.{in-Some+in_ok-append_overlap, in_default}

pub append_inside-requires-clause-end : goal.append_inside-requires-clause-end
append_inside-requires-clause-end c = c.split_at_window.ensures.ends

-- the first range, where there is one, starts the list
first_at : (rs : List Range) (r : Range) → Some r ≡ slice_get rs 0 → (0 < length rs) × (range_at rs 0 ≡ r)
first_at [] r e = absurd (cc)
first_at (x ∷ rs) r e = (omega arith, cc)

false_where : (b : Bool) → (b ≡ true → ⊥) → b ≡ false
false_where true h = absurd (h refl)
false_where false h = refl

pub append_overlap-requires-clause-later : goal.append_overlap-requires-clause-later
append_overlap-requires-clause-later c =
    let old = c.args.common.now.items in
    let inside = c.split_at_window.result.0.now in
    let w = c.args.window in
    let parts = c.split_at_window.ensures in
    let first = first_at c.split_at_window.result.1.now c.in-Some.last.now c.in-Some.ensures.value in
    let most = max c.in-Some.last.now.0 w.0 in
    last_start-bounded 0 0 c.append_inside.new.common.items most (omega arith) c.in_ok-append_inside.ensures.ascending
    (λ v t. elim (cases_lt most v) [
      | inl past ↦
          let not_old : is_member old v ≡ false = false_where (is_member old v) (λ is. omega (arith, c.requires.apart v is)) in
          let not_inside : is_member inside v ≡ false = false_where (is_member inside v) (λ is.
          omega (arith, member-bounded inside c.in-Some.last.now.0 v (λ k hk. rw (← first.1) (omega (arith, parts.apart k hk first.0))) is)) in
          absurd (both_ways _ (c.in_ok-append_inside.ensures.members v ∙ ap₂ (λ a b. a || (b && in_range w v)) not_old not_inside) t)
      | inr upto ↦ upto
    ])

no_first : (rs : List Range) → None ≡ slice_get rs 0 → rs ≡ []
no_first [] e = refl
no_first (r ∷ rs) e = absurd (cc)

-- of the ranges that are left, the first alone meets the window
first_meets : (rs : List Range) (r w : Range) (v : ℕ) → Some r ≡ slice_get rs 0 → AscendFrom 0 rs → (0 < length rs → w.1 ≤ (range_at rs 0).1) →
    (is_member rs v && in_range w v) ≡ (in_range r v && in_range w v)
first_meets [] r w v e h ends = absurd (cc)
first_meets (x ∷ rs) r w v e h ends =
    let same : r ≡ x = cc in
    rw same (cut_first 0 x rs w v h (ends (omega arith)))

pub returns-clause-members : goal.returns-clause-members
returns-clause-members c v =
    let old = is_member c.args.common.now.items v in
    let inside = is_member c.split_at_window.result.0.now v in
    let rest = c.split_at_window.result.1.now in
    let w = in_range c.args.window v in
    let parts = c.split_at_window.ensures in
    let so_far = c.in_ok-append_inside.ensures.members v in
    ap (λ b. b) (elim c.match-first.branch [
      | in-Some+in_ok-append_overlap s ↦
          let last = in_range s.in-Some.last.now v in
          ap (λ (l : List Range). is_member l v) (ap (λ x. x.items) s.common-is)
          ∙ s.in_ok-append_overlap.ensures.members v
          ∙ ap₂ (λ a b. a || b) so_far (sym (first_meets rest s.in-Some.last.now c.args.window v s.in-Some.ensures.value parts.rest_ascending parts.rest_ends))
          ∙ sym (or_assoc old (inside && w) (is_member rest v && w))
      | in_default s ↦
          ap (λ (l : List Range). is_member l v) (ap (λ x. x.items) s.common-is)
          ∙ so_far
          ∙ ap (λ b. old || b) (sym (or-false (inside && w)) ∙ ap (λ b. (inside && w) || (b && w))
          (sym (ap (λ l. is_member l v) (no_first rest s.in_default.ensures.value) ∙ is_member-nil v)))
    ])
    ∙ ap (λ b. old || b) (sym (parts.members v))
