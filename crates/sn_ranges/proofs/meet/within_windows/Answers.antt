use Rattle.std.proofs.Common.{◌≡◌, ℕ, ◌+◌, ◌<◌, ◌≤◌, Bool, true, false, ◌&&◌, ◌||◌, drop, refl, sym, ap, ◌∙◌, arith, inl, inr}
use Rattle.std.proofs.lemmas.Bool.{both_ways, cases_lt}
use Rattle.sn_ranges.specs.Ranges.{Range, in_range, is_member}
use Rattle.sn_ranges.proofs.RangesLemmas.{range_at, in_range_tells, or-false, or_assoc, is_member-nil, is_member-drop, is_member-past, is_member-below, AscendFrom-same, AscendFrom-drop, AscendFrom-at, AscendFrom-gap, AscendFrom-ordered}
use Rattle.sn_ranges.proofs.Windows.{and-false}
use Rattle.sn_ranges.proofs.meet.within_windows.Goals as goal

pub loop-window-init : goal.loop-window-init
loop-window-init c =
    let none = c.in_ok-common.ensures.items in
    let no_member : (v : ℕ) → is_member c.in_ok-common.common.items v ≡ false = λ v. ap (λ l. is_member l v) none ∙ is_member-nil v in
    record {
      ascending = AscendFrom-same 0 _ _ (sym none) tt;
      rest_ascending = c.requires.ranges_ascending;
      apart = λ _ v t. absurd (both_ways _ (no_member v) t);
      members = λ v. ap (λ b. b || (is_member c.args.ranges.now v && is_member c.args.windows.now v)) (no_member v);
    }

pub append_within-requires-clause-ordered : goal.append_within-requires-clause-ordered
append_within-requires-clause-ordered c = AscendFrom-ordered 0 c.args.windows.now c.loop-window.window-index c.requires.windows_ascending c.loop-window-test.true

-- a member of the list or of its part in the window lies a gap before what follows the window
gap_behind : (old part : Bool) (v : ℕ) (w : Range) (next : ℕ) → w.0 ≤ w.1 → w.1 + 2 ≤ next →
    (old ≡ true → v + 1 < w.0) → (old || (part && in_range w v)) ≡ true → v + 1 < next
gap_behind true part v w next ordered gap before t = let old = before refl in omega arith
gap_behind false true v w next ordered gap before t = grind (arith, in_range_tells w v)
gap_behind false false v w next ordered gap before t = absurd (both_ways _ refl t)

-- the rest behind a window counts for what is behind it alone
behind : (rest after w ys : Bool) → (ys ≡ true → after ≡ rest) → ((rest && w) || (after && ys)) ≡ (rest && (w || ys))
behind true after true ys same = refl
behind true after false true same = ap (λ b. b && true) (same refl)
behind true after false false same = and-false after
behind false after w true same = ap (λ b. b && true) (same refl)
behind false after w false same = and-false after

pub loop-window-preserved : goal.loop-window-preserved
loop-window-preserved c =
    let windows = c.args.windows.now in
    let j = c.loop-window.window-index in
    let w = range_at windows j in
    let inv = c.loop-window.invariant in
    let added = c.in_ok-rest.ensures in
    let here = AscendFrom-at 0 windows j (AscendFrom-drop 0 windows j c.requires.windows_ascending) c.loop-window-test.true in
    record {
      ascending = added.ascending;
      rest_ascending = added.rest_ascending;
      apart = λ more v t.
          gap_behind (is_member c.loop-window.common.items v) (is_member c.loop-window.rest.now v) v w _ here.1 (AscendFrom-gap 0 windows j c.requires.windows_ascending more)
          (inv.apart c.loop-window-test.true v) (sym (added.members v) ∙ t);
      members = λ v.
          let common = is_member c.loop-window.common.items v in
          let rest = is_member c.loop-window.rest.now v in
          let ys = is_member (drop (j + 1) windows) v in
          let past : ys ≡ true → w.1 < v = λ t. elim (cases_lt w.1 v) [
            | inl lt ↦ lt
            | inr le ↦ absurd (both_ways _ (is_member-below (w.1 + 2) (drop (j + 1) windows) v here.2 (omega arith)) t)
          ] in
          ap (λ b. b || (is_member c.in_ok-rest.rest.now v && ys)) (added.members v)
          ∙ sym (or_assoc common (rest && in_range w v) (is_member c.in_ok-rest.rest.now v && ys))
          ∙ ap (λ b. common || b) (behind rest (is_member c.in_ok-rest.rest.now v) (in_range w v) ys (λ t. added.rest v (past t)))
          ∙ ap (λ b. common || (rest && b)) (sym (is_member-drop windows j v c.loop-window-test.true))
          ∙ inv.members v;
    }

pub returns-clause-members : goal.returns-clause-members
returns-clause-members c v =
    let windows = c.args.windows.now in
    let common = is_member c.loop-window.common.items v in
    let rest = is_member c.loop-window.rest.now v in
    sym (or-false common)
    ∙ ap (λ b. common || b) (sym (ap (λ b. rest && b) (is_member-past windows c.loop-window.window-index v c.loop-window-test.false) ∙ and-false rest))
    ∙ c.loop-window.invariant.members v
