use Rattle.std.proofs.Common.{◌≡◌, ℕ, ◌+◌, ◌-◌, ◌<◌, ◌≤◌, ◌||◌, true, false, Bool, List, [], ◌∷◌, ◌++◌, length, take, set, get_or, max, refl, sym, ap, ◌∙◌, arith, take_all}
use Rattle.std.proofs.lemmas.List.{nil_from_length, take_more, take_more_set, length-set}
use Rattle.sn_ranges.specs.Ranges.{Range, in_range, is_member, last_start}
use Rattle.sn_ranges.proofs.RangesLemmas.{in_range_tells, is_member-push, next_free, next_free-push, next_free-nil, last_start-push, AscendFrom-push, AscendFrom-last, AscendFrom-same}
use Rattle.sn_ranges.proofs.merge.append.Goals as goal
use Rattle.sn_ranges.proofs.merge.append.Goals.{then-len-gt0+else-saturating_sub-last, else-len-gt0}

-- two ranges that overlap or touch hold what their hull holds
hull : (b : Bool) (last r : Range) (m v : ℕ) → last.0 ≤ r.0 → r.0 - 1 ≤ last.1 → last.0 ≤ last.1 → m ≡ max last.1 r.1 → (b || in_range (last.0, m) v) ≡ ((b || in_range last v) || in_range r v)
hull true last r m v p q s e = refl
hull false last r m v p q s e = grind (arith, in_range_tells (last.0, m) v, in_range_tells last v, in_range_tells r v)

-- a list is its front and its last item, also after that item is replaced
front_last : (xs : List Range) (n : ℕ) (last : Range) → n ≡ length xs → 0 < n → last ≡ get_or xs (n - 1) last →
    xs ≡ take (n - 1) xs ++ last ∷ []
front_last xs n last len some is =
    sym (take_all (n - 1 + 1) xs (omega arith)) ∙ take_more xs (n - 1) last (omega arith)
    ∙ ap (λ (r : Range). take (n - 1) xs ++ r ∷ []) (sym is)

front_new : (xs : List Range) (n : ℕ) (new : Range) → n ≡ length xs → 0 < n → set xs (n - 1) new ≡ take (n - 1) xs ++ new ∷ []
front_new xs n new len some =
    sym (take_all (n - 1 + 1) (set xs (n - 1) new) (omega (arith, length-set xs (n - 1) new)))
    ∙ take_more_set xs (n - 1) new (omega arith)

pub returns-then-saturating_sub-last-clause-members : goal.returns-then-saturating_sub-last-clause-members
returns-then-saturating_sub-last-clause-members c =
    let xs = c.args.ranges.now in
    let len = c.len-len.ensures ∙ xs.ok.0 in
    let old = front_last xs.items _ _ len c.if-len-gt0.true c.index-last.ensures in
    let h = AscendFrom-last 0 _ _ (AscendFrom-same 0 _ _ old c.requires.ascending) in
    let start = ap (last_start 0) old ∙ last_start-push 0 _ _ in
    λ v. ap (λ l. is_member l v) (front_new xs.items _ _ len c.if-len-gt0.true) ∙ is_member-push _ _ v
    ∙ hull _ c.index-last.result.now c.args.range _ v (omega arith) (omega arith) h.2 c.max.ensures
    ∙ ap (λ b. b || in_range c.args.range v) (sym (ap (λ l. is_member l v) old ∙ is_member-push _ _ v))

pub returns-then-saturating_sub-last-clause-start : goal.returns-then-saturating_sub-last-clause-start
returns-then-saturating_sub-last-clause-start c =
    let xs = c.args.ranges.now in
    let len = c.len-len.ensures ∙ xs.ok.0 in
    let old = ap (last_start 0) (front_last xs.items _ _ len c.if-len-gt0.true c.index-last.ensures) ∙ last_start-push 0 _ _ in
    let new = ap (last_start 0) (front_new xs.items _ (c.index-last.result.now.0, c.max.result) len c.if-len-gt0.true)
    ∙ last_start-push 0 _ _ in
    omega arith

pub returns-then-saturating_sub-last-clause-ascending : goal.returns-then-saturating_sub-last-clause-ascending
returns-then-saturating_sub-last-clause-ascending c =
    let xs = c.args.ranges.now in
    let len = c.len-len.ensures ∙ xs.ok.0 in
    let old = front_last xs.items _ _ len c.if-len-gt0.true c.index-last.ensures in
    let h = AscendFrom-last 0 _ _ (AscendFrom-same 0 _ _ old c.requires.ascending) in
    let m = c.max.ensures in
    AscendFrom-same 0 _ _ (sym (front_new xs.items _ _ len c.if-len-gt0.true))
    (AscendFrom-push 0 _ (c.index-last.result.now.0, c.max.result) h.0 h.1 (omega arith))

pub returns-clause-members : goal.returns-clause-members
returns-clause-members c = λ v. ap (λ l. is_member l v) c.in_ok-push.ensures.items ∙ is_member-push _ _ v

pub returns-clause-start : goal.returns-clause-start
returns-clause-start c = omega (arith, ap (last_start 0) c.in_ok-push.ensures.items ∙ last_start-push 0 _ _)

pub returns-clause-ascending : goal.returns-clause-ascending
returns-clause-ascending c =
    let xs = c.args.ranges.now in
    let free : next_free 0 xs.items ≤ c.args.range.0 = elim c.if-len-gt0.branch [
      | then-len-gt0+else-saturating_sub-last w ↦ omega (
        arith,
        ap (next_free 0) (front_last xs.items _ _ (c.len-len.ensures ∙ xs.ok.0) w.if-len-gt0.true w.index-last.ensures) ∙ next_free-push 0 _ _,
      )
      | else-len-gt0 w ↦ omega (arith, ap (next_free 0) (nil_from_length xs.items (omega arith)) ∙ next_free-nil 0)
    ] in
    AscendFrom-same 0 _ _ (sym c.in_ok-push.ensures.items)
    (AscendFrom-push 0 _ _ c.requires.ascending free c.requires.ordered)
