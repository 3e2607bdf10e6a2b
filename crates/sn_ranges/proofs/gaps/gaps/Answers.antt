use Rattle.std.proofs.Common.{◌≡◌, ℕ, ◌+◌, ◌-◌, ◌<◌, ◌≤◌, ◌&&◌, ◌||◌, not, Bool, true, false, nat_le, nat_lt, List, ◌∷◌, [], ◌++◌, length, drop, refl, sym, ap, ◌∙◌, arith, inl, inr}
use Rattle.std.proofs.lemmas.Bool.{cases_lt}
use Rattle.std.proofs.lemmas.Bool.Decides.{nat_tests}
use Rattle.sn_ranges.specs.Ranges.{Range, in_range, is_member, AscendFrom}
use Rattle.sn_ranges.proofs.RangesLemmas.{range_at, in_range_tells, or-false, is_member-nil, is_member-push, is_member-drop, is_member-past, is_member-below, AscendFrom-same, AscendFrom-at, AscendFrom-weaker, AscendFrom-push, next_free, next_free-nil, next_free-push}
use Rattle.sn_ranges.proofs.gaps.gaps.Goals as goal
use Rattle.sn_ranges.proofs.gaps.gaps.Goals.{then-next-range+in_ok-push, else-next-range}

-- what the loop knows of the ranges from the index on, whose first number is `next` or later
module _ (rs : List Range) (k next : ℕ) (within : k < length rs) (later : AscendFrom next (drop k rs)) (passed : (v : ℕ) → next ≤ v → is_member (drop k rs) v ≡ is_member rs v) where
  -- the range's end is no greater than a bound of all members
  end_bounded : (max : ℕ) → ((v : ℕ) → is_member rs v ≡ true → v ≤ max) → (range_at rs k).1 ≤ max
  end_bounded max bounded =
      let r = range_at rs k in
      let at = AscendFrom-at next rs k later within in
      let holds_end : in_range r r.1 ≡ true = grind (arith, in_range_tells r r.1) in
      bounded r.1 (sym (passed r.1 (omega arith)) ∙ is_member-drop rs k r.1 within ∙ ap (λ b. b || is_member (drop (k + 1) rs) r.1) holds_end)

  -- from `next` to the range's end, the members are the range's
  members_here : (v : ℕ) → next ≤ v → v ≤ (range_at rs k).1 → is_member rs v ≡ in_range (range_at rs k) v
  members_here v from upto =
      let r = range_at rs k in
      let at = AscendFrom-at next rs k later within in
      let none : is_member (drop (k + 1) rs) v ≡ false = is_member-below (r.1 + 2) (drop (k + 1) rs) v at.2 (omega arith) in
      sym (passed v from) ∙ is_member-drop rs k v within ∙ ap (λ b. in_range r v || b) none ∙ or-false (in_range r v)

  -- after the range's end, the members are those of the ranges after it
  members_after : (v : ℕ) → (range_at rs k).1 + 1 ≤ v → is_member (drop (k + 1) rs) v ≡ is_member rs v
  members_after v after =
      let r = range_at rs k in
      let at = AscendFrom-at next rs k later within in
      let none : in_range r v ≡ false = grind (arith, in_range_tells r v) in
      sym (ap (λ b. b || is_member (drop (k + 1) rs) v) none) ∙ sym (is_member-drop rs k v within) ∙ passed v (omega arith)

gap_below : (old member : Bool) (r : Range) (next v : ℕ) → v < next → next < r.0 → r.0 ≤ r.1 → old ≡ (nat_lt v next && not member) → (old || in_range (next, r.0 - 1) v) ≡ (nat_lt v (r.1 + 1) && not member)
gap_below old true r next v below gap le e = grind (arith, nat_tests, in_range_tells (next, r.0 - 1) v)
gap_below old false r next v below gap le e = grind (arith, nat_tests, in_range_tells (next, r.0 - 1) v)

gap_here : (old member : Bool) (r : Range) (next v : ℕ) → next ≤ v → v ≤ r.1 → next < r.0 → r.0 ≤ r.1 → member ≡ in_range r v → old ≡ (nat_lt v next && not member) → (old || in_range (next, r.0 - 1) v) ≡ (nat_lt v (r.1 + 1) && not member)
gap_here old true r next v from upto gap le here e = grind (arith, nat_tests, in_range_tells (next, r.0 - 1) v, in_range_tells r v)
gap_here old false r next v from upto gap le here e = grind (arith, nat_tests, in_range_tells (next, r.0 - 1) v, in_range_tells r v)

gap_above : (old member : Bool) (r : Range) (next v : ℕ) → r.1 < v → next < r.0 → r.0 ≤ r.1 → old ≡ (nat_lt v next && not member) → (old || in_range (next, r.0 - 1) v) ≡ (nat_lt v (r.1 + 1) && not member)
gap_above old member r next v above gap le e = grind (arith, nat_tests, in_range_tells (next, r.0 - 1) v)

-- one more range, with the gap before it
gap_added : (old member : Bool) (r : Range) (next v : ℕ) → next < r.0 → r.0 ≤ r.1 → (next ≤ v → v ≤ r.1 → member ≡ in_range r v) → old ≡ (nat_lt v next && not member) → (old || in_range (next, r.0 - 1) v) ≡ (nat_lt v (r.1 + 1) && not member)
gap_added old member r next v gap le here e = elim (cases_lt v next) [
  | inl below ↦ gap_below old member r next v below gap le e
  | inr from ↦ elim (cases_lt r.1 v) [
    | inl above ↦ gap_above old member r next v above gap le e
    | inr upto ↦ gap_here old member r next v from upto gap le (here from upto) e
  ]
]

no_gap_below : (old member : Bool) (r : Range) (next v : ℕ) → v < next → next ≤ r.0 → r.0 ≤ r.1 → old ≡ (nat_lt v next && not member) → old ≡ (nat_lt v (r.1 + 1) && not member)
no_gap_below old member r next v below start le e = grind (arith, nat_tests)

no_gap_here : (old member : Bool) (r : Range) (next v : ℕ) → next ≤ v → v ≤ r.1 → r.0 ≤ next → member ≡ in_range r v → old ≡ (nat_lt v next && not member) → old ≡ (nat_lt v (r.1 + 1) && not member)
no_gap_here old true r next v from upto start here e = grind (arith, nat_tests)
no_gap_here old false r next v from upto start here e = grind (arith, nat_tests, in_range_tells r v)

no_gap_above : (old member : Bool) (r : Range) (next v : ℕ) → next ≤ v → r.1 < v → old ≡ (nat_lt v next && not member) → old ≡ (nat_lt v (r.1 + 1) && not member)
no_gap_above old member r next v from above e = grind (arith, nat_tests)

-- one more range, with no gap before it
no_gap : (old member : Bool) (r : Range) (next v : ℕ) → next ≤ r.0 → r.0 ≤ next → r.0 ≤ r.1 → (next ≤ v → v ≤ r.1 → member ≡ in_range r v) → old ≡ (nat_lt v next && not member) → old ≡ (nat_lt v (r.1 + 1) && not member)
no_gap old member r next v start begins le here e = elim (cases_lt v next) [
  | inl below ↦ no_gap_below old member r next v below start le e
  | inr from ↦ elim (cases_lt r.1 v) [
    | inl above ↦ no_gap_above old member r next v from above e
    | inr upto ↦ no_gap_here old member r next v from upto begins (here from upto) e
  ]
]

-- after the last range
last_gap : (old member : Bool) (next max v : ℕ) → next ≤ max → (next ≤ v → member ≡ false) → old ≡ (nat_lt v next && not member) → (old || in_range (next, max) v) ≡ (nat_le v max && not member)
last_gap old true next max v le none e = grind (arith, nat_tests, in_range_tells (next, max) v, none)
last_gap old false next max v le none e = grind (arith, nat_tests, in_range_tells (next, max) v)

upto_end : (old member : Bool) (end max v : ℕ) → end ≡ max → old ≡ (nat_lt v (end + 1) && not member) → old ≡ (nat_le v max && not member)
upto_end old member end max v is e = grind (arith, nat_tests)

-- a gap is pushed after ranges that end before it
pushed_gap : (new old : List Range) (next start : ℕ) → new ≡ old ++ (next, start - 1) ∷ [] → next < start → AscendFrom 0 old → next_free 0 old ≤ next → AscendFrom 0 new × (next_free 0 new ≡ start + 1)
pushed_gap new old next start is gap ascending free = (
  AscendFrom-same 0 _ _ (sym is) (AscendFrom-push 0 old (next, start - 1) ascending free (omega arith)),
  ap (next_free 0) is ∙ next_free-push 0 old (next, start - 1) ∙ omega arith,
)

pub loop-range-init : goal.loop-range-init
loop-range-init c =
    let none = c.new-gaps.ensures.items in
    record {
      within = omega arith;
      ascending = AscendFrom-same 0 _ _ (sym none) tt;
      free = omega (arith, ap (next_free 0) none ∙ next_free-nil 0);
      later = c.requires.ascending;
      passed = λ v _. refl;
      members = λ v. ap (λ l. is_member l v) none ∙ is_member-nil v ∙ grind (arith, nat_tests);
    }

pub overflow_add-next : goal.overflow_add-next
overflow_add-next c =
    let inv = c.loop-range.invariant in
    omega (arith, end_bounded _ _ _ c.loop-range-test.true inv.later inv.passed c.args.max c.requires.bounded)

pub returns-then-range-max-clause-members : goal.returns-then-range-max-clause-members
returns-then-range-max-clause-members c =
    let rs = c.args.ranges.now in
    let k = c.loop-range.range-index in
    let r = range_at rs k in
    let hk = c.loop-range-test.true in
    let inv = c.loop-range.invariant in
    let at = AscendFrom-at _ rs k inv.later hk in
    λ v. let here = members_here rs k _ hk inv.later inv.passed v in
    upto_end _ _ r.1 _ v c.if-range-max.true (elim c.if-next-range.branch [
      | then-next-range+in_ok-push w ↦ rw w.gaps-is (ap (λ l. is_member l v) w.in_ok-push.ensures.items
          ∙ is_member-push _ _ v ∙ gap_added _ _ r _ v w.if-next-range.true at.1 here (inv.members v))
      | else-next-range w ↦ rw w.gaps-is (no_gap _ _ r _ v at.0 w.if-next-range.false at.1 here (inv.members v))
    ])

pub returns-then-range-max-clause-ascending : goal.returns-then-range-max-clause-ascending
returns-then-range-max-clause-ascending c =
    let inv = c.loop-range.invariant in
    elim c.if-next-range.branch [
      | then-next-range+in_ok-push w ↦ rw w.gaps-is
          (pushed_gap _ _ _ _ w.in_ok-push.ensures.items w.if-next-range.true inv.ascending inv.free).0
      | else-next-range w ↦ rw w.gaps-is inv.ascending
    ]

pub loop-range-preserved : goal.loop-range-preserved
loop-range-preserved c =
    let rs = c.args.ranges.now in
    let k = c.loop-range.range-index in
    let r = range_at rs k in
    let hk = c.loop-range-test.true in
    let inv = c.loop-range.invariant in
    let at = AscendFrom-at _ rs k inv.later hk in
    let bounded = end_bounded rs k _ hk inv.later inv.passed c.args.max c.requires.bounded in
    record {
      within = grind arith;
      ascending = elim c.if-next-range.branch [
        | then-next-range+in_ok-push w ↦ rw w.gaps-is
            (pushed_gap _ _ _ _ w.in_ok-push.ensures.items w.if-next-range.true inv.ascending inv.free).0
        | else-next-range w ↦ rw w.gaps-is inv.ascending
      ];
      free = elim c.if-next-range.branch [
        | then-next-range+in_ok-push w ↦ rw w.gaps-is (omega (
          arith,
          (pushed_gap _ _ _ _ w.in_ok-push.ensures.items w.if-next-range.true inv.ascending inv.free).1,
        ))
        | else-next-range w ↦ rw w.gaps-is (omega (arith, inv.free))
      ];
      later = AscendFrom-weaker (r.1 + 1) (r.1 + 2) (drop (k + 1) rs) (omega arith) at.2;
      passed = members_after rs k _ hk inv.later inv.passed;
      members = λ v. let here = members_here rs k _ hk inv.later inv.passed v in elim c.if-next-range.branch [
        | then-next-range+in_ok-push w ↦ rw w.gaps-is (ap (λ l. is_member l v) w.in_ok-push.ensures.items
            ∙ is_member-push _ _ v ∙ gap_added _ _ r _ v w.if-next-range.true at.1 here (inv.members v))
        | else-next-range w ↦ rw w.gaps-is (no_gap _ _ r _ v at.0 w.if-next-range.false at.1 here (inv.members v))
      ];
    }

pub returns-clause-members : goal.returns-clause-members
returns-clause-members c =
    let inv = c.loop-range.invariant in
    λ v. ap (λ l. is_member l v) c.in_ok-push-2.ensures.items ∙ is_member-push _ _ v
    ∙ last_gap _ _ c.loop-range.next c.args.max v inv.within
    (λ from. sym (inv.passed v from) ∙ is_member-past c.args.ranges.now _ v c.loop-range-test.false) (inv.members v)

pub returns-clause-ascending : goal.returns-clause-ascending
returns-clause-ascending c =
    let inv = c.loop-range.invariant in
    AscendFrom-same 0 _ _ (sym c.in_ok-push-2.ensures.items)
    (AscendFrom-push 0 _ _ inv.ascending inv.free inv.within)
