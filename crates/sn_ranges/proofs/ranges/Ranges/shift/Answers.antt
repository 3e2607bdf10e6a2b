use Rattle.std.proofs.Common.{◌≡◌, ℕ, ◌+◌, ◌-◌, ◌%◌, ◌^◌, ◌<◌, ◌≤◌, ◌&&◌, ◌||◌, true, false, nat_le, nat_lt, List, refl, sym, ap, ap₂, ◌∙◌, arith, inl, inr}
use Rattle.std.proofs.Math.Nat.{mod-eq_of_lt, add-mod_left, add-mod_right}
use Rattle.std.proofs.lemmas.Bool.{cases_lt, false_from_ne_true, lt-leb, le-leb, le-ltb, lt-ltb, and_right, and_left, and_parts, ltb-true}
use Rattle.std.proofs.lemmas.Nat.{pow_pos, mod_below}
use Rattle.sn_width.specs.Width.{wrapped_sum}
use Rattle.sn_ranges.specs.Ranges.{Range, RangeSet, is_member}
use Rattle.sn_ranges.proofs.RangesLemmas.{or-false, last_start-bounded}
use Rattle.sn_ranges.proofs.ranges.Ranges.shift.Goals as goal

-- ranges of numbers below `end`, raised by `c` modulo `end`
module _ (rs : List Range) (end c room : ℕ) (fits : (v : ℕ) → is_member rs v ≡ true → v < end) (small : c < end) (is : room + c + 1 ≡ end) where
  outside : (v : ℕ) → end ≤ v → is_member rs v ≡ false
  outside v le = false_from_ne_true _ (λ t. absurd (omega (arith, fits v t)))

  wrapped_only : (v : ℕ) → v < c → (is_member rs (v + (room + 1)) || (nat_le c v && (nat_le v (room + c) && is_member rs (v - c)))) ≡ (nat_lt v end && is_member rs ((v + (end - c)) % end))
  wrapped_only v lt =
      let below : v + (end - c) < end = omega arith in
      let place : v + (room + 1) ≡ (v + (end - c)) % end = omega arith ∙ sym (mod-eq_of_lt below) in
      ap₂ (λ a b. is_member rs a || (b && (nat_le v (room + c) && is_member rs (v - c)))) place (lt-leb _ _ lt)
      ∙ or-false _ ∙ sym (ap (λ b. b && is_member rs ((v + (end - c)) % end)) (lt-ltb v end (omega arith)))

  raised_only : (v : ℕ) → c ≤ v → v < end → (is_member rs (v + (room + 1)) || (nat_le c v && (nat_le v (room + c) && is_member rs (v - c)))) ≡ (nat_lt v end && is_member rs ((v + (end - c)) % end))
  raised_only v le lt =
      let turn : v + (end - c) ≡ end + (v - c) = omega arith in
      let below : v - c < end = omega arith in
      let place : v - c ≡ (v + (end - c)) % end = sym (ap (λ n. n % end) turn ∙ add-mod_left end (v - c) ∙ mod-eq_of_lt below) in
      ap (λ b. b || (nat_le c v && (nat_le v (room + c) && is_member rs (v - c)))) (outside (v + (room + 1)) (omega arith))
      ∙ ap₂ (λ a b. a && (b && is_member rs (v - c))) (le-leb c v le) (le-leb v (room + c) (omega arith))
      ∙ ap (is_member rs) place
      ∙ sym (ap (λ b. b && is_member rs ((v + (end - c)) % end)) (lt-ltb v end lt))

  neither_past : (v : ℕ) → end ≤ v → (is_member rs (v + (room + 1)) || (nat_le c v && (nat_le v (room + c) && is_member rs (v - c)))) ≡ (nat_lt v end && is_member rs ((v + (end - c)) % end))
  neither_past v le =
      ap₂ ◌||◌ (outside (v + (room + 1)) (omega arith)) (and_right (nat_le c v) _ (and_left _ (is_member rs (v - c)) (lt-leb v (room + c) (omega arith))))
      ∙ sym (ap (λ b. b && is_member rs ((v + (end - c)) % end)) (le-ltb v end le))

  shifted : (v : ℕ) → (is_member rs (v + (room + 1)) || (nat_le c v && (nat_le v (room + c) && is_member rs (v - c)))) ≡ (nat_lt v end && is_member rs ((v + (end - c)) % end))
  shifted v = elim (cases_lt v c) [
    | inl lt ↦ wrapped_only v lt
    | inr le ↦ elim (cases_lt v end) [ inl lt ↦ raised_only v le lt | inr past ↦ neither_past v past ]
  ]

-- raising and then lowering by `c` leaves a number where it was
turned_back : (end c v : ℕ) → c < end → v < end → ((v + c) % end + (end - c)) % end ≡ v
turned_back end c v small lt = elim (cases_lt (v + c) end) [
  | inl below ↦
      let turn : v + c + (end - c) ≡ v + end = omega arith in
      ap (λ n. (n + (end - c)) % end) (mod-eq_of_lt below) ∙ ap (λ n. n % end) turn ∙ add-mod_right v end ∙ mod-eq_of_lt lt
  | inr past ↦
      let turn : v + c ≡ end + (v + c - end) = omega arith in
      let rest : v + c - end < end = omega arith in
      let low : (v + c) % end ≡ v + c - end = ap (λ n. n % end) turn ∙ add-mod_left end (v + c - end) ∙ mod-eq_of_lt rest in
      let back : v + c - end + (end - c) ≡ v = omega arith in
      ap (λ n. (n + (end - c)) % end) low ∙ ap (λ n. n % end) back ∙ mod-eq_of_lt lt
]

pub append_raised-requires-clause-below : goal.append_raised-requires-clause-below
append_raised-requires-clause-below c =
    let rs = c.self.inside.ranges.items in
    let room = c.max.result - c.args.c in
    let same_width : c.self.inside.width ≡ c.args.self.now.width = ap (λ (s : RangeSet). s.width) c.self.view_is in
    let small : c.args.c < 2 ^ c.self.inside.width = rw same_width c.requires in
    last_start-bounded 0 0 _ c.args.c (omega arith) c.in_ok-ranges.ensures.ascending (λ v t.
    let member : is_member rs (v + (room + 1)) ≡ true = ap (λ l. is_member l (v + (room + 1))) (sym c.deref.ensures.value) ∙ sym (c.in_ok-ranges.ensures.members v) ∙ t in
    omega (arith, c.self.invariant.fits _ member, c.max.ensures.value))

pub returns-clause-set : goal.returns-clause-set
returns-clause-set c =
    let rs = c.self.inside.ranges.items in
    let w = c.self.inside.width in
    let room = c.max.result - c.args.c in
    let same_width : w ≡ c.args.self.now.width = ap (λ (s : RangeSet). s.width) c.self.view_is in
    let small : c.args.c < 2 ^ w = rw same_width c.requires in
    let is : room + c.args.c + 1 ≡ 2 ^ w = omega (arith, c.max.ensures.value) in
    let members : (v : ℕ) → is_member c.append_raised.new.shifted.items v ≡ (nat_lt v (2 ^ w) && is_member rs ((v + (2 ^ w - c.args.c)) % 2 ^ w)) =
    λ v. c.in_ok-append_raised.ensures.members v
    ∙ ap₂ (λ a (l : List Range). a || (nat_le c.args.c v && (nat_le v (room + c.args.c) && is_member l (v - c.args.c))))
    (c.in_ok-ranges.ensures.members v ∙ ap (λ l. is_member l (v + (room + 1))) c.deref.ensures.value)
    c.deref-2.ensures.value
    ∙ shifted rs (2 ^ w) c.args.c room c.self.invariant.fits small is v in
    rw (← c.self.view_is) (record {
      same_width = refl;
      canonical = record {
        ascending = c.in_ok-append_raised.ensures.ascending;
        fits = λ v t. ltb-true v (2 ^ w) (and_parts _ _ (sym (members v) ∙ t)).0;
      };
      members = members;
    })

pub returns-clause-moved : goal.returns-clause-moved
returns-clause-moved c =
    let set = returns-clause-set c in
    let end = 2 ^ c.args.self.now.width in
    λ v fit. set.members (wrapped_sum c.args.self.now.width v c.args.c)
    ∙ ap₂ (λ a b. a && is_member c.args.self.now.pairs b)
    (lt-ltb ((v + c.args.c) % end) end (mod_below (v + c.args.c) end (pow_pos c.args.self.now.width)))
    (turned_back end c.args.c v c.requires fit)
