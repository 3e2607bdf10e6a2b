-- Ports, and lists that are searched for one.
use Rattle.std.proofs.Common.{◌≡◌, ◌∙◌, ℕ, zero, suc, ◌+◌, ◌-◌, ◌<◌, Bool, true, false, ◌==◌, ◌&&◌, true≢false, List, [], ◌∷◌, length, drop, get_or, slice_get, refl, sym, ap, subst, Option, Some, arith, if◌then◌else◌}
use Rattle.std.proofs.lemmas.Bool.Decides.{nat_tests}
use Rattle.std.proofs.lemmas.List.{drop_more}
use Rattle.std.proofs.lemmas.Map.Views.{exact_unsigned_eq}
use Rattle.sefl_syntax.specs.declared.net.Side.{Side}
use Rattle.sefl_syntax.specs.declared.net.Side.TheVariants.{Inward, Outward}
use Rattle.sefl_meaning.specs.declared.walk.Place.{Place}
use Rattle.path_questions.specs.Questions.{same_place, same_side}
use Rattle.queries.specs.declared.states.Stop.{Stop}
use Rattle.queries.specs.Paths.{ends_with, has_place, noted_at}

-- ---- the same port

same_number : (n : ℕ) → (n == n) ≡ true
same_number n = grind (arith, nat_tests)

side_itself : (s : Side) → same_side s s ≡ true
side_itself Inward = refl
side_itself Outward = refl

same_sides : (a b : Side) → same_side a b ≡ true → a ≡ b
same_sides Inward Inward e = refl
same_sides Inward Outward e = absurd (true≢false (sym e))
same_sides Outward Inward e = absurd (true≢false (sym e))
same_sides Outward Outward e = refl

left_of : (a b : Bool) → (a && b) ≡ true → a ≡ true
left_of true b h = refl
left_of false b h = h

right_of : (a b : Bool) → (a && b) ≡ true → b ≡ true
right_of true b h = h
right_of false b h = cc

place_itself : (p : Place) → same_place p p ≡ true
place_itself p = λ j. same_number p.node.0 j && (side_itself p.side j && same_number p.port j)

pub is_same : (a b : Place) → a ≡ b → same_place a b ≡ true
is_same a b e = subst (λ p. same_place a p ≡ true) e (place_itself a)

pub same_is : (a b : Place) → same_place a b ≡ true → a ≡ b
same_is a b h =
    let nodes : a.node.0 ≡ b.node.0 = exact_unsigned_eq a.node.0 b.node.0 (left_of (a.node.0 == b.node.0) (same_side a.side b.side && (a.port == b.port)) h) in
    let rest = right_of (a.node.0 == b.node.0) (same_side a.side b.side && (a.port == b.port)) h in
    let sides = same_sides a.side b.side (left_of (same_side a.side b.side) (a.port == b.port) rest) in
    let ports : a.port ≡ b.port = exact_unsigned_eq a.port b.port (right_of (same_side a.side b.side) (a.port == b.port) rest) in
    λ j. record { node = record { 0 = nodes j }; side = sides j; port = ports j }

-- ---- tests

pub then_false : (b c : Bool) → (if b then true else c) ≡ false → b ≡ false
then_false true c e = absurd (true≢false e)
then_false false c e = refl

pub else_false : (b c : Bool) → (if b then true else c) ≡ false → c ≡ false
else_false true c e = absurd (true≢false e)
else_false false c e = e

pub by_test : {A P : Type 0} (b : Bool) (x y : Option A) (z : A) → (if b then x else y) ≡ Some z → (b ≡ true → x ≡ Some z → P) → (b ≡ false → y ≡ Some z → P) → P
by_test true x y z e f g = f refl e
by_test false x y z e f g = g refl e

pub not_true : (b : Bool) → (b ≡ true → ⊥) → b ≡ false
not_true true h = absurd (h refl)
not_true false h = refl

then_is : {A : Type 0} (b : Bool) (x y : A) → b ≡ true → (if b then x else y) ≡ x
then_is true x y e = refl
then_is false x y e = absurd (true≢false (sym e))

else_is : {A : Type 0} (b : Bool) (x y : A) → b ≡ false → (if b then x else y) ≡ y
else_is true x y e = absurd (true≢false e)
else_is false x y e = refl

-- ---- the next of a list

next_is : {A : Type 0} (xs : List A) (n : ℕ) (x : A) → n < length xs → x ≡ get_or xs n x → drop n xs ≡ x ∷ drop (n + 1) xs
next_is xs n x less is = drop_more xs n x less ∙ ap (λ y. y ∷ drop (n + 1) xs) (sym is)

module _ (place : Place) (places : List Place) (n : ℕ) (p : Place) (less : n < length places) (is : p ≡ get_or places n p) where
  next_place : has_place place (drop n places) ≡ (if same_place place p then true else has_place place (drop (n + 1) places))
  next_place = ap (has_place place) (next_is places n p less is)

  pub has_here : p ≡ place → has_place place (drop n places) ≡ true
  has_here e = next_place ∙ then_is (same_place place p) true (has_place place (drop (n + 1) places)) (is_same place p (sym e))

  pub has_on : (p ≡ place → ⊥) → has_place place (drop n places) ≡ has_place place (drop (n + 1) places)
  has_on other =
      next_place
      ∙ else_is (same_place place p) true (has_place place (drop (n + 1) places)) (not_true (same_place place p) (λ e. other (sym (same_is place p e))))

module _ (place : Place) (stops : List Stop) (n : ℕ) (s : Stop) (less : n < length stops) (is : s ≡ get_or stops n s) where
  next_stop : noted_at place (drop n stops) ≡ (if same_place place s.place then Some s.states.items else noted_at place (drop (n + 1) stops))
  next_stop = ap (noted_at place) (next_is stops n s less is)

  pub noted_here : s.place ≡ place → noted_at place (drop n stops) ≡ Some s.states.items
  noted_here e =
      next_stop ∙ then_is (same_place place s.place) (Some s.states.items) (noted_at place (drop (n + 1) stops)) (is_same place s.place (sym e))

  pub noted_on : (s.place ≡ place → ⊥) → noted_at place (drop n stops) ≡ noted_at place (drop (n + 1) stops)
  noted_on other =
      next_stop
      ∙ else_is (same_place place s.place) (Some s.states.items) (noted_at place (drop (n + 1) stops))
      (not_true (same_place place s.place) (λ e. other (sym (same_is place s.place e))))

-- ---- by any value for places past the end

abbrev pub no_place : Place
no_place = record { node = record { 0 = 0 }; side = Inward; port = 0 }

pub in_range : {A : Type 0} (xs : List A) (n : ℕ) (a b : A) → n < length xs → get_or xs n a ≡ get_or xs n b
in_range [] n a b less = let bad : ⊥ = omega (arith, less) in absurd bad
in_range (x ∷ xs) zero a b less = refl
in_range (x ∷ xs) (suc n) a b less = in_range xs n a b (let below : n < length xs = omega (arith, less) in below)

-- ---- the last of a list

module _ (place : Place) where
  ends_last : (xs : List Place) (p : Place) (n : ℕ) → suc n ≡ length xs → slice_get xs n ≡ Some p → ends_with place xs ≡ same_place place p
  ends_last [] p n e h = let bad : ⊥ = omega (arith, e) in absurd bad
  ends_last (x ∷ []) p zero e h = ap (same_place place) (let same : x ≡ p = cc h in same)
  ends_last (x ∷ []) p (suc n) e h = let bad : ⊥ = omega (arith, e) in absurd bad
  ends_last (x ∷ y ∷ xs) p zero e h = let bad : ⊥ = omega (arith, e) in absurd bad
  ends_last (x ∷ y ∷ xs) p (suc n) e h = ends_last (y ∷ xs) p n (let less : suc n ≡ length (y ∷ xs) = omega (arith, e) in less) h

  last_of : (xs : List Place) (p : Place) → slice_get xs (length xs - 1) ≡ Some p → (n : ℕ) × (suc n ≡ length xs) × (slice_get xs n ≡ Some p)
  last_of [] p h = absurd (let bad : ⊥ = cc h in bad)
  last_of (x ∷ xs) p h = (length xs, refl, (ap (slice_get (x ∷ xs)) (let less : length xs ≡ length (x ∷ xs) - 1 = omega arith in less)) ∙ h)

  pub ends_here : (xs : List Place) (p : Place) → slice_get xs (length xs - 1) ≡ Some p → p ≡ place → ends_with place xs ≡ true
  ends_here xs p h e = let l = last_of xs p h in ends_last xs p l.0 l.1 l.2 ∙ is_same place p (sym e)

  pub ends_elsewhere : (xs : List Place) (p : Place) → slice_get xs (length xs - 1) ≡ Some p → (p ≡ place → ⊥) → ends_with place xs ≡ false
  ends_elsewhere xs p h other =
      let l = last_of xs p h in
      ends_last xs p l.0 l.1 l.2 ∙ not_true (same_place place p) (λ e. other (sym (same_is place p e)))
