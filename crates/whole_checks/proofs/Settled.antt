-- How many of the decisions of a record have later ones beside them.
use Rattle.std.proofs.Common.{◌≡◌, ◌∙◌, ◌↔◌, ◌<◌, ◌≤◌, ◌+◌, ◌-◌, inl, inr, ℕ, zero, suc, List, [], ◌∷◌, ◌++◌, length, take, get_or, map, refl, sym, ap, subst, append_assoc, arith, Option, None, Some, option_map}
use Rattle.std.proofs.lemmas.List.{length-append, length-map}
use Rattle.sefl_meaning.specs.declared.walk.Decision.{Decision}
use Rattle.sefl_meaning.specs.declared.walk.Decision.TheVariants.{Then, Else, Pass, Broken, Copy}
use Rattle.sefl_meaning.specs.Order.{Has, rank}
use Rattle.sefl_meaning.specs.Routes.{IsOpen, offers, route}
use Rattle.exact_records.specs.Records.{SymRoute, SymStart, SymTree}
use Rattle.exact_records.proofs.Lists.{append_nil, last_of, same_first, same_rest, snoc_same}
use Rattle.record_checks.specs.Stops.{LeadsTo, Stop}
use Rattle.record_checks.specs.Trails.{AreLed, IsTrail, decisions_of, last_stop, taken}
use Rattle.record_checks.specs.declared.trail.Step.{Step}
use Rattle.record_checks.specs.declared.trail.Trail.{Trail}
use Rattle.record_checks.proofs.Leading.{led_take}
use Rattle.whole_checks.specs.Chains.{AllLast, IsLast, IsNext, base}
use Rattle.whole_checks.specs.Settling.{IsSettled}
use Rattle.whole_checks.proofs.Chained.{least_there}
use Rattle.whole_checks.proofs.Offers.{broken_offered, else_offered, one_place}

-- ---- the last of what is offered

module _ (s : SymStart) (prefix : (t : SymTree) (ds es : List Decision) → IsOpen t (ds ++ es) → IsOpen t ds)
    (more : (t : SymTree) (ds : List Decision) (d : Decision) (r : SymRoute) → route t ds ≡ Some r → (IsOpen t (ds ++ d ∷ []) ↔ Has (offers r.left) d))
    (p : List Decision) where
  pub else_last : IsOpen s.tree (p ++ Else ∷ []) → IsLast s p Else
  else_last h = λ d next k.
      let same : d ≡ Pass = one_place d Pass next in
      let low : 2 ≤ 1 = subst (λ (x : Decision). base x ≤ 1) same (least_there s prefix more p d Else k h) in
      omega (arith, low)

  pub broken_last : IsOpen s.tree (p ++ Broken ∷ []) → IsLast s p Broken
  broken_last h = λ d next k.
      let places : rank d ≡ rank (Copy 0) = omega (arith, next) in
      let same : d ≡ Copy 0 = one_place d (Copy 0) places in
      let low : 4 ≤ 3 = subst (λ (x : Decision). base x ≤ 3) same (least_there s prefix more p d Broken k h) in
      omega (arith, low)

  pub then_later : IsOpen s.tree (p ++ Then ∷ []) → IsLast s p Then → ⊥
  then_later h last =
      let way = prefix s.tree p (Then ∷ []) h in
      last Else refl ((more s.tree p Else way.0 way.1).1 (else_offered way.0.left ((more s.tree p Then way.0 way.1).0 h)))

  pub pass_later : IsOpen s.tree (p ++ Pass ∷ []) → IsLast s p Pass → ⊥
  pass_later h last =
      let way = prefix s.tree p (Pass ∷ []) h in
      last Broken refl ((more s.tree p Broken way.0 way.1).1 (broken_offered way.0.left ((more s.tree p Pass way.0 way.1).0 h)))

module _ (s : SymStart) (p : List Decision) (number next : ℕ) (is : next ≡ number + 1) where
  pub copy_last : (IsOpen s.tree (p ++ Copy next ∷ []) → ⊥) → IsLast s p (Copy number)
  copy_last closed = λ d e k.
      let places : rank d ≡ rank (Copy next) = omega (arith, e, is) in
      closed (subst (λ (x : Decision). IsOpen s.tree (p ++ x ∷ [])) (one_place d (Copy next) places) k)

  pub copy_later : IsOpen s.tree (p ++ Copy next ∷ []) → IsLast s p (Copy number) → ⊥
  copy_later h last = let e : rank (Copy next) ≡ suc (rank (Copy number)) = omega (arith, is) in last (Copy next) e h

-- ---- stops of a trail

module _ {S : Type 0} where
  pub stop_there : (first : S) (xs : List (Step S)) (n place : ℕ) (step : Step S) → place ≡ n + 1 → n < length xs → step ≡ get_or xs n step → last_stop first (take place xs) ≡ step.stop
  stop_there first xs n place step is less at = let more : place ≡ suc n = omega (arith, is) in ap (λ m. last_stop first (take m xs)) more ∙ by first xs n less at
    where
      by : (first : S) (xs : List (Step S)) (n : ℕ) → n < length xs → step ≡ get_or xs n step → last_stop first (take (suc n) xs) ≡ step.stop
      by first [] n less at = absurd (omega (arith, less))
      by first (x ∷ xs) zero less at = ap (λ (y : Step S). y.stop) (sym at)
      by first (x ∷ xs) (suc n) less at = by x.stop xs n (omega (arith, less)) at

  taken_take : (xs : List (Step S)) (n : ℕ) → taken (take n xs) ≡ take n (taken xs)
  taken_take xs zero = refl
  taken_take [] (suc n) = refl
  taken_take (x ∷ xs) (suc n) = ap (λ zs. x.decision ∷ zs) (taken_take xs n)

  -- steps lead to the stop behind the last of them
  steps_led : (s : SymStart) (seen : S → Stop) (ds : List Decision) (first : S) (xs : List (Step S)) → LeadsTo s ds (seen first) → AreLed s seen ds xs
      → LeadsTo s (ds ++ taken xs) (seen (last_stop first xs))
  steps_led s seen ds first [] l h = subst (λ es. LeadsTo s es (seen first)) (sym (append_nil ds)) l
  steps_led s seen ds first (x ∷ xs) l h =
      subst (λ es. LeadsTo s es (seen (last_stop x.stop xs))) (append_assoc ds (x.decision ∷ []) (taken xs)) (steps_led s seen (ds ++ x.decision ∷ []) x.stop xs h.0 h.1)

  led_there : (s : SymStart) (seen : S → Stop) (trail : Trail S) → IsTrail s seen trail → (place : ℕ)
      → LeadsTo s (take place (taken trail.steps.items)) (seen (last_stop trail.first (take place trail.steps.items)))
  led_there s seen trail h place =
      subst (λ ds. LeadsTo s ds (seen (last_stop trail.first (take place trail.steps.items)))) (taken_take trail.steps.items place)
      (steps_led s seen [] trail.first (take place trail.steps.items) h.first (led_take s seen [] place trail.steps.items h.steps))

front_is : {A : Type 0} (xs us p vs : List A) → xs ++ us ≡ p ++ vs → length p ≤ length xs → take (length p) xs ≡ p
front_is xs us [] vs e less = refl
front_is [] us (y ∷ p) vs e less = absurd (omega (arith, less))
front_is (x ∷ xs) us (y ∷ p) vs e less = λ i. same_first e i ∷ front_is xs us p vs (same_rest e) (omega (arith, less)) i

-- ---- from the last decision on

-- all behind the first ones, as many as this, are the last that are offered
pub record IsClosed (s : SymStart) (ds : List Decision) (count : ℕ) : Type 0 where
  pub front : List Decision
  pub back : List Decision
  pub is : ds ≡ front ++ back
  pub counted : length front ≡ count
  pub last : AllLast s front back

-- a place in the decisions, with what stands before it and behind it
pub record Placed (ds front back : List Decision) (count : ℕ) (d : Decision) : Type 0 where
  pub before : List Decision
  pub is : ds ≡ before ++ d ∷ back
  pub counted : length before ≡ count - 1
  pub last : front ≡ before ++ d ∷ []

got : {A : Type 0} (p : List A) (x d : A) (rest : List A) (n : ℕ) → length p ≡ n → get_or (p ++ x ∷ rest) n d ≡ x
got [] x d rest zero e = refl
got [] x d rest (suc n) e = absurd (omega (arith, e))
got (y ∷ p) x d rest zero e = absurd (omega (arith, e))
got (y ∷ p) x d rest (suc n) e = got p x d rest n (omega (arith, e))

module _ (s : SymStart) (ds : List Decision) where
  pub all_closed : IsClosed s ds (length ds)
  all_closed = record { front = ds; back = []; is = sym (append_nil ds); counted = refl; last = tt }

  pub none_open : ds ≡ [] → IsSettled s ds 0
  none_open e = record { front = []; back = []; is = e; counted = refl; last = tt; more = λ p c is. absurd (never p c is) }
    where
      never : (p : List Decision) (c : Decision) → [] ≡ p ++ c ∷ [] → ⊥
      never [] c e = cc
      never (x ∷ p) c e = let bad : [] ≡ x ∷ (p ++ c ∷ []) = e in cc

  pub closed_settled : (count : ℕ) → IsClosed s ds count → count ≡ 0 → IsSettled s ds 0
  closed_settled count h none = by h.front refl
    where
      never : (p : List Decision) (c : Decision) → [] ≡ p ++ c ∷ [] → ⊥
      never [] c e = cc
      never (x ∷ p) c e = let bad : [] ≡ x ∷ (p ++ c ∷ []) = e in cc

      by : (front : List Decision) → front ≡ h.front → IsSettled s ds 0
      by [] is = record {
        front = [];
        back = h.back;
        is = h.is ∙ ap (λ zs. zs ++ h.back) (sym is);
        counted = refl;
        last = subst (λ q. AllLast s q h.back) (sym is) h.last;
        more = λ p c e. absurd (never p c e);
      }
      by (x ∷ front) is = absurd (let long : length (x ∷ front) ≡ count = ap length is ∙ h.counted in omega (arith, long, none))

  module _ (count : ℕ) (some : 0 < count) (h : IsClosed s ds count) (d : Decision) (at : d ≡ get_or ds (count - 1) d) where
    pub placed : Placed ds h.front h.back count d
    placed =
        elim (last_of h.front) [
          | inl none ↦ absurd (let long : length h.front ≡ 0 = ap length none in let c = h.counted in omega (arith, long, c, some))
          | inr y ↦
              let long : length h.front ≡ length y.0 + 1 = ap length y.2 ∙ length-append y.0 (y.1 ∷ []) in
              let short : length y.0 ≡ count - 1 = let c = h.counted in omega (arith, long, c) in
              let whole : ds ≡ y.0 ++ y.1 ∷ h.back = h.is ∙ (ap (λ zs. zs ++ h.back) y.2 ∙ append_assoc y.0 (y.1 ∷ []) h.back) in
              let same : y.1 ≡ d = sym (at ∙ (ap (λ zs. get_or zs (count - 1) d) whole ∙ got y.0 y.1 d h.back (count - 1) short)) in
              record {
                before = y.0;
                is = whole ∙ ap (λ (z : Decision). y.0 ++ z ∷ h.back) same;
                counted = short;
                last = y.2 ∙ ap (λ (z : Decision). y.0 ++ z ∷ []) same;
              }
        ]

    pub one_closed : IsLast s placed.before d → (left : ℕ) → left ≡ count - 1 → IsClosed s ds left
    one_closed last left is = record {
      front = placed.before;
      back = d ∷ h.back;
      is = placed.is;
      counted = placed.counted ∙ sym is;
      last = (last, subst (λ q. AllLast s q h.back) placed.last h.last);
    }

    pub one_open : (IsLast s placed.before d → ⊥) → IsSettled s ds count
    one_open not_last = record {
      front = h.front;
      back = h.back;
      is = h.is;
      counted = h.counted;
      last = h.last;
      more = λ p c e last.
          let whole : placed.before ++ d ∷ [] ≡ p ++ c ∷ [] = sym placed.last ∙ e in
          let fronts : placed.before ≡ p = snoc_same placed.before p d c whole in
          let same : d ≡ c = one_end placed.before p d c fronts whole in
          not_last (subst (λ q. IsLast s q d) (sym fronts) (subst (λ (z : Decision). IsLast s p z) (sym same) last));
    }
      where
        heads : (p : List Decision) (c d : Decision) → p ++ c ∷ [] ≡ p ++ d ∷ [] → c ≡ d
        heads [] c d e = same_first e
        heads (x ∷ p) c d e = heads p c d (same_rest e)

        one_end : (p q : List Decision) (c d : Decision) → p ≡ q → p ++ c ∷ [] ≡ q ++ d ∷ [] → c ≡ d
        one_end p q c d same e = heads p c d (e ∙ ap (λ zs. zs ++ d ∷ []) (sym same))

    -- what leads to the stop before it
    pub stop_led : {S : Type 0} (seen : S → Stop) (trail : Trail S) → IsTrail s seen trail → (z : Decision) → decisions_of trail ++ z ∷ [] ≡ ds
        → LeadsTo s placed.before (seen (last_stop trail.first (take (count - 1) trail.steps.items)))
    stop_led seen trail led z along =
        let xs = decisions_of trail in
        let whole : xs ++ z ∷ [] ≡ placed.before ++ d ∷ h.back = along ∙ placed.is in
        let one : length (xs ++ z ∷ []) ≡ length xs + 1 = length-append xs (z ∷ []) in
        let two : length (placed.before ++ d ∷ h.back) ≡ length placed.before + suc (length h.back) = length-append placed.before (d ∷ h.back) in
        let both : length (xs ++ z ∷ []) ≡ length (placed.before ++ d ∷ h.back) = ap length whole in
        let short : length placed.before ≤ length xs = omega (arith, one, two, both) in
        let same : take (count - 1) xs ≡ placed.before = ap (λ n. take n xs) (sym placed.counted) ∙ front_is xs (z ∷ []) placed.before (d ∷ h.back) whole short in
        subst (λ q. LeadsTo s q (seen (last_stop trail.first (take (count - 1) trail.steps.items)))) same (led_there s seen trail led (count - 1))

    pub within_steps : {S : Type 0} (trail : Trail S) (z : Decision) → decisions_of trail ++ z ∷ [] ≡ ds → count - 1 ≤ length trail.steps.items
    within_steps trail z along =
        let xs = decisions_of trail in
        let whole : xs ++ z ∷ [] ≡ placed.before ++ d ∷ h.back = along ∙ placed.is in
        let one : length (xs ++ z ∷ []) ≡ length xs + 1 = length-append xs (z ∷ []) in
        let two : length (placed.before ++ d ∷ h.back) ≡ length placed.before + suc (length h.back) = length-append placed.before (d ∷ h.back) in
        let both : length (xs ++ z ∷ []) ≡ length (placed.before ++ d ∷ h.back) = ap length whole in
        let steps : length xs ≡ length trail.steps.items = length-map trail.steps.items (λ (step : Step _). step.decision) in
        let c = placed.counted in
        omega (arith, one, two, both, steps, c)

  -- a part of open decisions is open
  pub part_open : (prefix : (t : SymTree) (ds es : List Decision) → IsOpen t (ds ++ es) → IsOpen t ds) → IsOpen s.tree ds → (p back : List Decision) (d : Decision) → ds ≡ p ++ d ∷ back
      → IsOpen s.tree (p ++ d ∷ [])
  part_open prefix h p back d is = prefix s.tree (p ++ d ∷ []) back (subst (IsOpen s.tree) (is ∙ sym (append_assoc p (d ∷ []) back)) h)
