-- Bounds from below that the cases of a choice imply.
use Rattle.std.proofs.Common.{◌≡◌, ℕ, zero, suc, ◌+◌, ◌<◌, ◌≤◌, ℤ, pos, Bool, true, false, cond, eqb, eq-eqb, eqb-true, List, [], ◌∷◌, ◌++◌, Option, Some, None, inl, inr, length, get_or, drop, arith, refl, ap, sym, subst, ◌∙◌}
use Rattle.std.specs.Prelude.{All, ◌≤ℤ◌, ◌+ℤ◌, neg_ℤ, ◌^◌}
use Rattle.std.specs.Int.{int_max}
use Rattle.std.specs.Option.{option_and_then}
use Rattle.std.proofs.lemmas.Int.{ints}
use Rattle.std.proofs.lemmas.Option.{none-some, same_Some}
use Rattle.std.proofs.lemmas.Bool.{cases_lt}
use Rattle.std.proofs.lemmas.List.{map-append, length-map, drop_more}
use Rattle.std.proofs.lemmas.List.Elements.{All-head, All-tail}
use Rattle.difference_solver.specs.declared.bound.Bound.{Bound}
use Rattle.difference_solver.specs.Bound.{Meets, number, IsInRange}
use Rattle.difference_solver.specs.Choices.{Case, lists_of, cases_of, cases_at, MeetsOne, AreInRange, HasBelow, EachHasBelow, OneHasBelow}
use Rattle.difference_solver.specs.Floors.{is_below, below_of, weakest, floor_bound, bound_of, bounds_of, IsFloor}
use Rattle.difference_solver.specs.declared.choice.Choice.{Choice}
use Rattle.difference_solver.specs.declared.floors.Floor.{Floor}
use Rattle.difference_solver.proofs.Meeting.{each_at, has_below_left, has_below_right}
use Rattle.difference_solver.proofs.Passing.{two}
use Rattle.difference_solver.proofs.Solving.{cases_there}

below_is : (u : ℕ) (b : Bound) → is_below u b ≡ true → (b.plus ≡ 0) × (b.minus ≡ u)
below_is u b h =
    let both = two (eqb b.plus 0) (eqb b.minus u) h in
    (eqb-true b.plus 0 both.0, eqb-true b.minus u both.1)

-- what is said of the bound that is found
record IsOne (count u : ℕ) (case : Case) (number : ℤ) : Type 0 where
  pub met : (w : List ℤ) → All (Meets w) case → Meets w (floor_bound u number)
  pub in_range : All (IsInRange count) case → IsInRange count (floor_bound u number)

one_here : (count u : ℕ) (b : Bound) (case : Case) → is_below u b ≡ true → IsOne count u (b ∷ case) b.at_most
one_here count u b case is =
    let both = below_is u b is in
    let same : b ≡ floor_bound u b.at_most = λ i. record { plus = both.0 i; minus = both.1 i; at_most = b.at_most } in
    record {
      met = λ w all. subst (λ (x : Bound). Meets w x) same (All-head (Meets w) b case all);
      in_range = λ all. subst (λ (x : Bound). IsInRange count x) same (All-head (IsInRange count) b case all);
    }

one_by : (count u : ℕ) (b : Bound) (case : Case) (number : ℤ) (t : Bool) → is_below u b ≡ t → cond t (Some b.at_most) (below_of u case) ≡ Some number → (below_of u case ≡ Some number → IsOne count u case number) → IsOne count u (b ∷ case) number
one_by count u b case number true is found later =
    subst (λ (z : ℤ). IsOne count u (b ∷ case) z) (same_Some b.at_most number found) (one_here count u b case is)
one_by count u b case number false is found later =
    let r = later found in
    record { met = λ w all. r.met w (All-tail (Meets w) b case all); in_range = λ all. r.in_range (All-tail (IsInRange count) b case all) }

one_of : (count u : ℕ) (case : Case) (number : ℤ) → below_of u case ≡ Some number → IsOne count u case number
one_of count u [] number found = absurd (none-some number found)
one_of count u (b ∷ case) number found = one_by count u b case number (is_below u b) refl found (one_of count u case number)

grows : (a b : ℤ) → a ≤ℤ int_max a b
grows a b = grind (arith, ints)

grows_too : (a b : ℤ) → b ≤ℤ int_max a b
grows_too a b = grind (arith, ints)

stays_below : (a b c : ℤ) → a ≤ℤ c → b ≤ℤ c → int_max a b ≤ℤ c
stays_below a b c h g = grind (arith, ints)

-- what is said of the weakest bound
record IsWeakest (count u : ℕ) (most : ℤ) (cases : List Case) (number : ℤ) : Type 0 where
  pub grown : most ≤ℤ number
  pub met : (w : List ℤ) → MeetsOne w cases → Meets w (floor_bound u number)
  pub at_most : All (All (IsInRange count)) cases → most ≤ℤ pos (2 ^ 66) → number ≤ℤ pos (2 ^ 66)

weaker : (w : List ℤ) (u : ℕ) (a b : ℤ) → a ≤ℤ b → Meets w (floor_bound u a) → Meets w (floor_bound u b)
weaker w u a b le h = weaker_by (number w 0) (number w u) a b le h
  where
    weaker_by : (x y a b : ℤ) → a ≤ℤ b → x ≤ℤ (y +ℤ a) → x ≤ℤ (y +ℤ b)
    weaker_by x y a b le h = omega (arith, ints)

weakest_by : (count u : ℕ) (most : ℤ) (case : Case) (cases : List Case) (found : ℤ) (o : Option ℤ) → below_of u case ≡ o → option_and_then (λ (number : ℤ). weakest u (int_max most number) cases) o ≡ Some found → ((next : ℤ) → weakest u next cases ≡ Some found → IsWeakest count u next cases found) → IsWeakest count u most (case ∷ cases) found
weakest_by count u most case cases found None is e later = absurd (none-some found e)
weakest_by count u most case cases found (Some a) is e later =
    let one : IsOne count u case a = one_of count u case a is in
    let r : IsWeakest count u (int_max most a) cases found = later (int_max most a) e in
    let up : most ≤ℤ int_max most a = grows most a in
    let over : a ≤ℤ int_max most a = grows_too most a in
    let top : int_max most a ≤ℤ found = r.grown in
    let first : most ≤ℤ found = omega (arith, ints) in
    let second : a ≤ℤ found = omega (arith, ints) in
    record {
      grown = first;
      met = λ w m. elim m [ inl all ↦ weaker w u a found second (one.met w all) | inr other ↦ r.met w other ];
      at_most = λ ranges le.
          let here = one.in_range (All-head (All (IsInRange count)) case cases ranges) in
          r.at_most (All-tail (All (IsInRange count)) case cases ranges) (stays_below most a (pos (2 ^ 66)) le here.at_most);
    }

weakest_of : (count u : ℕ) (most : ℤ) (cases : List Case) (found : ℤ) → weakest u most cases ≡ Some found → IsWeakest count u most cases found
weakest_of count u most [] found e =
    let same : most ≡ found = same_Some most found e in
    record { grown = omega (arith, ints); met = λ w m. absurd m; at_most = λ ranges le. subst (λ (z : ℤ). z ≤ℤ pos (2 ^ 66)) same le }
weakest_of count u most (case ∷ cases) found e =
    weakest_by count u most case cases found (below_of u case) refl e (λ next. weakest_of count u next cases found)

later_none : (b : Bool) (x : ℤ) (o : Option ℤ) → b ≡ true → cond b (Some x) o ≡ None → ⊥
later_none true x o is e = none-some x (sym e)
later_none false x o is e = absurd (cc)

tail_none : (b : Bool) (x : ℤ) (o : Option ℤ) → cond b (Some x) o ≡ None → o ≡ None
tail_none true x o e = absurd (none-some x (sym e))
tail_none false x o e = e

both_pass : (s t : Bool) → s ≡ true → t ≡ true → cond s t false ≡ true
both_pass true t h g = g
both_pass false t h g = absurd (cc)

no_below : (u : ℕ) (case : Case) (b : Bound) (k : ℕ) → below_of u case ≡ None → k < length case → get_or case k b ≡ b → is_below u b ≡ true → ⊥
no_below u [] b k e lt at is = absurd (omega arith)
no_below u (c ∷ case) b zero e lt at is =
    later_none (is_below u c) c.at_most (below_of u case) (subst (λ (x : Bound). is_below u x ≡ true) (sym at) is) e
no_below u (c ∷ case) b (suc k) e lt at is =
    no_below u case b k (tail_none (is_below u c) c.at_most (below_of u case) e) (omega arith) at is

none_below : (u : ℕ) (case : Case) → below_of u case ≡ None → HasBelow u case → ⊥
none_below u case e (b, (k, lt, at), plus, minus) =
    no_below u case b k e lt at (both_pass (eqb b.plus 0) (eqb b.minus u) (eq-eqb b.plus 0 plus) (eq-eqb b.minus u minus))

none_by : (u : ℕ) (most : ℤ) (case : Case) (cases : List Case) (o : Option ℤ) → below_of u case ≡ o → option_and_then (λ (number : ℤ). weakest u (int_max most number) cases) o ≡ None → HasBelow u case → ((next : ℤ) → weakest u next cases ≡ None → ⊥) → ⊥
none_by u most case cases None is e here later = none_below u case is here
none_by u most case cases (Some a) is e here later = later (int_max most a) e

-- where there is no weakest bound a case has none
pub none_weakest : (u : ℕ) (most : ℤ) (cases : List Case) → weakest u most cases ≡ None → EachHasBelow u cases → ⊥
none_weakest u most [] e h = none-some most (sym e)
none_weakest u most (case ∷ cases) e h =
    none_by u most case cases (below_of u case) refl e h.0 (λ next e'. none_weakest u next cases e' h.1)

-- the weakest bound is one that the choice implies
pub record IsImplied (count u : ℕ) (cases : List Case) (number : ℤ) : Type 0 where
  pub in_range : IsInRange count (floor_bound u number)
  pub met : (w : List ℤ) → MeetsOne w cases → Meets w (floor_bound u number)

pub implied : (count u : ℕ) (least : ℤ) (cases : List Case) (number : ℤ) → u ≤ count → neg_ℤ (pos (2 ^ 66)) ≤ℤ least → least ≤ℤ pos (2 ^ 66) → All (All (IsInRange count)) cases → weakest u least cases ≡ Some number → IsImplied count u cases number
implied count u least cases number unknown low high ranges e =
    let is = weakest_of count u least cases number e in
    let grown : least ≤ℤ number = is.grown in
    record {
      in_range = record {
        plus = omega arith;
        minus = unknown;
        at_least = omega (arith, ints);
        at_most = is.at_most ranges high;
      };
      met = is.met;
    }

-- a choice that does not bound the unknown from below is passed over
pub pass_over : (u : ℕ) (choices : List Choice) (i : ℕ) (x : Choice) → i < length choices → x ≡ get_or choices i x → (EachHasBelow u (cases_of x) → ⊥) → OneHasBelow u (lists_of (drop i choices)) → OneHasBelow u (lists_of (drop (i + 1) choices))
pass_over u choices i x lt is none one =
    let cut : drop i choices ≡ x ∷ drop (i + 1) choices = drop_more choices i x lt ∙ ap (λ (y : Choice). y ∷ drop (i + 1) choices) (sym is) in
    elim (subst (λ (cs : List Choice). OneHasBelow u (lists_of cs)) cut one) [ inl each ↦ absurd (none each) | inr later ↦ later ]

-- the bound that a choice implies
pub floor_at : (count u : ℕ) (choices : List Choice) (i : ℕ) (x : Choice) (least number : ℤ) → i < length choices → x ≡ get_or choices i x → AreInRange count (lists_of choices) → u ≤ count → neg_ℤ (pos (2 ^ 66)) ≤ℤ least → least ≤ℤ pos (2 ^ 66) → weakest u least (cases_of x) ≡ Some number → IsFloor count (lists_of choices) (record { choice = i; bound = floor_bound u number })
floor_at count u choices i x least number lt is ranges unknown low high e =
    let there : cases_at (lists_of choices) i ≡ cases_of x = cases_there choices i x lt is in
    let within : i < length (lists_of choices) = omega (arith, lt, length-map choices cases_of) in
    let one : IsImplied count u (cases_of x) number =
    implied count u least (cases_of x) number unknown low high
    (subst (λ (cs : List Case). All (All (IsInRange count)) cs) there (ranges i [] within)) e in
    record {
      choice = within;
      in_range = one.in_range;
      met = λ w each. one.met w (subst (λ (cs : List Case). MeetsOne w cs) there (each_at w (lists_of choices) i within each));
    }

-- the unknowns up to a number have floors, where a choice bounds them from below
abbrev pub HaveFloors : List (List Case) → List Floor → ℕ → Type 0
HaveFloors choices floors n =
    (u : ℕ) → 0 < u → u ≤ n → OneHasBelow u choices → HasBelow u (bounds_of floors)

pub have_same : (choices : List (List Case)) (floors : List Floor) (n : ℕ) → (OneHasBelow (n + 1) choices → ⊥) → HaveFloors choices floors n → HaveFloors choices floors (n + 1)
have_same choices floors n none h = λ u above within one.
    elim (cases_lt u (n + 1)) [
      | inl before ↦ h u above (omega arith) one
      | inr here ↦ let same : u ≡ n + 1 = omega arith in absurd (none (subst (λ (m : ℕ). OneHasBelow m choices) same one))
    ]

pub have_more : (choices : List (List Case)) (floors new : List Floor) (floor : Floor) (n : ℕ) → new ≡ floors ++ floor ∷ [] → floor.bound.plus ≡ 0 → floor.bound.minus ≡ n + 1 → HaveFloors choices floors n → HaveFloors choices new (n + 1)
have_more choices floors new floor n pushed plus minus h = λ u above within one.
    let low : HasBelow (n + 1) (floor.bound ∷ []) = (floor.bound, (0, omega arith, refl), plus, minus) in
    let bounds : bounds_of new ≡ bounds_of floors ++ floor.bound ∷ [] = ap bounds_of pushed ∙ map-append bound_of floors (floor ∷ []) in
    subst (λ (case : Case). HasBelow u case) (sym bounds)
    (elim (cases_lt u (n + 1)) [
      | inl before ↦ has_below_left u (bounds_of floors) (floor.bound ∷ []) (h u above (omega arith) one)
      | inr here ↦
          let same : n + 1 ≡ u = omega arith in
          has_below_right u (bounds_of floors) (floor.bound ∷ []) (subst (λ (m : ℕ). HasBelow m (floor.bound ∷ [])) same low)
    ])
