-- How what is found goes on with each step of a search.
use Rattle.std.proofs.Common.{◌≡◌, ℕ, ◌<◌, ℤ, true, false, List, ◌∷◌, ◌++◌, Option, Some, None, inl, inr, length, arith, sym, ◌∙◌}
use Rattle.std.specs.Prelude.{All}
use Rattle.std.specs.Global.{Vec}
use Rattle.std.proofs.lemmas.Bool.{not-true, not-false}
use Rattle.std.proofs.lemmas.List.Elements.{All-append, All-map, All-weaker}
use Rattle.difference_solver.specs.Bound.{Meets, IsInRange, IsSolution, HasLowerBounds}
use Rattle.difference_solver.specs.Bound as Bounds
use Rattle.difference_solver.specs.Choices.{Case, MeetsOne, MeetsEach, with_each, cases_at, IsUpTo}
use Rattle.difference_solver.specs.Progress.{AreFirst, IsSoFar}
use Rattle.difference_solver.specs.Floors.{bound_of, bounds_of, IsFloor, AreFloors}
use Rattle.difference_solver.specs.declared.floors.Floor.{Floor}
use Rattle.difference_solver.specs.Words.{comes_before, is_behind}
use Rattle.difference_solver.proofs.Meeting.{one_append_left, one_append_right, one_with, each_at, has_below_right}
use Rattle.difference_solver.proofs.WordLemmas.{up_to_from, up_to_trans, before_up_to, not_before_up_to}

split_others : (choices : List (List Case)) (g : Case) (left : List Case) (choice : ℕ) (w : List ℤ) → choice < length choices → MeetsEach w choices → MeetsOne w (g ∷ left) → MeetsOne w (with_each g (cases_at choices choice) ++ left)
split_others choices g left choice w lt each one =
    elim one [
      | inl met ↦ one_append_left w (with_each g (cases_at choices choice)) left (one_with w g (cases_at choices choice) met (each_at w choices choice lt each))
      | inr other ↦ one_append_right w (with_each g (cases_at choices choice)) left other
    ]

-- a choice is split
pub split_so_far : (count : ℕ) (choices : List (List Case)) (g : Case) (left : List Case) (choice : ℕ) (best : Option (Vec ℤ)) → choice < length choices → IsSoFar count choices (g ∷ left) best → IsSoFar count choices (with_each g (cases_at choices choice) ++ left) best
split_so_far count choices g left choice None lt h = λ w met. split_others choices g left choice w lt met.met (h w met)
split_so_far count choices g left choice (Some values) lt h =
    record {
      met = h.met;
      others = λ below w met. elim (h.others below w met) [ inl up ↦ inl up | inr one ↦ inr (split_others choices g left choice w lt met.met one) ];
    }

others_left : (g : Case) (left : List Case) (w : List ℤ) → (All (Meets w) g → ⊥) → MeetsOne w (g ∷ left) → MeetsOne w left
others_left g left w none one = elim one [ inl all ↦ absurd (none all) | inr other ↦ other ]

-- no integers meet the bounds
pub cycle_so_far : (count : ℕ) (choices : List (List Case)) (g : Case) (left : List Case) (best : Option (Vec ℤ)) → ((w : List ℤ) → All (Meets w) g → ⊥) → IsSoFar count choices (g ∷ left) best → IsSoFar count choices left best
cycle_so_far count choices g left None none h = λ w met. others_left g left w (none w) (h w met)
cycle_so_far count choices g left (Some values) none h =
    record {
      met = h.met;
      others = λ below w met. elim (h.others below w met) [ inl up ↦ inl up | inr one ↦ inr (others_left g left w (none w) one) ];
    }

floors_met : (count : ℕ) (choices : List (List Case)) (floors : List Floor) (w : List ℤ) → All (IsFloor count choices) floors → MeetsEach w choices → All (Meets w) (bounds_of floors)
floors_met count choices floors w each met =
    All-map (Meets w) bound_of floors
    (All-weaker (IsFloor count choices) (λ (f : Floor). Meets w (bound_of f)) (λ f is. is.met w met) floors each)

-- the bounds and the floors are within the limits of a solver
pub floors_in_range : (count : ℕ) (choices : List (List Case)) (g : Case) (floors : List Floor) → All (IsFloor count choices) floors → All (IsInRange count) g → All (IsInRange count) (g ++ bounds_of floors)
floors_in_range count choices g floors each in_range =
    All-append (IsInRange count) g (bounds_of floors) in_range
    (All-map (IsInRange count) bound_of floors
    (All-weaker (IsFloor count choices) (λ (f : Floor). IsInRange count (bound_of f)) (λ f is. is.in_range) floors each))

-- the least integers that meet bounds and floors come first
pub first_of : (count : ℕ) (choices : List (List Case)) (g : Case) (floors : List Floor) (v : List ℤ) → AreFloors count choices floors → IsSolution count (g ++ bounds_of floors) v → (HasLowerBounds count (g ++ bounds_of floors) → Bounds.IsLeast count (g ++ bounds_of floors) v) → AreFirst count choices g v
first_of count choices g floors v are is least =
    record {
      one_each = is.one_each;
      zero_first = is.first;
      before = λ below w met all.
          let all_met : All (Meets w) (g ++ bounds_of floors) = All-append (Meets w) g (bounds_of floors) all (floors_met count choices floors w are.each met.met) in
          let low : HasLowerBounds count (g ++ bounds_of floors) = λ u above within. has_below_right u g (bounds_of floors) (are.below below u above within) in
          up_to_from v w (is.one_each ∙ sym met.one_each)
          (λ u lt same. least low w record { one_each = met.one_each; first = met.first; met = all_met } u (omega (arith, is.one_each)));
    }

-- integers that are found before come before all that meet the bounds
pub behind_so_far : (count : ℕ) (choices : List (List Case)) (g : Case) (left : List Case) (old : Vec ℤ) (v : List ℤ) → is_behind (Some old) v ≡ true → AreFirst count choices g v → IsSoFar count choices (g ∷ left) (Some old) → IsSoFar count choices left (Some old)
behind_so_far count choices g left old v behind is h =
    let not_before : comes_before v old.items ≡ false = not-true (comes_before v old.items) behind in
    let up : IsUpTo old.items v = not_before_up_to v old.items (is.one_each ∙ sym h.met.one_each) not_before in
    record {
      met = h.met;
      others = λ below w met. elim (h.others below w met) [
        | inl after ↦ inl after
        | inr one ↦ elim one [
          | inl all ↦ inl (up_to_trans old.items v w up (is.before below w met all))
          | inr other ↦ inr other
        ]
      ];
    }

-- integers that meet one case of each choice are the first so far
pub values_so_far : (count : ℕ) (choices : List (List Case)) (g : Case) (left : List Case) (best : Option (Vec ℤ)) (values : Vec ℤ) → is_behind best values.items ≡ false → MeetsEach values.items choices → AreFirst count choices g values.items → IsSoFar count choices (g ∷ left) best → IsSoFar count choices left (Some values)
values_so_far count choices g left None values behind each is h =
    record {
      met = record { one_each = is.one_each; first = is.zero_first; met = each };
      others = λ below w met. elim (h w met) [
        | inl all ↦ inl (is.before below w met all)
        | inr other ↦ inr other
      ];
    }
values_so_far count choices g left (Some old) values behind each is h =
    let before : comes_before values.items old.items ≡ true = not-false (comes_before values.items old.items) behind in
    let up : IsUpTo values.items old.items = before_up_to values.items old.items before in
    record {
      met = record { one_each = is.one_each; first = is.zero_first; met = each };
      others = λ below w met. elim (h.others below w met) [
        | inl after ↦ inl (up_to_trans values.items old.items w up after)
        | inr one ↦ elim one [
          | inl all ↦ inl (is.before below w met all)
          | inr other ↦ inr other
        ]
      ];
    }
