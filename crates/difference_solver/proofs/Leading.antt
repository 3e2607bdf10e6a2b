-- How a walk goes from bounds to bounds.
use Rattle.std.proofs.Common.{◌≡◌, ℕ, ◌+◌, ◌<◌, ◌≤◌, ℤ, true, false, List, [], ◌∷◌, ◌++◌, Option, Some, None, is_some, inl, inr, length, length-append, take, drop, append-nil, append_assoc, reverse, arith, refl, ap, sym, subst, ◌∙◌}
use Rattle.std.specs.Prelude.{All, IfNone}
use Rattle.std.specs.Global.{Vec}
use Rattle.std.proofs.lemmas.List.{take_at, length-take-le, drop_more, drop_all, reverse-append}
use Rattle.std.proofs.lemmas.List.Elements.{All-nil, All-append, All-take}
use Rattle.difference_solver.specs.Bound.{Meets, IsInRange}
use Rattle.difference_solver.specs.Cycle.{IsNegativeCycle}
use Rattle.difference_solver.specs.Branches.{case_of, pending, IsBranch, AreBranches, RefutesBut, AreRefuted}
use Rattle.difference_solver.specs.Choices.{Case, MeetsOne, MeetsEach, with_each, cases_at, AreInRange}
use Rattle.difference_solver.specs.Progress.{AreFirst, IsSoFar, IsAt, IsPast, IsLeft, IsFound}
use Rattle.difference_solver.specs.Steps.{Refutes}
use Rattle.difference_solver.specs.Words.{is_behind}
use Rattle.difference_solver.specs.declared.choice.Step.{Step}
use Rattle.difference_solver.specs.declared.choice.Step.TheVariants.{Split, Cycle}
use Rattle.difference_solver.specs.declared.walk.Branch.{Branch}
use Rattle.difference_solver.proofs.Meeting.{all_left}
use Rattle.difference_solver.proofs.Reading.{CycleRefutes, refuted_unmet}
use Rattle.difference_solver.proofs.SearchSteps.{split_so_far, cycle_so_far, behind_so_far, values_so_far}

if_none : {X : Type 0} (o : Option X) {P Q : Type 0} → (P → Q) → IfNone o P → IfNone o Q
if_none None f h = f h
if_none (Some x) f h = tt

if_none_both : {X : Type 0} (o : Option X) (P Q : Type 0) → IfNone o P → IfNone o Q → IfNone o (P × Q)
if_none_both None P Q h g = (h, g)
if_none_both (Some x) P Q h g = tt

if_none_all : {X : Type 0} (o : Option X) {P : Type 0} → P → IfNone o P
if_none_all None h = h
if_none_all (Some x) h = tt

if_none_some : {X : Type 0} (o : Option X) (P : Type 0) → is_some o ≡ true → IfNone o P
if_none_some None P is = absurd (cc)
if_none_some (Some x) P is = tt

-- refutations join
refutes_join : (choices : List (List Case)) (xs ys : List Case) (a b : List Step) → Refutes choices xs a → Refutes choices ys b → Refutes choices (xs ++ ys) (a ++ b)
refutes_join choices [] ys [] b h g = g
refutes_join choices [] ys (s ∷ a) b h g = absurd h
refutes_join choices (x ∷ xs) ys [] b h g = absurd h
refutes_join choices (x ∷ xs) ys (Split choice ∷ a) b h g = (
  h.0,
  subst (λ (zs : List Case). Refutes choices zs (a ++ b)) (append_assoc (with_each x (cases_at choices choice)) xs ys)
      (refutes_join choices (with_each x (cases_at choices choice) ++ xs) ys a b h.1 g),
)
refutes_join choices (x ∷ xs) ys (Cycle around ∷ a) b h g = (h.0, refutes_join choices xs ys a b h.1 g)

-- the bounds of the case that is taken, and those that are left, are those of the cases from it on
next_left : (choices : List (List Case)) (g h : Case) (b : Branch) (branches : List Branch) → take b.start g ≡ h → g ≡ h ++ case_of choices b → b.case < length (cases_at choices b.choice) → with_each h (drop b.case (cases_at choices b.choice)) ++ pending choices h branches ≡ g ∷ pending choices g (b ∷ branches)
next_left choices g h b branches kept ends lt =
    let cases : List Case = cases_at choices b.choice in
    ap (λ (cs : List Case). with_each h cs ++ pending choices h branches) (drop_more cases b.case [] lt)
    ∙ ap (λ (x : Case). x ∷ (with_each h (drop (b.case + 1) cases) ++ pending choices h branches)) (sym ends)
    ∙ ap (λ (x : Case). g ∷ (with_each x (drop (b.case + 1) cases) ++ pending choices x branches)) (sym kept)

-- the bounds behind the start of a branch
kept_start : (choices : List (List Case)) (h g : Case) (b : Branch) → b.start ≡ length h → g ≡ h ++ case_of choices b → take b.start g ≡ h
kept_start choices h g b start ends =
    ap (take b.start) ends ∙ take_at h (case_of choices b) b.start (sym start)

-- a case is taken behind bounds
taken : (count : ℕ) (choices : List (List Case)) (h g : Case) (b : Branch) (branches : List Branch) (best : Option (Vec ℤ)) → count ≤ 64 → AreInRange count choices → b.choice < length choices → b.case < length (cases_at choices b.choice) → b.start ≡ length h → g ≡ h ++ case_of choices b → All (IsInRange count) h → AreBranches choices h branches → IfNone best (RefutesBut choices h b.case b × AreRefuted choices h branches) → IsSoFar count choices (with_each h (drop b.case (cases_at choices b.choice)) ++ pending choices h branches) best → IsAt count choices g (b ∷ branches) best
taken count choices h g b branches best unknowns ranges choice case start ends in_range leads refuted so_far =
    let kept : take b.start g ≡ h = kept_start choices h g b start ends in
    record {
      way = record {
        unknowns = unknowns;
        in_range = subst (λ (x : Case). All (IsInRange count) x) (sym ends)
            (All-append (IsInRange count) h (case_of choices b) in_range (ranges b.choice [] choice b.case [] case));
        leads = (
          record {
            start = omega (arith, start, ap length ends, length-append h (case_of choices b));
            choice = choice;
            case = case;
            ends = subst (λ (x : Case). g ≡ x ++ case_of choices b) (sym kept) ends;
          },
          subst (λ (x : Case). AreBranches choices x branches) (sym kept) leads,
        );
        refuted = subst (λ (x : Case). IfNone best (RefutesBut choices x b.case b × AreRefuted choices x branches)) (sym kept) refuted;
      };
      so_far = subst (λ (left : List Case). IsSoFar count choices left best) (next_left choices g h b branches kept ends case) so_far;
    }

pub at_start : (count : ℕ) (choices : List (List Case)) (g : Case) (branches : List Branch) → count ≤ 64 → g ≡ [] → branches ≡ [] → IsAt count choices g (reverse branches) None
at_start count choices g branches unknowns none empty =
    subst (λ (x : Case). IsAt count choices x (reverse branches) None) (sym none)
    (subst (λ (bs : List Branch). IsAt count choices [] (reverse bs) None) (sym empty)
    record {
      way = record { unknowns = unknowns; in_range = All-nil (IsInRange count); leads = refl; refuted = tt };
      so_far = λ w met. inl (λ k d lt. absurd (omega arith));
    })

first_refutes : (choices : List (List Case)) (g : Case) (b : Branch) → b.choice < length choices → b.case ≡ 0 → b.steps.items ≡ Split b.choice ∷ [] → RefutesBut choices g b.case b
first_refutes choices g b choice case steps = λ rest r.
    let whole : Refutes choices (with_each g (cases_at choices b.choice)) rest =
    subst (λ (n : ℕ). Refutes choices (with_each g (drop n (cases_at choices b.choice))) rest) case r in
    subst (λ (ss : List Step). Refutes choices (g ∷ []) (ss ++ rest)) (sym steps) (
      choice,
      subst (λ (cs : List Case). Refutes choices cs rest) (sym (append-nil (with_each g (cases_at choices b.choice)))) whole,
    )

-- the first case of a choice is taken
pub at_first : (count : ℕ) (choices : List (List Case)) (g new : Case) (b : Branch) (branches : List Branch) (best : Option (Vec ℤ)) → AreInRange count choices → b.choice < length choices → 0 < length (cases_at choices b.choice) → b.case ≡ 0 → b.start ≡ length g → b.steps.items ≡ Split b.choice ∷ [] → new ≡ g ++ case_of choices b → IsAt count choices g branches best → IsAt count choices new (b ∷ branches) best
at_first count choices g new b branches best ranges choice some case start steps ends h =
    let cases : List Case = cases_at choices b.choice in
    let all : drop b.case cases ≡ cases = ap (λ (n : ℕ). drop n cases) case in
    taken count choices g new b branches best h.way.unknowns ranges choice (omega (arith, some, case)) start ends h.way.in_range h.way.leads
    (if_none best (λ r. (first_refutes choices g b choice case steps, r)) h.way.refuted)
    (subst (λ (cs : List Case). IsSoFar count choices (with_each g cs ++ pending choices g branches) best) (sym all)
    (split_so_far count choices g (pending choices g branches) b.choice best choice h.so_far))

-- a choice without cases refutes the bounds
pub past_empty : (count : ℕ) (choices : List (List Case)) (g : Case) (branches : List Branch) (best : Option (Vec ℤ)) (choice : ℕ) (steps : List Step) → choice < length choices → cases_at choices choice ≡ [] → steps ≡ Split choice ∷ [] → IsAt count choices g branches best → IsPast count choices g branches best steps
past_empty count choices g branches best choice steps lt empty is h =
    let left : List Case = pending choices g branches in
    record {
      way = h.way;
      refuted = if_none_all best
          (subst (λ (ss : List Step). Refutes choices (g ∷ []) ss) (sym is)
          (lt, subst (λ (cs : List Case). Refutes choices (with_each g cs ++ []) []) (sym empty) tt));
      so_far = subst (λ (cs : List Case). IsSoFar count choices (with_each g cs ++ left) best) empty
          (split_so_far count choices g left choice best lt h.so_far);
    }

-- bounds around a cycle refute the bounds
pub past_cycle : CycleRefutes → (count : ℕ) (choices : List (List Case)) (g : Case) (branches : List Branch) (best : Option (Vec ℤ)) (around : Vec ℕ) (steps : List Step) → IsNegativeCycle g around.items → steps ≡ Cycle around ∷ [] → IsAt count choices g branches best → IsPast count choices g branches best steps
past_cycle law count choices g branches best around steps cycle is h =
    record {
      way = h.way;
      refuted = if_none_all best (subst (λ (ss : List Step). Refutes choices (g ∷ []) ss) (sym is) (cycle, tt));
      so_far = cycle_so_far count choices g (pending choices g branches) best (λ w all. law g around.items w cycle all) h.so_far;
    }

-- integers that meet the bounds do not come before those that are found
pub past_behind : (count : ℕ) (choices : List (List Case)) (g : Case) (branches : List Branch) (best : Option (Vec ℤ)) (v : List ℤ) (steps : List Step) → is_behind best v ≡ true → AreFirst count choices g v → IsAt count choices g branches best → IsPast count choices g branches best steps
past_behind count choices g branches None v steps behind is h = absurd (cc)
past_behind count choices g branches (Some old) v steps behind is h =
    record {
      way = h.way;
      refuted = tt;
      so_far = behind_so_far count choices g (pending choices g branches) old v behind is h.so_far;
    }

-- integers are found
pub past_values : (count : ℕ) (choices : List (List Case)) (g : Case) (branches : List Branch) (best : Option (Vec ℤ)) (values : Vec ℤ) (steps : List Step) → is_behind best values.items ≡ false → MeetsEach values.items choices → AreFirst count choices g values.items → IsAt count choices g branches best → IsPast count choices g branches (Some values) steps
past_values count choices g branches best values steps behind each is h =
    record {
      way = record { unknowns = h.way.unknowns; in_range = h.way.in_range; leads = h.way.leads; refuted = tt };
      refuted = tt;
      so_far = values_so_far count choices g (pending choices g branches) best values behind each is h.so_far;
    }

-- the case of the last branch is done with, where integers are found
pub left_found : (count : ℕ) (choices : List (List Case)) (g : Case) (b : Branch) (branches : List Branch) (best : Option (Vec ℤ)) (steps : List Step) → is_some best ≡ true → IsPast count choices g (b ∷ branches) best steps → IsLeft count choices g b branches best
left_found count choices g b branches best steps is h =
    record {
      unknowns = h.way.unknowns;
      in_range = h.way.in_range;
      leads = h.way.leads;
      refuted = if_none_some best _ is;
      so_far = h.so_far;
    }

more_refuted : (choices : List (List Case)) (g : Case) (b : Branch) (steps after : List Step) → IsBranch choices g b → after ≡ b.steps.items ++ steps → Refutes choices (g ∷ []) steps → RefutesBut choices (take b.start g) b.case b → (rest : List Step) → Refutes choices (with_each (take b.start g) (drop (b.case + 1) (cases_at choices b.choice))) rest → Refutes choices (take b.start g ∷ []) (after ++ rest)
more_refuted choices g b steps after is all here before rest r =
    let h : Case = take b.start g in
    let cases : List Case = cases_at choices b.choice in
    let next : with_each h (drop b.case cases) ≡ g ∷ with_each h (drop (b.case + 1) cases) =
    ap (with_each h) (drop_more cases b.case [] is.case)
    ∙ ap (λ (x : Case). x ∷ with_each h (drop (b.case + 1) cases)) (sym is.ends) in
    let both : Refutes choices (with_each h (drop b.case cases)) (steps ++ rest) =
    subst (λ (cs : List Case). Refutes choices cs (steps ++ rest)) (sym next)
    (refutes_join choices (g ∷ []) (with_each h (drop (b.case + 1) cases)) steps rest here r) in
    subst (λ (ss : List Step). Refutes choices (h ∷ []) (ss ++ rest)) (sym all)
    (subst (λ (ss : List Step). Refutes choices (h ∷ []) ss) (sym (append_assoc b.steps.items steps rest)) (before (steps ++ rest) both))

-- the case of the last branch is refuted
pub left_refuted : (count : ℕ) (choices : List (List Case)) (g : Case) (b : Branch) (branches : List Branch) (best : Option (Vec ℤ)) (steps : List Step) (after : Vec Step) → after.items ≡ b.steps.items ++ steps → IsPast count choices g (b ∷ branches) best steps → IsLeft count choices g (record { choice = b.choice; case = b.case; start = b.start; steps = after }) branches best
left_refuted count choices g b branches best steps after all h =
    let is : IsBranch choices g b = h.way.leads.0 in
    record {
      unknowns = h.way.unknowns;
      in_range = h.way.in_range;
      leads = (record { start = is.start; choice = is.choice; case = is.case; ends = is.ends }, h.way.leads.1);
      refuted = if_none best (λ r. (more_refuted choices g b steps after.items is all r.1 r.0.0, r.0.1)) (if_none_both best _ _ h.way.refuted h.refuted);
      so_far = h.so_far;
    }

-- the next case of a branch is taken
pub at_next : (count : ℕ) (choices : List (List Case)) (g new : Case) (b : Branch) (branches : List Branch) (best : Option (Vec ℤ)) (case : ℕ) → AreInRange count choices → case ≡ b.case + 1 → case < length (cases_at choices b.choice) → new ≡ take b.start g ++ case_of choices (record { choice = b.choice; case = case; start = b.start; steps = b.steps }) → IsLeft count choices g b branches best → IsAt count choices new (record { choice = b.choice; case = case; start = b.start; steps = b.steps } ∷ branches) best
at_next count choices g new b branches best case ranges next lt ends h =
    let is : IsBranch choices g b = h.leads.0 in
    let start : b.start ≡ length (take b.start g) = sym (length-take-le b.start g is.start) in
    taken count choices (take b.start g) new (record { choice = b.choice; case = case; start = b.start; steps = b.steps }) branches best
    h.unknowns ranges is.choice lt start ends (All-take (IsInRange count) b.start g h.in_range) h.leads.1
    (subst (λ (n : ℕ). IfNone best (RefutesBut choices (take b.start g) n b × AreRefuted choices (take b.start g) branches)) (sym next) h.refuted)
    (subst (λ (n : ℕ). IsSoFar count choices (with_each (take b.start g) (drop n (cases_at choices b.choice)) ++ pending choices (take b.start g) branches) best) (sym next) h.so_far)

last_refuted : (choices : List (List Case)) (h : Case) (b : Branch) (case : ℕ) → drop case (cases_at choices b.choice) ≡ [] → RefutesBut choices h case b → Refutes choices (h ∷ []) b.steps.items
last_refuted choices h b case none r =
    subst (λ (ss : List Step). Refutes choices (h ∷ []) ss) (append-nil b.steps.items)
    (r [] (subst (λ (cs : List Case). Refutes choices (with_each h cs) []) (sym none) tt))

-- the last case of a branch is done with
pub past_last : (count : ℕ) (choices : List (List Case)) (g : Case) (b : Branch) (branches : List Branch) (best : Option (Vec ℤ)) → length (cases_at choices b.choice) ≤ b.case + 1 → IsLeft count choices g b branches best → IsPast count choices (take b.start g) branches best b.steps.items
past_last count choices g b branches best le h =
    let none : drop (b.case + 1) (cases_at choices b.choice) ≡ [] = drop_all (b.case + 1) (cases_at choices b.choice) le in
    record {
      way = record {
        unknowns = h.unknowns;
        in_range = All-take (IsInRange count) b.start g h.in_range;
        leads = h.leads.1;
        refuted = if_none best (λ r. r.1) h.refuted;
      };
      refuted = if_none best (λ r. last_refuted choices (take b.start g) b (b.case + 1) none r.0) h.refuted;
      so_far = subst (λ (cs : List Case). IsSoFar count choices (with_each (take b.start g) cs ++ pending choices (take b.start g) branches) best) none h.so_far;
    }

-- where no integers meet bounds, none meet them with one of some cases
one_cases : (w : List ℤ) (g : Case) (cases left : List Case) → (All (Meets w) g → ⊥) → MeetsOne w (with_each g cases ++ left) → MeetsOne w left
one_cases w g [] left never one = one
one_cases w g (c ∷ cases) left never one =
    elim one [
      | inl all ↦ absurd (never (all_left (Meets w) g c all))
      | inr other ↦ one_cases w g cases left never other
    ]

-- what is split is refuted as the case is, without the split
pub past_split : CycleRefutes → (count : ℕ) (choices : List (List Case)) (g : Case) (b : Branch) (branches : List Branch) (best : Option (Vec ℤ)) (steps after : List Step) → is_some best ≡ false → Refutes choices (take b.start g ∷ []) after → IsPast count choices g (b ∷ branches) best steps → IsPast count choices (take b.start g) branches best after
past_split law count choices g b branches (Some values) steps after is refuted h = absurd (cc)
past_split law count choices g b branches None steps after is refuted h =
    record {
      way = record {
        unknowns = h.way.unknowns;
        in_range = All-take (IsInRange count) b.start g h.way.in_range;
        leads = h.way.leads.1;
        refuted = h.way.refuted.1;
      };
      refuted = refuted;
      so_far = λ w met. one_cases w (take b.start g) (drop (b.case + 1) (cases_at choices b.choice)) (pending choices (take b.start g) branches)
          (λ all. refuted_unmet law choices (take b.start g ∷ []) after w refuted met.met (inl all)) (h.so_far w met);
    }

-- the steps of bounds that are done with, where no integers are found
pub steps_refute : (count : ℕ) (choices : List (List Case)) (g : Case) (branches : List Branch) (best : Option (Vec ℤ)) (steps : List Step) → is_some best ≡ false → IsPast count choices g branches best steps → Refutes choices (g ∷ []) steps
steps_refute count choices g branches None steps is h = h.refuted
steps_refute count choices g branches (Some values) steps is h = absurd (cc)

-- nothing is left
pub found : (count : ℕ) (choices : List (List Case)) (g : Case) (branches : List Branch) (best : Option (Vec ℤ)) (steps : List Step) → branches ≡ [] → IsPast count choices g branches best steps → IsFound count choices best steps
found count choices g branches best steps none h =
    found_by count choices g best steps (subst (λ (bs : List Branch). IsPast count choices g bs best steps) none h)
  where
    found_by : (count : ℕ) (choices : List (List Case)) (g : Case) (best : Option (Vec ℤ)) (steps : List Step) → IsPast count choices g [] best steps → IsFound count choices best steps
    found_by count choices g None steps h = (
      subst (λ (x : Case). Refutes choices (x ∷ []) steps) h.way.leads h.refuted,
      λ w met. h.so_far w met,
    )
    found_by count choices g (Some values) steps h = (
      h.so_far.met,
      λ below. record { met = h.so_far.met; least = λ w met. elim (h.so_far.others below w met) [ inl up ↦ up | inr one ↦ absurd one ] },
    )

-- the bounds of a branch that is put behind the others
pub pushed_at : (count : ℕ) (choices : List (List Case)) (g : Case) (old new : List Branch) (b : Branch) (best after : Option (Vec ℤ)) → new ≡ old ++ b ∷ [] → after ≡ best → IsAt count choices g (b ∷ reverse old) best → IsAt count choices g (reverse new) after
pushed_at count choices g old new b best after pushed same h =
    let turned : reverse new ≡ b ∷ reverse old = ap reverse pushed ∙ reverse-append old (b ∷ []) in
    subst (λ (bs : List Branch). IsAt count choices g bs after) (sym turned)
    (subst (λ (o : Option (Vec ℤ)). IsAt count choices g (b ∷ reverse old) o) (sym same) h)

-- the same, by equal parts
pub same_past : (count : ℕ) (choices : List (List Case)) (g new : Case) (branches others : List Branch) (best after : Option (Vec ℤ)) (steps : List Step) → new ≡ g → others ≡ branches → after ≡ best → IsPast count choices g (reverse branches) best steps → IsPast count choices new (reverse others) after steps
same_past count choices g new branches others best after steps gathered kept same h =
    subst (λ (x : Case). IsPast count choices x (reverse others) after steps) (sym gathered)
    (subst (λ (bs : List Branch). IsPast count choices g (reverse bs) after steps) (sym kept)
    (subst (λ (o : Option (Vec ℤ)). IsPast count choices g (reverse branches) o steps) (sym same) h))
