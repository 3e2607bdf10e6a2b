-- Choices of one case each, and their bounds together.
use Rattle.std.proofs.Common.{◌≡◌, ℕ, zero, suc, ◌≤◌, ℤ, pos, ◌≤ℤ◌, ◌<ℤ◌, ◌⊎◌, inl, inr, List, [], ◌∷◌, ◌++◌, length, map, take, Option, Some, refl, sym, ap, subst, ◌∙◌, arith, ◌*◌, ◌==◌, Bool, true, false, cond, ◌&&◌, ◌+◌, ◌<◌, get_or, append_assoc}
use Rattle.std.specs.Prelude.{slice_get, All}
use Rattle.std.proofs.lemmas.Int.{ints}
use Rattle.std.proofs.Math.Nat.{mul-suc}
use Rattle.std.proofs.lemmas.List.{map-append, map_more, map_push, take_all}
use Rattle.sn_width.specs.declared.ids.SymId.{SymId}
use Rattle.path_formula.specs.View.{view}
use Rattle.std.proofs.lemmas.List.Elements.{All-append, All-cons, All-head, All-nil, All-tail}
use Rattle.difference_solver.specs.Bound.{Meets, IsInRange, IsSolution, number}
use Rattle.difference_solver.specs.Cycle.{IsNegativeCycle}
use Rattle.difference_solver.specs.Raising.{IsBelow, IsLeastNatural, IsNatural}
use Rattle.difference_solver.specs.declared.bound.Bound.{Bound}
use Rattle.difference_solver.specs.Choices.{Case, IsLeast, IsMet, IsUnmet, IsUpTo, MeetsEach, MeetsOne}
use Rattle.path_cond.specs.Conditions.{Condition, Entry}
use Rattle.path_cond.specs.Kept.{first_case, product, singles_at}
use Rattle.path_cond.specs.declared.singles.Single.{Single}
use Rattle.path_formula.specs.Cases.{cases_of}
use Rattle.path_formula.specs.CaseCounts.{capped}
use Rattle.path_formula.specs.Bounds as Symbolic
use Rattle.path_cond.specs.Summaries.{entry_case_count, formula_choices, is_inside, single_case, singles, singles_from}
use Rattle.path_cond.specs.Coupled.{coupled_symbols}
use Rattle.path_solver.specs.Origins.{cases_from, choices_from, entry_cases, whole, formula_origins, origins_of}
use Rattle.path_solver.specs.Singles.{AreJoined, AreSinglesOf}
use Rattle.path_solver.specs.Unknowns.{bound_of, case_of, choice_of}
use Rattle.refutation_check.specs.declared.steps.Refute.{Refute}
use Rattle.refutation_check.specs.declared.steps.Refute.TheVariants.{Domain}
use Rattle.path_solver.specs.declared.singles.Singles.{Singles}
use Rattle.path_solver.proofs.Solved.{natural_at}

all_before : {X : Type 0} (P : X → Type 0) (xs ys : List X) → All P (xs ++ ys) → All P xs
all_before P [] ys h = All-nil P
all_before P (x ∷ xs) ys h = All-cons P x xs (All-head P x (xs ++ ys) h) (all_before P xs ys (All-tail P x (xs ++ ys) h))

all_behind : {X : Type 0} (P : X → Type 0) (xs ys : List X) → All P (xs ++ ys) → All P ys
all_behind P [] ys h = h
all_behind P (x ∷ xs) ys h = all_behind P xs ys (All-tail P x (xs ++ ys) h)

meets_before : (v : List ℤ) (xs ys : List (List Case)) → MeetsEach v (xs ++ ys) → MeetsEach v xs
meets_before v [] ys h = tt
meets_before v (x ∷ xs) ys h = (h.0, meets_before v xs ys h.1)

meets_behind : (v : List ℤ) (xs ys : List (List Case)) → MeetsEach v (xs ++ ys) → MeetsEach v ys
meets_behind v [] ys h = h
meets_behind v (x ∷ xs) ys h = meets_behind v xs ys h.1

meets_both : (v : List ℤ) (xs ys : List (List Case)) → MeetsEach v xs → MeetsEach v ys → MeetsEach v (xs ++ ys)
meets_both v [] ys h g = g
meets_both v (x ∷ xs) ys h g = (h.0, meets_both v xs ys h.1 g)

the_one : (v : List ℤ) (case : Case) → MeetsOne v (case ∷ []) → All (Meets v) case
the_one v case h = elim h [ inl met ↦ met | inr none ↦ absurd none ]

-- no choices, and no bounds
pub joined_none : AreJoined [] []
joined_none =
    record {
      meet = λ v. (λ h. All-nil (Meets v), λ h. tt);
      in_range = λ count h. All-nil (IsInRange count);
    }

-- one choice more, of one case
pub joined_more : (choices : List (List Case)) (bounds case : Case) → AreJoined choices bounds
    → AreJoined (choices ++ (case ∷ []) ∷ []) (bounds ++ case)
joined_more choices bounds case h =
    record {
      meet = λ v. (
        λ met.
            All-append (Meets v) bounds case ((h.meet v).0 (meets_before v choices ((case ∷ []) ∷ []) met))
            (the_one v case (meets_behind v choices ((case ∷ []) ∷ []) met).0),
        λ met.
            meets_both v choices ((case ∷ []) ∷ []) ((h.meet v).1 (all_before (Meets v) bounds case met))
            (inl (all_behind (Meets v) bounds case met), tt),
      );
      in_range = λ count range.
          let before = all_before (All (All (IsInRange count))) choices ((case ∷ []) ∷ []) range in
          let behind = all_behind (All (All (IsInRange count))) choices ((case ∷ []) ∷ []) range in
          All-append (IsInRange count) bounds case (h.in_range count before)
          (All-head (All (IsInRange count)) case [] (All-head (All (All (IsInRange count))) (case ∷ []) [] behind));
    }

-- the choice of an origin more, which has one case
pub singles_more : (cond : Condition) (origins : List Refute) (o : Refute) (old new : Singles) (cases : List Symbolic.Case)
    (case : Symbolic.Case) → cases ≡ case ∷ [] → cases ≡ cases_from cond o
    → new.bounds.items ≡ old.bounds.items ++ case_of (coupled_symbols cond) case
    → AreSinglesOf cond origins old → AreSinglesOf cond (origins ++ o ∷ []) new
singles_more cond origins o old new cases case one from more h =
    let symbols = coupled_symbols cond in
    let choice : choice_of symbols (cases_from cond o) ≡ case_of symbols case ∷ [] = ap (choice_of symbols) (sym from ∙ one) in
    let choices : choices_from cond (origins ++ o ∷ []) ≡ choices_from cond origins ++ (case_of symbols case ∷ []) ∷ [] =
    map_push (λ (p : Refute). choice_of symbols (cases_from cond p)) origins o ∙ ap (λ x. choices_from cond origins ++ x ∷ []) choice in
    subst (λ xs. AreJoined xs new.bounds.items) (sym choices)
    (subst (AreJoined (choices_from cond origins ++ (case_of symbols case ∷ []) ∷ [])) (sym more)
    (joined_more (choices_from cond origins) old.bounds.items (case_of symbols case) h))

-- numbers that are at most others come first in the order of words
up_to : (v w : List ℤ) → length v ≡ length w → IsBelow v w → IsUpTo v w
up_to [] w len below = tt
up_to (x ∷ v) [] len below = absurd (omega (arith, len))
up_to (x ∷ v) (y ∷ w) len below =
    elim (less_or_same x y (below 0)) [
      | inl less ↦ inl less
      | inr same ↦ inr (same, up_to v w (omega (arith, len)) (λ u. below (suc u)))
    ]
  where
    less_or_same : (a b : ℤ) → a ≤ℤ b → (a <ℤ b) ⊎ (a ≡ b)
    less_or_same a b h = search (arith, ints)

natural_by : (vs : List ℤ) (i : ℕ) → ((z : ℤ) → slice_get vs i ≡ Some z → pos 0 ≤ℤ z) → pos 0 ≤ℤ number vs i
natural_by [] i h = omega (arith, ints)
natural_by (z ∷ vs) zero h = h z refl
natural_by (z ∷ vs) (suc i) h = natural_by vs i h

natural_each : (cond : Condition) (w : List ℤ) (u : ℕ)
    → IsMet (length (coupled_symbols cond)) (choices_from cond (origins_of cond)) w → pos 0 ≤ℤ number w u
natural_each cond [] u h = let l = h.one_each in absurd (omega (arith, l))
natural_each cond (z0 ∷ vs) zero h = let first = h.first in omega (arith, ints, first)
natural_each cond (z0 ∷ vs) (suc i) h =
    let l = h.one_each in
    natural_by vs i (λ z at. natural_at cond (formula_origins 0 cond.entries) z0 vs i z (omega (arith, l)) h.first h.met at)

-- integers that meet one case of each choice are not below zero
natural_met : (cond : Condition) (w : List ℤ) → IsMet (length (coupled_symbols cond)) (choices_from cond (origins_of cond)) w
    → IsNatural w
natural_met cond w h = λ u. natural_each cond w u h

-- the least numbers that meet the bounds are the first that meet one case of each choice
pub least_single : (cond : Condition) (bounds : Case) (v : List ℤ) → AreJoined (choices_from cond (origins_of cond)) bounds
    → IsSolution (length (coupled_symbols cond)) bounds v → IsLeastNatural (length (coupled_symbols cond)) bounds v
    → IsLeast (length (coupled_symbols cond)) (choices_from cond (origins_of cond)) v
least_single cond bounds v joined solution least =
    record {
      met = record { one_each = solution.one_each; first = solution.first; met = (joined.meet v).1 solution.met };
      least = λ w met.
          let other : IsSolution (length (coupled_symbols cond)) bounds w =
          record { one_each = met.one_each; first = met.first; met = (joined.meet w).0 met.met } in
          up_to v w (solution.one_each ∙ sym met.one_each) (least w other (natural_met cond w met));
    }

-- a cycle of the bounds leaves no integers that meet one case of each choice
pub unmet_single : ((bounds : List Bound) (indices : List ℕ) (v : List ℤ) → IsNegativeCycle bounds indices → All (Meets v) bounds → ⊥)
    → (count : ℕ) (choices : List (List Case)) (bounds : Case) (indices : List ℕ) → AreJoined choices bounds
    → IsNegativeCycle bounds indices → IsUnmet count choices
unmet_single law count choices bounds indices joined cycle = λ v met. law bounds indices v cycle ((joined.meet v).0 met.met)

-- the choices of two lists, and the bounds of both
joined_both : (xs ys : List (List Case)) (bs cs : Case) → AreJoined xs bs → AreJoined ys cs → AreJoined (xs ++ ys) (bs ++ cs)
joined_both xs ys bs cs h g =
    record {
      meet = λ v. (
        λ met.
            All-append (Meets v) bs cs ((h.meet v).0 (meets_before v xs ys met)) ((g.meet v).0 (meets_behind v xs ys met)),
        λ met.
            meets_both v xs ys ((h.meet v).1 (all_before (Meets v) bs cs met)) ((g.meet v).1 (all_behind (Meets v) bs cs met)),
      );
      in_range = λ count range.
          All-append (IsInRange count) bs cs (h.in_range count (all_before (All (All (IsInRange count))) xs ys range))
          (g.in_range count (all_behind (All (All (IsInRange count))) xs ys range));
    }

joined_one : (case : Case) → AreJoined ((case ∷ []) ∷ []) case
joined_one case = joined_more [] [] case joined_none

counts_one : (m n : ℕ) → m * n ≡ 1 → (m ≡ 1) × (n ≡ 1)
counts_one zero n h = absurd (omega (arith, h))
counts_one (suc zero) n h = (refl, omega (arith, h))
counts_one (suc (suc m)) zero h = absurd (omega (arith, h))
counts_one (suc (suc m)) (suc n) h = absurd (omega (arith, h, mul-suc (suc (suc m)) n))

-- the bound of a single one, with unknowns for symbols
abbrev bound_in : List SymId → Single → Bound
bound_in symbols s = bound_of symbols s.bound

singles_are_case : (symbols : List SymId) (pick : ℕ) (case : Symbolic.Case) → map (bound_in symbols) (singles_at pick case) ≡ case_of symbols case
singles_are_case symbols pick [] = refl
singles_are_case symbols pick (b ∷ case) = ap (λ bs. bound_of symbols b ∷ bs) (singles_are_case symbols pick case)

formula_joined : (c : Condition) (pick : ℕ) (rest : List Refute) (bounds : Case) (cases : List Symbolic.Case) (b : Bool)
    → cases_from c (whole pick) ≡ cases → cond b (length cases) 1 ≡ 1 → AreJoined (choices_from c rest) bounds
    → AreJoined (choices_from c (cond b (whole pick ∷ rest) rest))
    (case_of (coupled_symbols c) (cond (b && (cond b (length cases) 1 == 1)) (first_case cases) []) ++ bounds)
formula_joined c pick rest bounds [] true is one h = absurd (omega (arith, one))
formula_joined c pick rest bounds (case ∷ []) true is one h =
    subst (λ cs. AreJoined (choice_of (coupled_symbols c) cs ∷ choices_from c rest) (case_of (coupled_symbols c) case ++ bounds)) (sym is)
    (joined_both ((case_of (coupled_symbols c) case ∷ []) ∷ []) (choices_from c rest) (case_of (coupled_symbols c) case) bounds
    (joined_one (case_of (coupled_symbols c) case)) h)
formula_joined c pick rest bounds (case ∷ d ∷ cases) true is one h = absurd (omega (arith, one))
formula_joined c pick rest bounds cases false is one h = h

formulas_joined : (c : Condition) (pick : ℕ) (entries : List Entry)
    → ((i : ℕ) → slice_get c.entries (pick + i) ≡ slice_get entries i) → product (map entry_case_count entries) ≡ 1
    → AreJoined (choices_from c (formula_origins pick entries)) (map (bound_in (coupled_symbols c)) (singles_from pick entries))
formulas_joined c pick [] at one = joined_none
formulas_joined c pick (e ∷ entries) at one =
    let symbols = coupled_symbols c in
    let counts = counts_one (entry_case_count e) (product (map entry_case_count entries)) one in
    let later = formulas_joined c (suc pick) entries (λ i. ap (slice_get c.entries) (next pick i) ∙ at (suc i)) counts.1 in
    let here : cases_from c (whole pick) ≡ cases_of (view e.0) e.1 = ap (λ (o : Option Entry). entry_cases o []) (ap (slice_get c.entries) (same pick) ∙ at 0) in
    let all : map (bound_in symbols) (singles_from pick (e ∷ entries))
    ≡ case_of symbols (single_case e) ++ map (bound_in symbols) (singles_from (suc pick) entries) =
    map-append (bound_in symbols) (singles_at pick (single_case e)) (singles_from (suc pick) entries)
    ∙ ap (λ bs. bs ++ map (bound_in symbols) (singles_from (suc pick) entries)) (singles_are_case symbols pick (single_case e)) in
    subst (AreJoined (choices_from c (formula_origins pick (e ∷ entries)))) (sym all)
    (formula_joined c pick (formula_origins (suc pick) entries) (map (bound_in symbols) (singles_from (suc pick) entries))
    (cases_of (view e.0) e.1) (is_inside e) here counts.0 later)
  where
    same : (p : ℕ) → p ≡ p + 0
    same p = omega arith

    next : (p i : ℕ) → suc p + i ≡ p + suc i
    next p i = omega arith

-- where each inside formula has one case, its bounds and those of the ranges are those of all choices
pub all_joined : (c : Condition) (old new : Singles) → formula_choices c ≡ 1
    → new.bounds.items ≡ old.bounds.items ++ map (λ s. bound_of (coupled_symbols c) s.bound) (singles c)
    → AreSinglesOf c (map Domain (coupled_symbols c)) old → AreSinglesOf c (origins_of c) new
all_joined c old new one more h =
    let ranges : List Refute = map Domain (coupled_symbols c) in
    let formulas = formula_origins 0 c.entries in
    let both : choices_from c (origins_of c) ≡ choices_from c ranges ++ choices_from c formulas =
    map-append (λ (o : Refute). choice_of (coupled_symbols c) (cases_from c o)) ranges formulas in
    subst (λ xs. AreJoined xs new.bounds.items) (sym both)
    (subst (AreJoined (choices_from c ranges ++ choices_from c formulas)) (sym more)
    (joined_both (choices_from c ranges) (choices_from c formulas) old.bounds.items (map (bound_in (coupled_symbols c)) (singles c)) h
    (formulas_joined c 0 c.entries (λ i. ap (slice_get c.entries) (none i)) one)))
  where
    none : (i : ℕ) → 0 + i ≡ i
    none i = omega arith

-- the ranges of all coupled symbols
pub all_ranges : (c : Condition) (symbols : List SymId) (i : ℕ) (s : Singles) → length symbols ≤ i → symbols ≡ coupled_symbols c
    → AreSinglesOf c (map Domain (take i symbols)) s → AreSinglesOf c (map Domain (coupled_symbols c)) s
all_ranges c symbols i s le is h =
    subst (λ (os : List Refute). AreSinglesOf c os s) (ap (λ (ss : List SymId). map Domain ss) (take_all i symbols le ∙ is)) h

-- one choice, where that is the number that is kept
pub capped_one : (n : ℕ) → capped n ≡ 1 → n ≡ 1
capped_one n h = omega (arith, h)

-- the bound of one item more
pub bounds_more : {S : Type 0} (f : S → Bound) (start old new : List Bound) (xs : List S) (i : ℕ) (d : S) (b : Bound) → i < length xs
    → b ≡ f (get_or xs i d) → old ≡ start ++ map f (take i xs) → new ≡ old ++ b ∷ [] → new ≡ start ++ map f (take (i + 1) xs)
bounds_more f start old new xs i d b lt is so_far pushed =
    pushed ∙ ap (λ bs. bs ++ b ∷ []) so_far ∙ append_assoc start (map f (take i xs)) (b ∷ [])
    ∙ ap (λ x. start ++ (map f (take i xs) ++ x ∷ [])) is ∙ ap (λ bs. start ++ bs) (sym (map_more f xs i d lt))
