-- Steps on the choices of a part, as steps on all choices.
use Rattle.std.proofs.Common.{◌≡◌, ℕ, zero, suc, ◌+◌, ◌<◌, Bool, true, false, cond, List, [], ◌∷◌, ◌++◌, length, map, arith, refl, sym, subst}
use Rattle.std.specs.Prelude.{slice_index}
use Rattle.difference_solver.specs.Choices.{Case, cases_at, with_each}
use Rattle.difference_solver.specs.Parts.{choice_passes, part_of, places_of, placed}
use Rattle.difference_solver.specs.Steps.{Refutes}
use Rattle.difference_solver.specs.declared.choice.Step.{Step}
use Rattle.difference_solver.specs.declared.choice.Step.TheVariants.{Split, Cycle}

-- the choice at a place of the part is the one at this index after the first
record IsPlaced (first : ℕ) (choices part : List (List Case)) (places : List ℕ) (k : ℕ) : Type 0 where
  pub after : ℕ
  pub within : after < length choices
  pub place : slice_index places k ≡ first + after
  pub same : cases_at choices after ≡ cases_at part k

later : (first : ℕ) (cases : List Case) (choices part : List (List Case)) (places : List ℕ) (k : ℕ) → IsPlaced (suc first) choices part places k → IsPlaced first (cases ∷ choices) part places k
later first cases choices part places k h =
    record { after = suc h.after; within = omega (arith, h.within); place = omega (arith, h.place); same = h.same }

next_placed : (first : ℕ) (cases : List Case) (choices part : List (List Case)) (places : List ℕ) (b : Bool) → ((k : ℕ) → k < length part → IsPlaced (suc first) choices part places k) → (k : ℕ) → k < length (cond b (cases ∷ part) part) → IsPlaced first (cases ∷ choices) (cond b (cases ∷ part) part) (cond b (first ∷ places) places) k
next_placed first cases choices part places true h zero lt =
    record { after = 0; within = omega arith; place = omega arith; same = refl }
next_placed first cases choices part places true h (suc k) lt =
    let is = h k (omega arith) in
    record { after = suc is.after; within = omega (arith, is.within); place = omega (arith, is.place); same = is.same }
next_placed first cases choices part places false h k lt = later first cases choices part places k (h k lt)

all_places : (test : ℕ → Bool) (first : ℕ) (choices : List (List Case)) (k : ℕ) → k < length (part_of test choices) → IsPlaced first choices (part_of test choices) (places_of test first choices) k
all_places test first [] k lt = absurd (omega arith)
all_places test first (c ∷ choices) k lt =
    next_placed first c choices (part_of test choices) (places_of test (suc first) choices) (choice_passes test c)
    (all_places test (suc first) choices) k lt

refutes_all : (choices part : List (List Case)) (places : List ℕ) → ((k : ℕ) → k < length part → IsPlaced 0 choices part places k) → (left : List Case) (steps : List Step) → Refutes part left steps → Refutes choices left (map (placed places) steps)
refutes_all choices part places h [] [] r = tt
refutes_all choices part places h [] (step ∷ steps) r = absurd r
refutes_all choices part places h (g ∷ left) [] r = absurd r
refutes_all choices part places h (g ∷ left) (Split choice ∷ steps) r =
    let is = h choice r.0 in
    let at : is.after ≡ slice_index places choice = omega (arith, is.place) in
    subst (λ (n : ℕ). (n < length choices) × Refutes choices (with_each g (cases_at choices n) ++ left) (map (placed places) steps)) at (
      is.within,
      subst (λ (cs : List Case). Refutes choices (with_each g cs ++ left) (map (placed places) steps)) (sym is.same)
          (refutes_all choices part places h (with_each g (cases_at part choice) ++ left) steps r.1),
    )
refutes_all choices part places h (g ∷ left) (Cycle around ∷ steps) r = (r.0, refutes_all choices part places h left steps r.1)

-- steps that refute the choices of a part refute all choices
pub refutes_placed : (test : ℕ → Bool) (choices : List (List Case)) (steps : List Step) → Refutes (part_of test choices) ([] ∷ []) steps → Refutes choices ([] ∷ []) (map (placed (places_of test 0 choices)) steps)
refutes_placed test choices steps r =
    refutes_all choices (part_of test choices) (places_of test 0 choices) (all_places test 0 choices) ([] ∷ []) steps r
