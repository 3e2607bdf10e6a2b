-- Refutations that use no bounds of a case refute the bounds without the case.
use Rattle.std.proofs.Common.{◌≡◌, ℕ, zero, suc, ◌+◌, ◌-◌, ◌<◌, ◌≤◌, ℤ, Bool, true, false, cond, List, [], ◌∷◌, ◌++◌, map, length, length-append, take, reverse, append-nil, append_assoc, get_or, arith, refl, ap, sym, subst, ◌∙◌}
use Rattle.std.specs.Prelude.{slice_get, nat_lt, nat_le, ◌+ℤ◌, ◌<ℤ◌, pos, Contains, Option}
use Rattle.std.specs.List.{AllZip}
use Rattle.std.proofs.lemmas.Bool.{ltb-true, leb-true}
use Rattle.std.proofs.lemmas.Option.{slice_get_within}
use Rattle.std.proofs.lemmas.List.{length-take-le, reverse-append}
use Rattle.std.proofs.lemmas.List.Elements.{AllZip-push}
use Rattle.difference_solver.specs.Cycle.{IsWalk, at_most_of, total, IsNegativeCycle}
use Rattle.difference_solver.specs.declared.bound.Bound.{Bound}
use Rattle.difference_solver.specs.Branches.{case_of, IsBranch}
use Rattle.difference_solver.specs.Choices.{Case, cases_at, with_each}
use Rattle.difference_solver.specs.Floors.{all_before}
use Rattle.difference_solver.specs.Lifting.{is_apart, all_apart, all_avoid, lowered, IsLowered}
use Rattle.difference_solver.specs.Steps.{Refutes}
use Rattle.difference_solver.specs.declared.choice.Step.{Step}
use Rattle.difference_solver.specs.declared.choice.Step.TheVariants.{Split, Cycle}
use Rattle.difference_solver.specs.declared.walk.Branch.{Branch}
use Rattle.difference_solver.proofs.Passing.{two}

get_front : (g xs : Case) (i : ℕ) → i < length g → slice_get (g ++ xs) i ≡ slice_get g i
get_front [] xs i lt = absurd (omega arith)
get_front (b ∷ g) xs zero lt = refl
get_front (b ∷ g) xs (suc i) lt = get_front g xs i (omega arith)

get_before : (g xs ys : Case) (i : ℕ) → i < length g → slice_get (g ++ xs) i ≡ slice_get (g ++ ys) i
get_before g xs ys i lt = get_front g xs i lt ∙ sym (get_front g ys i lt)

walk_front : (g xs : Case) (plus : ℕ) (indices : List ℕ) (minus : ℕ) → all_before (length g) indices ≡ true → IsWalk (g ++ xs) plus indices minus → IsWalk g plus indices minus
walk_front g xs plus [] minus before w = w
walk_front g xs plus (i ∷ indices) minus before (b, at, is, rest) =
    let parts = two (nat_lt i (length g)) (all_before (length g) indices) before in
    let lt : i < length g = ltb-true i (length g) parts.0 in
    (b, sym (get_front g xs i lt) ∙ at, is, walk_front g xs b.minus indices minus parts.1 rest)

total_front : (g xs : Case) (indices : List ℕ) → all_before (length g) indices ≡ true → total (g ++ xs) indices ≡ total g indices
total_front g xs [] before = refl
total_front g xs (i ∷ indices) before =
    let parts = two (nat_lt i (length g)) (all_before (length g) indices) before in
    let lt : i < length g = ltb-true i (length g) parts.0 in
    ap (λ (o : Option Bound). at_most_of o +ℤ total (g ++ xs) indices) (get_front g xs i lt)
    ∙ ap (λ (z : ℤ). at_most_of (slice_get g i) +ℤ z) (total_front g xs indices parts.1)

-- a cycle that uses the first bounds alone is one of these
pub cycle_front : (g xs : Case) (indices : List ℕ) → all_before (length g) indices ≡ true → IsNegativeCycle (g ++ xs) indices → IsNegativeCycle g indices
cycle_front g xs indices before h =
    record {
      start = h.start;
      closed = walk_front g xs h.start indices h.start before h.closed;
      negative = subst (λ (z : ℤ). z <ℤ pos 0) (total_front g xs indices before) h.negative;
    }

walk_within : (bounds : Case) (plus : ℕ) (indices : List ℕ) (minus k d : ℕ) → IsWalk bounds plus indices minus → k < length indices → get_or indices k d < length bounds
walk_within bounds plus [] minus k d w lt = absurd (omega arith)
walk_within bounds plus (i ∷ indices) minus zero d (b, at, is, rest) lt = slice_get_within bounds i b at
walk_within bounds plus (i ∷ indices) minus (suc k) d (b, at, is, rest) lt =
    walk_within bounds b.minus indices minus k d rest (omega arith)

-- the bounds of a cycle are there
pub cycle_within : (bounds : Case) (indices : List ℕ) (i : ℕ) → IsNegativeCycle bounds indices → Contains indices i → i < length bounds
cycle_within bounds indices i h (k, lt, at) =
    subst (λ (n : ℕ). n < length bounds) at (walk_within bounds h.start indices h.start k i h.closed lt)

get_behind : (g xs : Case) (i : ℕ) → slice_get (g ++ xs) (length g + i) ≡ slice_get xs i
get_behind [] xs i = let e : 0 + i ≡ i = omega arith in ap (slice_get xs) e
get_behind (b ∷ g) xs i =
    let e : length (b ∷ g) + i ≡ suc (length g + i) = omega arith in
    ap (slice_get (b ∷ (g ++ xs))) e ∙ get_behind g xs i

lowered_by : (g case d : Case) (i : ℕ) (t : Bool) → nat_lt i (length g) ≡ t → cond t true (nat_le (length g + length case) i) ≡ true → slice_get (g ++ (case ++ d)) i ≡ slice_get (g ++ d) (cond t i (i - length case))
lowered_by g case d i true before apart =
    get_before g (case ++ d) d i (ltb-true i (length g) before)
lowered_by g case d i false before apart =
    let le : length g + length case ≤ i = leb-true (length g + length case) i apart in
    let j : ℕ = i - (length g + length case) in
    let from_ : i ≡ length g + (length case + (i - (length g + length case))) = omega arith in
    let onto : length g + (i - (length g + length case)) ≡ i - length case = omega arith in
    ap (slice_get (g ++ (case ++ d))) from_
    ∙ get_behind g (case ++ d) (length case + j)
    ∙ get_behind case d j
    ∙ sym (get_behind g d j)
    ∙ ap (slice_get (g ++ d)) onto

-- a bound that is kept is found at its new index
get_lowered : (g case d : Case) (i : ℕ) → is_apart (length g) (length g + length case) i ≡ true → slice_get (g ++ (case ++ d)) i ≡ slice_get (g ++ d) (lowered (length g) (length case) i)
get_lowered g case d i apart = lowered_by g case d i (nat_lt i (length g)) refl apart

walk_lowered : (g case d : Case) (plus : ℕ) (indices : List ℕ) (minus : ℕ) → all_apart (length g) (length g + length case) indices ≡ true → IsWalk (g ++ (case ++ d)) plus indices minus → IsWalk (g ++ d) plus (map (lowered (length g) (length case)) indices) minus
walk_lowered g case d plus [] minus apart w = w
walk_lowered g case d plus (i ∷ indices) minus apart (b, at, is, rest) =
    let parts = two (is_apart (length g) (length g + length case) i) (all_apart (length g) (length g + length case) indices) apart in
    (b, sym (get_lowered g case d i parts.0) ∙ at, is, walk_lowered g case d b.minus indices minus parts.1 rest)

total_lowered : (g case d : Case) (indices : List ℕ) → all_apart (length g) (length g + length case) indices ≡ true → total (g ++ (case ++ d)) indices ≡ total (g ++ d) (map (lowered (length g) (length case)) indices)
total_lowered g case d [] apart = refl
total_lowered g case d (i ∷ indices) apart =
    let parts = two (is_apart (length g) (length g + length case) i) (all_apart (length g) (length g + length case) indices) apart in
    ap (λ (o : Option Bound). at_most_of o +ℤ total (g ++ (case ++ d)) indices) (get_lowered g case d i parts.0)
    ∙ ap (λ (z : ℤ). at_most_of (slice_get (g ++ d) (lowered (length g) (length case) i)) +ℤ z) (total_lowered g case d indices parts.1)

cycle_lowered : (g case d : Case) (indices : List ℕ) → all_apart (length g) (length g + length case) indices ≡ true → IsNegativeCycle (g ++ (case ++ d)) indices → IsNegativeCycle (g ++ d) (map (lowered (length g) (length case)) indices)
cycle_lowered g case d indices apart h =
    record {
      start = h.start;
      closed = walk_lowered g case d h.start indices h.start apart h.closed;
      negative = subst (λ (z : ℤ). z <ℤ pos 0) (total_lowered g case d indices apart) h.negative;
    }

-- bounds before and behind those that are gathered
behind : (F : Case → Case) → ((d c : Case) → F d ++ c ≡ F (d ++ c)) → (d : Case) (cs ds : List Case) → with_each (F d) cs ++ map F ds ≡ map F (with_each d cs ++ ds)
behind F law d [] ds = refl
behind F law d (c ∷ cs) ds =
    ap (λ (x : Case). x ∷ (with_each (F d) cs ++ map F ds)) (law d c)
    ∙ ap (λ (xs : List Case). F (d ++ c) ∷ xs) (behind F law d cs ds)

abbrev with_case : Case → Case → Case → Case
with_case g case d = g ++ (case ++ d)

abbrev without : Case → Case → Case
without g d = g ++ d

with_law : (g case d c : Case) → with_case g case d ++ c ≡ with_case g case (d ++ c)
with_law g case d c = append_assoc g (case ++ d) c ∙ ap (λ (x : Case). g ++ x) (append_assoc case d c)

without_law : (g d c : Case) → without g d ++ c ≡ without g (d ++ c)
without_law g d c = append_assoc g d c

refutes_lowered : (choices : List (List Case)) (g case : Case) (ds : List Case) (steps after : List Step) → all_avoid (length g) (length g + length case) steps ≡ true → AllZip (IsLowered (length g) (length case)) steps after → Refutes choices (map (with_case g case) ds) steps → Refutes choices (map (without g) ds) after
refutes_lowered choices g case [] [] [] away zip r = tt
refutes_lowered choices g case [] [] (t ∷ after) away zip r = absurd zip
refutes_lowered choices g case [] (s ∷ steps) after away zip r = absurd r
refutes_lowered choices g case (d ∷ ds) [] after away zip r = absurd r
refutes_lowered choices g case (d ∷ ds) (s ∷ steps) [] away zip r = absurd zip
refutes_lowered choices g case (d ∷ ds) (Split choice ∷ steps) (Split other ∷ after) away zip r =
    let cases : List Case = cases_at choices choice in
    let rest : Refutes choices (map (without g) (with_each d cases ++ ds)) after =
    refutes_lowered choices g case (with_each d cases ++ ds) steps after away zip.1
    (subst (λ (xs : List Case). Refutes choices xs steps) (behind (with_case g case) (with_law g case) d cases ds) r.1) in
    subst (λ (n : ℕ). (n < length choices) × Refutes choices (with_each (g ++ d) (cases_at choices n) ++ map (without g) ds) after) zip.0 (
      r.0,
      subst (λ (xs : List Case). Refutes choices xs after) (sym (behind (without g) (without_law g) d cases ds)) rest,
    )
refutes_lowered choices g case (d ∷ ds) (Split choice ∷ steps) (Cycle around ∷ after) away zip r = absurd zip.0
refutes_lowered choices g case (d ∷ ds) (Cycle around ∷ steps) (Split other ∷ after) away zip r = absurd zip.0
refutes_lowered choices g case (d ∷ ds) (Cycle around ∷ steps) (Cycle lower ∷ after) away zip r =
    let parts = two (all_apart (length g) (length g + length case) around.items) (all_avoid (length g) (length g + length case) steps) away in (
      subst (λ (indices : List ℕ). IsNegativeCycle (g ++ d) indices) (sym zip.0) (cycle_lowered g case d around.items parts.0 r.0),
      refutes_lowered choices g case ds steps after parts.1 zip.1 r.1,
    )

without_case : (choices : List (List Case)) (g case : Case) (steps after : List Step) → all_avoid (length g) (length g + length case) steps ≡ true → AllZip (IsLowered (length g) (length case)) steps after → Refutes choices ((g ++ case) ∷ []) steps → Refutes choices (g ∷ []) after
without_case choices g case steps after away zip r =
    let whole : g ++ case ≡ with_case g case [] = ap (λ (x : Case). g ++ x) (sym (append-nil case)) in
    subst (λ (x : Case). Refutes choices (x ∷ []) after) (append-nil g)
    (refutes_lowered choices g case ([] ∷ []) steps after away zip (subst (λ (x : Case). Refutes choices (x ∷ []) steps) whole r))

-- steps that use no bounds of the case of a branch refute what it is split from
pub split_refuted : (choices : List (List Case)) (gathered : Case) (b : Branch) (limit width : ℕ) (steps after : List Step) → IsBranch choices gathered b → limit ≡ length gathered → width ≡ length gathered - b.start → all_avoid b.start limit steps ≡ true → AllZip (IsLowered b.start width) steps after → Refutes choices (gathered ∷ []) steps → Refutes choices (take b.start gathered ∷ []) after
split_refuted choices gathered b limit width steps after is to wide away zip r =
    let g : Case = take b.start gathered in
    let case : Case = case_of choices b in
    let start : length (take b.start gathered) ≡ b.start = length-take-le b.start gathered is.start in
    let whole : length gathered ≡ length (take b.start gathered) + length (case_of choices b) =
    ap length is.ends ∙ length-append (take b.start gathered) (case_of choices b) in
    let until : limit ≡ length (take b.start gathered) + length (case_of choices b) = to ∙ whole in
    let many : width ≡ length (case_of choices b) = omega (arith, start, whole, wide) in
    without_case choices g case steps after
    (ap (λ (n : ℕ). all_avoid n (length g + length case) steps) start ∙ ap (λ (n : ℕ). all_avoid b.start n steps) (sym until) ∙ away)
    (subst (λ (n : ℕ). AllZip (IsLowered n (length case)) steps after) (sym start)
    (subst (λ (n : ℕ). AllZip (IsLowered b.start n) steps after) many zip))
    (subst (λ (x : Case). Refutes choices (x ∷ []) steps) is.ends r)

-- the step that is taken off last is lowered, and put before those that were
pub zip_more : (first width : ℕ) (initial all rest : List Step) (x y : Step) (after new : List Step) → all ≡ rest ++ x ∷ [] → new ≡ after ++ y ∷ [] → IsLowered first width x y → ((ys : List Step) → AllZip (IsLowered first width) all ys → AllZip (IsLowered first width) initial (ys ++ reverse after)) → (ys : List Step) → AllZip (IsLowered first width) rest ys → AllZip (IsLowered first width) initial (ys ++ reverse new)
zip_more first width initial all rest x y after new popped pushed is before ys zip =
    let turned : reverse new ≡ y ∷ reverse after = ap reverse pushed ∙ reverse-append after (y ∷ []) in
    let longer : (ys ++ y ∷ []) ++ reverse after ≡ ys ++ reverse new =
    append_assoc ys (y ∷ []) (reverse after) ∙ ap (λ (zs : List Step). ys ++ zs) (sym turned) in
    subst (λ (zs : List Step). AllZip (IsLowered first width) initial zs) longer
    (before (ys ++ y ∷ []) (subst (λ (zs : List Step). AllZip (IsLowered first width) zs (ys ++ y ∷ [])) (sym popped)
    (AllZip-push (IsLowered first width) rest ys x y zip is)))
