-- Steps of refutations, and the alternatives that the checker keeps.
use Rattle.std.proofs.Common.{◌≡◌, ℕ, zero, suc, ◌≤◌, ◌+◌, ◌<◌, ◌↔◌, List, [], ◌∷◌, ◌++◌, length, length-append, take, map, Option, Some, None, Result, Ok, Err, IfOk, MatchOption, refl, sym, ap, ap₂, ◌∙◌, subst, append_assoc, arith}
use Rattle.std.specs.Prelude.{reverse, slice_get}
use Rattle.std.specs.Global.{Vec}
use Rattle.sn_width.specs.declared.memory.NoMemory.{NoMemory}
use Rattle.std.proofs.lemmas.List.{reverse-append, length-take, length-map, length-reverse}
use Rattle.path_formula.specs.View.{view}
use Rattle.path_cond.specs.Conditions.{Condition, Entry}
use Rattle.path_formula.specs.Bounds.{Case, lists_of}
use Rattle.path_formula.specs.Cases.{cases_of, with_bounds}
use Rattle.path_formula.specs.Members.{Member, member_of}
use Rattle.path_formula.specs.Splits.{CanSplit}
use Rattle.path_formula.specs.declared.sym_bound.SymBound.{SymBound}
use Rattle.refutation_check.specs.Accepted.{IsSplitInto, Leaves, Refutes, Advances, Reaches}
use Rattle.refutation_check.specs.Agenda.{starts, AreNested, alternative_with}
use Rattle.refutation_check.specs.declared.agenda.Alternative.{Alternative}
use Rattle.refutation_check.specs.declared.steps.Refute.{Refute}
use Rattle.refutation_check.specs.declared.steps.Refute.TheVariants.{Empty, Domain, Split, Cycle}

-- Steps

one_found : {E : Type 0} (o : Option E) (x y : E) → o ≡ Some x → o ≡ Some y → x ≡ y
one_found o x y h k = cc

-- the member of a split is the one to which the way leads
pub member_found : (c : Condition) (pick : ℕ) (way : List ℕ) (cases : List Case) (h : IsSplitInto c pick way cases) (e : Entry) → slice_get c.entries pick ≡ Some e → member_of (view e.0) e.1 way ≡ Some h.member
member_found c pick way cases h e at =
    ap (λ (d : Entry). member_of (view d.0) d.1 way) (one_found (slice_get c.entries pick) e h.entry at h.at) ∙ h.leads

same_split : (c : Condition) (pick : ℕ) (way : List ℕ) (xs ys : List Case) → IsSplitInto c pick way xs → IsSplitInto c pick way ys → xs ≡ ys
same_split c pick way xs ys h k =
    let same = one_found (member_of (view k.entry.0) k.entry.1 way) h.member k.member (member_found c pick way xs h k.entry k.at) k.leads in
    h.cases_are ∙ ap (λ (m : Member). cases_of m.0 m.1) same ∙ sym k.cases_are

-- the member has no cases, or too many
pub no_cases : (c : Condition) (pick : ℕ) (way : List ℕ) (cases : List Case) (e : Entry) (m : Member) (room : ℕ) → slice_get c.entries pick ≡ Some e → member_of (view e.0) e.1 way ≡ Some m
    → (CanSplit m.0 → length (cases_of m.0 m.1) ≤ room → ⊥) → IsSplitInto c pick way cases → length cases ≤ room → ⊥
no_cases c pick way cases e m room at leads none h few =
    let same = one_found (member_of (view e.0) e.1 way) h.member m (member_found c pick way cases h e at) leads in
    none (subst (λ (x : Member). CanSplit x.0) same h.splits) (subst (λ (x : Member). length (cases_of x.0 x.1) ≤ room) same (subst (λ cs. length cs ≤ room) h.cases_are few))

-- what the cases of a member say of the split
split_found : (c : Condition) (pick : ℕ) (way : List ℕ) (e : Entry) (m : Member) (room : ℕ) → slice_get c.entries pick ≡ Some e → member_of (view e.0) e.1 way ≡ Some m
    → (found : Option (Vec (Vec SymBound)))
    → MatchOption found (CanSplit m.0 → length (cases_of m.0 m.1) ≤ room → ⊥) (λ cases. CanSplit m.0 × (lists_of cases.items ≡ cases_of m.0 m.1))
    → MatchOption found ((cases : List Case) → IsSplitInto c pick way cases → length cases ≤ room → ⊥) (λ cases. IsSplitInto c pick way (lists_of cases.items))
split_found c pick way e m room at leads None h = λ cases is few. no_cases c pick way cases e m room at leads h is few
split_found c pick way e m room at leads (Some cases) h = record { entry = e; at = at; member = m; leads = leads; splits = h.0; cases_are = h.1 }

pub split_answer : (c : Condition) (pick : ℕ) (way : List ℕ) (e : Entry) (m : Member) (room : ℕ) → slice_get c.entries pick ≡ Some e → member_of (view e.0) e.1 way ≡ Some m
    → (answer : Result (Option (Vec (Vec SymBound))) NoMemory)
    → IfOk answer (λ found. MatchOption found (CanSplit m.0 → length (cases_of m.0 m.1) ≤ room → ⊥) (λ cases. CanSplit m.0 × (lists_of cases.items ≡ cases_of m.0 m.1)))
    → IfOk answer (λ found. MatchOption found ((cases : List Case) → IsSplitInto c pick way cases → length cases ≤ room → ⊥) (λ cases. IsSplitInto c pick way (lists_of cases.items)))
split_answer c pick way e m room at leads (Ok found) h = split_found c pick way e m room at leads found h
split_answer c pick way e m room at leads (Err fault) h = tt

leaves_same : (c : Condition) (g : Case) (step : Refute) (xs ys : List Case) → Leaves c g step xs → Leaves c g step ys → xs ≡ ys
leaves_same c g (Empty s picks) xs ys h k = h.1 ∙ sym k.1
leaves_same c g (Domain s) xs ys h k = h.1 ∙ sym k.1
leaves_same c g (Split pick way) xs ys h k = same_split c pick way xs ys h k
leaves_same c g (Cycle bounds) xs ys h k = h.1 ∙ sym k.1

advances_same : (c : Condition) (before : List Case) (step : Refute) (xs ys : List Case) → Advances c before step xs → Advances c before step ys → xs ≡ ys
advances_same c [] step xs ys h k = absurd h
advances_same c (g ∷ rest) step xs ys h k = h.2 ∙ ap (λ cs. with_bounds cs g ++ rest) (leaves_same c g step h.0 k.0 h.1 k.1) ∙ sym k.2

-- the first step of several
refutes_first : (c : Condition) (before : List Case) (step : Refute) (steps : List Refute) → Refutes c before (step ∷ steps) → (next : List Case) × Advances c before step next × Refutes c next steps
refutes_first c [] step steps h = absurd h
refutes_first c (g ∷ rest) step steps h = (with_bounds h.0 g ++ rest, (h.0, h.1, refl), h.2)

pub refutes_from : (c : Condition) (before next : List Case) (step : Refute) (steps : List Refute) → Advances c before step next → Refutes c next steps → Refutes c before (step ∷ steps)
refutes_from c [] next step steps h k = absurd h
refutes_from c (g ∷ rest) next step steps h k = (h.0, h.1, subst (λ ps. Refutes c ps steps) h.2 k)

-- where the first step is right, the others decide
pub refutes_next : (c : Condition) (before next : List Case) (step : Refute) (steps rest : List Refute) → steps ≡ step ∷ rest → Advances c before step next → Refutes c before steps ↔ Refutes c next rest
refutes_next c before next step steps rest is h = (
  λ k.
      let first = refutes_first c before step rest (subst (Refutes c before) is k) in
      subst (λ ps. Refutes c ps rest) (advances_same c before step first.0 next first.1 h) first.2,
  λ k. subst (Refutes c before) (sym is) (refutes_from c before next step rest h k),
)

-- each step takes one alternative away
pub steps_bound : (c : Condition) (alternatives : List Case) (steps : List Refute) → Refutes c alternatives steps → length alternatives ≤ length steps
steps_bound c [] [] h = omega arith
steps_bound c [] (step ∷ steps) h = absurd h
steps_bound c (g ∷ alternatives) [] h = absurd h
steps_bound c (g ∷ alternatives) (step ∷ steps) h =
    omega (arith, steps_bound c (with_bounds h.0 g ++ alternatives) steps h.2, length-append (with_bounds h.0 g) alternatives)

-- where the first step is not right, or leaves more alternatives than there are steps left, the steps refute nothing
pub refutes_not : (c : Condition) (before : List Case) (step : Refute) (steps rest : List Refute) (left : ℕ) → steps ≡ step ∷ rest → length rest ≡ left → ((next : List Case) → Advances c before step next → length next ≤ left → ⊥) → Refutes c before steps → ⊥
refutes_not c before step steps rest left is count not k =
    let first = refutes_first c before step rest (subst (Refutes c before) is k) in
    not first.0 first.1 (omega (arith, steps_bound c first.0 rest first.2, count))

-- Alternatives

starts-append : (g : Case) (xs ys : List Alternative) → starts g (xs ++ ys) ≡ starts g xs ++ starts g ys
starts-append g [] ys = refl
starts-append g (x ∷ xs) ys = ap (λ zs. (take x.kept g ++ x.case.items) ∷ zs) (starts-append g xs ys)

take_whole : {X : Type 0} (xs : List X) → take (length xs) xs ≡ xs
take_whole [] = refl
take_whole (x ∷ xs) = ap (λ ys. x ∷ ys) (take_whole xs)

starts-cases : (g : Case) (cases : List (Vec SymBound)) → starts g (map (alternative_with (length g)) cases) ≡ with_bounds (lists_of cases) g
starts-cases g [] = refl
starts-cases g (c ∷ cases) = ap₂ (λ z zs. z ∷ zs) (ap (λ xs. xs ++ c.items) (take_whole g)) (starts-cases g cases)

take_less : (g x : Case) (k n : ℕ) → n ≤ k → k ≤ length g → take n (take k g ++ x) ≡ take n g
take_less g x k zero h fits = refl
take_less [] x zero (suc n) h fits = absurd (omega arith)
take_less [] x (suc k) (suc n) h fits = absurd (omega arith)
take_less (b ∷ g) x zero (suc n) h fits = absurd (omega arith)
take_less (b ∷ g) x (suc k) (suc n) h fits = ap (λ ys. b ∷ ys) (take_less g x k n (omega arith) (omega arith))

-- other bounds behind those that are kept change nothing
starts-kept : (g x : Case) (k n : ℕ) (xs : List Alternative) → AreNested n xs → n ≤ k → k ≤ length g → starts (take k g ++ x) xs ≡ starts g xs
starts-kept g x k n [] h le fits = refl
starts-kept g x k n (a ∷ xs) h le fits =
    ap₂ (λ z zs. z ∷ zs) (ap (λ ys. ys ++ a.case.items) (take_less g x k a.kept (omega (arith, h.0)) fits)) (starts-kept g x k a.kept xs h.1 (omega (arith, h.0)) fits)

nested-most : (m n : ℕ) (xs : List Alternative) → m ≤ n → AreNested m xs → AreNested n xs
nested-most m n [] le h = tt
nested-most m n (a ∷ xs) le h = (omega (arith, h.0), h.1)

nested-cases : (n : ℕ) (cases : List (Vec SymBound)) (xs : List Alternative) → AreNested n xs → AreNested n (map (alternative_with n) cases ++ xs)
nested-cases n [] xs h = h
nested-cases n (c ∷ cases) xs h = (omega arith, nested-cases n cases xs h)

length_kept : (g x : Case) (k : ℕ) → k ≤ length g → k ≤ length (take k g ++ x)
length_kept g x k fits = omega (arith, length-append (take k g) x, length-take k g)

last_first : (xs rest : List Alternative) (a : Alternative) → xs ≡ rest ++ a ∷ [] → reverse xs ≡ a ∷ reverse rest
last_first xs rest a is = ap reverse is ∙ reverse-append rest (a ∷ [])

-- what the checker keeps after a step
pub record Kept (c : Condition) (before : List Case) (step : Refute) (gathered : Case) (later : List Alternative) : Type 0 where
  pub advances : Advances c before step (starts gathered (reverse later))
  pub nested : AreNested (length gathered) (reverse later)

-- the last of the alternatives is divided into these cases
pub divided : (c : Condition) (step : Refute) (g : Case) (alternatives rest : List Alternative) (a : Alternative) (gathered : Case) (cases : List (Vec SymBound)) (later : List Alternative)
    → alternatives ≡ rest ++ a ∷ [] → AreNested (length g) (reverse alternatives) → gathered ≡ take a.kept g ++ a.case.items → Leaves c gathered step (lists_of cases)
    → reverse later ≡ map (alternative_with (length gathered)) cases ++ reverse rest → Kept c (starts g (reverse alternatives)) step gathered later
divided c step g alternatives rest a gathered cases later is nested begun leaves pushed =
    let turned = last_first alternatives rest a is in
    let nest = subst (AreNested (length g)) turned nested in
    let same : starts g (reverse rest) ≡ starts gathered (reverse rest) =
    sym (ap (λ b. starts b (reverse rest)) begun ∙ starts-kept g a.case.items a.kept a.kept (reverse rest) nest.1 (omega arith) nest.0) in
    let before : starts g (reverse alternatives) ≡ gathered ∷ starts gathered (reverse rest) = ap (starts g) turned ∙ ap₂ (λ z zs. z ∷ zs) (sym begun) same in
    let after : starts gathered (reverse later) ≡ with_bounds (lists_of cases) gathered ++ starts gathered (reverse rest) =
    ap (starts gathered) pushed ∙ starts-append gathered (map (alternative_with (length gathered)) cases) (reverse rest) ∙ ap (λ xs. xs ++ starts gathered (reverse rest)) (starts-cases gathered cases) in
    let room : a.kept ≤ length gathered = subst (λ (b : Case). a.kept ≤ length b) (sym begun) (length_kept g a.case.items a.kept nest.0) in
    record {
      advances = subst (λ ps. Advances c ps step (starts gathered (reverse later))) (sym before) (lists_of cases, leaves, after);
      nested = subst (AreNested (length gathered)) (sym pushed) (nested-cases (length gathered) cases (reverse rest) (nested-most a.kept (length gathered) (reverse rest) room nest.1));
    }

length_starts : (g : Case) (xs : List Alternative) → length (starts g xs) ≡ length xs
length_starts g [] = refl
length_starts g (x ∷ xs) = ap suc (length_starts g xs)

-- more alternatives are open than may be
pub no_room : (c : Condition) (step : Refute) (g : Case) (alternatives rest : List Alternative) (a : Alternative) (left : ℕ)
    → alternatives ≡ rest ++ a ∷ [] → left < length rest
    → (after : List Case) → Advances c (starts g (reverse alternatives)) step after → length after ≤ left → ⊥
no_room c step g alternatives rest a left is lt after h le =
    let k = subst (λ ps. Advances c ps step after) (ap (starts g) (last_first alternatives rest a is)) h in
    let first = with_bounds k.0 (take a.kept g ++ a.case.items) in
    let other = starts g (reverse rest) in
    let count : length after ≡ length first + length other = ap length k.2 ∙ length-append first other in
    omega (arith, le, lt, count, length_starts g (reverse rest), length-reverse rest)

-- the step is not right for the last of the alternatives, or leaves more than there is room for
pub not_divided : (c : Condition) (step : Refute) (g : Case) (alternatives rest : List Alternative) (a : Alternative) (gathered : Case) (left room : ℕ)
    → alternatives ≡ rest ++ a ∷ [] → gathered ≡ take a.kept g ++ a.case.items → length rest + room ≡ left → ((cases : List Case) → Leaves c gathered step cases → length cases ≤ room → ⊥)
    → (after : List Case) → Advances c (starts g (reverse alternatives)) step after → length after ≤ left → ⊥
not_divided c step g alternatives rest a gathered left room is begun fits not after h le =
    let before = ap (starts g) (last_first alternatives rest a is) ∙ ap (λ z. z ∷ starts g (reverse rest)) (sym begun) in
    let k = subst (λ ps. Advances c ps step after) before h in
    let first = with_bounds k.0 gathered in
    let other = starts g (reverse rest) in
    let count : length after ≡ length first + length other = ap length k.2 ∙ length-append first other in
    not k.0 k.1 (omega (arith, le, fits, count, length-map k.0 (λ (x : Case). gathered ++ x), length_starts g (reverse rest), length-reverse rest))

none_left : (g : Case) (xs : List Alternative) → starts g xs ≡ [] → xs ≡ []
none_left g [] h = refl
none_left g (x ∷ xs) h = cc

not_end : (ys : List Alternative) (a : Alternative) → [] ≡ ys ++ a ∷ [] → ⊥
not_end [] a e = cc
not_end (y ∷ ys) a e = cc

reverse_none : (xs : List Alternative) → reverse xs ≡ [] → xs ≡ []
reverse_none [] h = refl
reverse_none (x ∷ xs) h = absurd (not_end (reverse xs) x (sym h ∙ reverse-append (x ∷ []) xs))

-- no alternatives are left
pub done : (g : Case) (xs : List Alternative) → starts g (reverse xs) ≡ [] → xs ≡ []
done g xs h = reverse_none xs (none_left g (reverse xs) h)

-- Joining

pub one_more : (c : Condition) (steps : List Refute) (before middle after : List Case) (step : Refute) → Reaches c before steps middle → Advances c middle step after → Reaches c before (steps ++ step ∷ []) after
one_more c [] before middle after step h k = (after, subst (λ ps. Advances c ps step after) (sym h) k, refl)
one_more c (s ∷ steps) before middle after step h k = (h.0, h.1, one_more c steps h.0 middle after step h.2 k)

nothing_by : (c : Condition) (before : List Case) → before ≡ [] → Refutes c before []
nothing_by c before h = subst (λ ps. Refutes c ps []) (sym h) tt

pub nothing_left : (c : Condition) (steps : List Refute) (before : List Case) → Reaches c before steps [] → Refutes c before steps
nothing_left c [] before h = nothing_by c before h
nothing_left c (step ∷ steps) before h = refutes_from c before h.0 step steps h.1 (nothing_left c steps h.0 h.2)

pub joined_refutes : (c : Condition) (steps : List Refute) (firsts seconds : List Case) (more : List Refute) → Refutes c firsts steps → Refutes c seconds more → Refutes c (firsts ++ seconds) (steps ++ more)
joined_refutes c [] [] seconds more h k = k
joined_refutes c [] (g ∷ firsts) seconds more h k = absurd h
joined_refutes c (step ∷ steps) [] seconds more h k = absurd h
joined_refutes c (step ∷ steps) (g ∷ firsts) seconds more h k =
    let rest = joined_refutes c steps (with_bounds h.0 g ++ firsts) seconds more h.2 k in
    (h.0, h.1, subst (λ ps. Refutes c ps (steps ++ more)) (append_assoc (with_bounds h.0 g) firsts seconds) rest)
