-- Choices whose unknowns pass a test.
use Rattle.std.proofs.Common.{◌≡◌, ℕ, suc, ◌<◌, ◌≤◌, ℤ, Bool, true, false, cond, eqb, eq-eqb, ne_eqb, eqb-true, List, [], ◌∷◌, inl, inr, length, arith, refl, sym, subst}
use Rattle.std.specs.Prelude.{All, slice_index, ◌≤ℤ◌, ◌+ℤ◌}
use Rattle.std.proofs.lemmas.List.Elements.{All-nil, All-cons, All-head, All-tail, All-contains}
use Rattle.difference_solver.specs.declared.bound.Bound.{Bound}
use Rattle.difference_solver.specs.Bound.{Meets, number, IsInRange}
use Rattle.difference_solver.specs.Choices.{Case, MeetsOne, MeetsEach, AreInRange, EachHasBelow, OneHasBelow}
use Rattle.difference_solver.specs.Parts.{has_label, case_passes, choice_passes, part_of, EachHasLabel}

pub three : (a b c : Bool) → cond a (cond b c false) false ≡ true → (a ≡ true) × (b ≡ true) × (c ≡ true)
three true true true h = (refl, refl, refl)
three true true false h = absurd (cc)
three true false c h = absurd (cc)
three false b c h = absurd (cc)

pub two : (a b : Bool) → cond a b false ≡ true → (a ≡ true) × (b ≡ true)
two true true h = (refl, refl)
two true false h = absurd (cc)
two false b h = absurd (cc)

-- the integers of the unknowns that pass are the same
abbrev pub Agrees : (ℕ → Bool) → List ℤ → List ℤ → Type 0
Agrees test v w = (u : ℕ) → test u ≡ true → number v u ≡ number w u

same_meets : (test : ℕ → Bool) (v w : List ℤ) (b : Bound) → Agrees test v w → test b.plus ≡ true → test b.minus ≡ true → Meets v b → Meets w b
same_meets test v w b agrees plus minus h =
    subst (λ (x : ℤ). x ≤ℤ (number w b.minus +ℤ b.at_most)) (agrees b.plus plus)
    (subst (λ (y : ℤ). number v b.plus ≤ℤ (y +ℤ b.at_most)) (agrees b.minus minus) h)

same_all : (test : ℕ → Bool) (v w : List ℤ) (case : Case) → Agrees test v w → case_passes test case ≡ true → All (Meets v) case → All (Meets w) case
same_all test v w [] agrees p h = All-nil (Meets w)
same_all test v w (b ∷ case) agrees p h =
    let ps = three (test b.plus) (test b.minus) (case_passes test case) p in
    All-cons (Meets w) b case
    (same_meets test v w b agrees ps.0 ps.1 (All-head (Meets v) b case h))
    (same_all test v w case agrees ps.2 (All-tail (Meets v) b case h))

same_one : (test : ℕ → Bool) (v w : List ℤ) (cases : List Case) → Agrees test v w → choice_passes test cases ≡ true → MeetsOne v cases → MeetsOne w cases
same_one test v w [] agrees p h = h
same_one test v w (c ∷ cases) agrees p h =
    let ps = two (case_passes test c) (choice_passes test cases) p in
    elim h [
      | inl a ↦ inl (same_all test v w c agrees ps.0 a)
      | inr b ↦ inr (same_one test v w cases agrees ps.1 b)
    ]

same_next : (test : ℕ → Bool) (v w : List ℤ) (cases : List Case) (rest : List (List Case)) (b : Bool) → choice_passes test cases ≡ b → Agrees test v w → (MeetsEach v rest → MeetsEach w rest) → MeetsEach v (cond b (cases ∷ rest) rest) → MeetsEach w (cond b (cases ∷ rest) rest)
same_next test v w cases rest true p agrees next h = (same_one test v w cases agrees p h.0, next h.1)
same_next test v w cases rest false p agrees next h = next h

-- what meets the choices of a part depends on its unknowns alone
pub same_part : (test : ℕ → Bool) (v w : List ℤ) (choices : List (List Case)) → Agrees test v w → MeetsEach v (part_of test choices) → MeetsEach w (part_of test choices)
same_part test v w [] agrees h = h
same_part test v w (c ∷ choices) agrees h =
    same_next test v w c (part_of test choices) (choice_passes test c) refl agrees (same_part test v w choices agrees) h

next_met : (v : List ℤ) (cases : List Case) (rest : List (List Case)) (b : Bool) → MeetsOne v cases → MeetsEach v rest → MeetsEach v (cond b (cases ∷ rest) rest)
next_met v cases rest true one each = (one, each)
next_met v cases rest false one each = each

-- what meets all choices meets those of a part
pub each_part : (test : ℕ → Bool) (v : List ℤ) (choices : List (List Case)) → MeetsEach v choices → MeetsEach v (part_of test choices)
each_part test v [] h = h
each_part test v (c ∷ choices) h = next_met v c (part_of test choices) (choice_passes test c) h.0 (each_part test v choices h.1)

head_met : (v : List ℤ) (cases : List Case) (rest : List (List Case)) (b : Bool) → b ≡ true → MeetsEach v (cond b (cases ∷ rest) rest) → MeetsOne v cases
head_met v cases rest true e h = h.0
head_met v cases rest false e h = absurd (cc)

tail_met : (v : List ℤ) (cases : List Case) (rest : List (List Case)) (b : Bool) → MeetsEach v (cond b (cases ∷ rest) rest) → MeetsEach v rest
tail_met v cases rest true h = h.1
tail_met v cases rest false h = h

-- what meets the choices of each part meets all choices
pub each_whole : (last : ℕ) (labels : List ℕ) (v : List ℤ) (choices : List (List Case)) → EachHasLabel last labels choices → ((label : ℕ) → label ≤ last → MeetsEach v (part_of (has_label labels label) choices)) → MeetsEach v choices
each_whole last labels v [] apart h = tt
each_whole last labels v (c ∷ choices) (own, others) h = (
  head_met v c (part_of (has_label labels own.0) choices) (choice_passes (has_label labels own.0) c) own.2 (h own.0 own.1),
  each_whole last labels v choices others
      (λ label within. tail_met v c (part_of (has_label labels label) choices) (choice_passes (has_label labels label) c) (h label within)),
)

next_fewer : (cases : List Case) (rest part : List (List Case)) (b : Bool) → length part ≤ length rest → length (cond b (cases ∷ part) part) ≤ suc (length rest)
next_fewer cases rest part true h = omega arith
next_fewer cases rest part false h = omega arith

pub part_fewer : (test : ℕ → Bool) (choices : List (List Case)) → length (part_of test choices) ≤ length choices
part_fewer test [] = omega arith
part_fewer test (c ∷ choices) = next_fewer c choices (part_of test choices) (choice_passes test c) (part_fewer test choices)

next_in_range : (count : ℕ) (cases : List Case) (rest : List (List Case)) (b : Bool) → All (All (IsInRange count)) cases → AreInRange count rest → AreInRange count (cond b (cases ∷ rest) rest)
next_in_range count cases rest true h hs = All-cons (All (All (IsInRange count))) cases rest h hs
next_in_range count cases rest false h hs = hs

pub part_in_range : (count : ℕ) (test : ℕ → Bool) (choices : List (List Case)) → AreInRange count choices → AreInRange count (part_of test choices)
part_in_range count test [] h = h
part_in_range count test (c ∷ choices) h =
    next_in_range count c (part_of test choices) (choice_passes test c)
    (All-head (All (All (IsInRange count))) c choices h)
    (part_in_range count test choices (All-tail (All (All (IsInRange count))) c choices h))

not_zero : (b c : Bool) → b ≡ false → cond b true c ≡ true → c ≡ true
not_zero true c e h = absurd (cc)
not_zero false c e h = h

pub label_is : (labels : List ℕ) (label u : ℕ) → 0 < u → has_label labels label u ≡ true → slice_index labels u ≡ label
label_is labels label u above h =
    eqb-true (slice_index labels u) label
    (not_zero (eqb u 0) (eqb (slice_index labels u) label) (ne_eqb u 0 (λ e. absurd (omega arith))) h)

or_true : (b c : Bool) → c ≡ true → cond b true c ≡ true
or_true true c h = refl
or_true false c h = h

-- each unknown has its own label
pub has_own : (labels : List ℕ) (u : ℕ) → has_label labels (slice_index labels u) u ≡ true
has_own labels u = or_true (eqb u 0) (eqb (slice_index labels u) (slice_index labels u)) (eq-eqb (slice_index labels u) (slice_index labels u) refl)

minus_passes : (test : ℕ → Bool) (case : Case) → case_passes test case ≡ true → All (λ (b : Bound). test b.minus ≡ true) case
minus_passes test [] h = All-nil (λ (b : Bound). test b.minus ≡ true)
minus_passes test (b ∷ case) h =
    let ps = three (test b.plus) (test b.minus) (case_passes test case) h in
    All-cons (λ (b : Bound). test b.minus ≡ true) b case ps.1 (minus_passes test case ps.2)

-- a choice that bounds an unknown from below has its label
below_passes : (labels : List ℕ) (own u : ℕ) (cases : List Case) → 0 < u → choice_passes (has_label labels own) cases ≡ true → EachHasBelow u cases → choice_passes (has_label labels (slice_index labels u)) cases ≡ true
below_passes labels own u [] above p h = refl
below_passes labels own u (c ∷ cases) above p h =
    let first = (two (case_passes (has_label labels own) c) (choice_passes (has_label labels own) cases) p).0 in
    let bound = h.0 in
    let at = All-contains (λ (b : Bound). has_label labels own b.minus ≡ true) c bound.0 (minus_passes (has_label labels own) c first) bound.1 in
    let at_u = subst (λ (n : ℕ). has_label labels own n ≡ true) bound.3 at in
    subst (λ (n : ℕ). choice_passes (has_label labels n) (c ∷ cases) ≡ true) (sym (label_is labels own u above at_u)) p

next_here : (u : ℕ) (cases : List Case) (rest : List (List Case)) (b : Bool) → b ≡ true → EachHasBelow u cases → OneHasBelow u (cond b (cases ∷ rest) rest)
next_here u cases rest true e h = inl h
next_here u cases rest false e h = absurd (cc)

next_later : (u : ℕ) (cases : List Case) (rest : List (List Case)) (b : Bool) → OneHasBelow u rest → OneHasBelow u (cond b (cases ∷ rest) rest)
next_later u cases rest true h = inr h
next_later u cases rest false h = h

-- an unknown that is bounded from below is so in its part
pub part_below : (last : ℕ) (labels : List ℕ) (u : ℕ) (choices : List (List Case)) → 0 < u → EachHasLabel last labels choices → OneHasBelow u choices → OneHasBelow u (part_of (has_label labels (slice_index labels u)) choices)
part_below last labels u [] above apart h = h
part_below last labels u (c ∷ choices) above (own, others) h =
    let test : ℕ → Bool = has_label labels (slice_index labels u) in
    elim h [
      | inl here ↦ next_here u c (part_of test choices) (choice_passes test c) (below_passes labels own.0 u c above own.2 here) here
      | inr later ↦ next_later u c (part_of test choices) (choice_passes test c) (part_below last labels u choices above others later)
    ]
