-- Bounds between symbols, and the same bounds between the unknowns of the symbols.
use Rattle.std.proofs.Common.{◌≡◌, ℕ, suc, ◌+◌, ◌<◌, ◌≤◌, ℤ, pos, ◌+ℤ◌, Bool, true, false, cond, ◌&&◌, ◌||◌, nat_eq, List, [], ◌∷◌, ◌++◌, inl, inr, length, get_or, Option, Some, None, refl, sym, ap, subst, ◌∙◌, arith, append_assoc, length-append}
use Rattle.std.specs.Prelude.{◌-ℤ◌, ◌≤ℤ◌, int_le, All, slice_index}
use Rattle.std.specs.List.{list_any}
use Rattle.std.proofs.lemmas.Bool.{eqb-true}
use Rattle.std.proofs.lemmas.Int.{ints}
use Rattle.std.proofs.lemmas.List.Elements.{All-cons, All-head, All-tail, All-nil}
use Rattle.sn_width.specs.declared.ids.SymId.{SymId}
use Rattle.difference_solver.specs.Bound.{Meets}
use Rattle.difference_solver.specs.Bound as Integers
use Rattle.difference_solver.specs.Choices.{MeetsOne}
use Rattle.path_formula.specs.Bounds.{Case, number, is_met, is_case_met, is_one_met}
use Rattle.path_formula.specs.declared.sym_bound.SymBound.{SymBound}
use Rattle.path_solver.specs.Bounds.{Passes, IsBetween, AreBetween, EachAreBetween}
use Rattle.path_solver.specs.Unknowns.{is_listed, unknown_from, unknown_of, bound_of, case_of, choice_of}
use Rattle.path_solver.specs.Values.{integers_of}
use Rattle.path_solver.proofs.Atoms.{or_cases, or_left, or_right}

get_past : (before rest : List ℤ) (z : ℤ) → get_or (before ++ z ∷ rest) (length before) (pos 0) ≡ z
get_past [] rest z = refl
get_past (y ∷ before) rest z = get_past before rest z

number_by : (x : List ℕ) (before : List ℤ) (r : SymId) (symbols : List SymId) (s : SymId) (b : Bool) → nat_eq r.0 s.0 ≡ b
    → (list_any (λ (q : SymId). nat_eq q.0 s.0) symbols ≡ true
    → get_or ((before ++ pos (slice_index x r.0) ∷ []) ++ integers_of x symbols)
    (unknown_from (suc (length before)) symbols s) (pos 0) ≡ pos (slice_index x s.0))
    → (b || is_listed symbols s) ≡ true
    → get_or (before ++ pos (slice_index x r.0) ∷ integers_of x symbols)
    (cond b (length before) (unknown_from (suc (length before)) symbols s)) (pos 0) ≡ pos (slice_index x s.0)
number_by x before r symbols s true is later h =
    get_past before (integers_of x symbols) (pos (slice_index x r.0)) ∙ ap (λ n. pos (slice_index x n)) (eqb-true r.0 s.0 is)
number_by x before r symbols s false is later h =
    ap (λ (zs : List ℤ). get_or zs (unknown_from (suc (length before)) symbols s) (pos 0))
    (sym (append_assoc before (pos (slice_index x r.0) ∷ []) (integers_of x symbols))) ∙ later h

number_at : (x : List ℕ) (before : List ℤ) (symbols : List SymId) (s : SymId) (n : ℕ) → n ≡ length before
    → is_listed symbols s ≡ true
    → get_or (before ++ integers_of x symbols) (unknown_from n symbols s) (pos 0) ≡ pos (slice_index x s.0)
number_at x before [] s n e h = absurd (cc)
number_at x before (r ∷ symbols) s n e h =
    let next : suc n ≡ length (before ++ pos (slice_index x r.0) ∷ []) =
    omega (arith, length-append before (pos (slice_index x r.0) ∷ [])) in
    let later = number_at x (before ++ pos (slice_index x r.0) ∷ []) symbols s (suc n) next in
    subst (λ (m : ℕ). get_or (before ++ pos (slice_index x r.0) ∷ integers_of x symbols)
    (cond (nat_eq r.0 s.0) m (unknown_from (suc m) symbols s)) (pos 0) ≡ pos (slice_index x s.0)) (sym e)
    (number_by x before r symbols s (nat_eq r.0 s.0) refl
    (subst (λ (m : ℕ). is_listed symbols s ≡ true
    → get_or ((before ++ pos (slice_index x r.0) ∷ []) ++ integers_of x symbols) (unknown_from (suc m) symbols s)
    (pos 0) ≡ pos (slice_index x s.0)) e later) h)

-- the integer of an unknown is the value of its symbol
pub number_same : (x : List ℕ) (symbols : List SymId) (o : Option SymId) → Passes (is_listed symbols) o
    → Integers.number (pos 0 ∷ integers_of x symbols) (unknown_of symbols o) ≡ number x o
number_same x symbols None h = refl
number_same x symbols (Some s) h = number_at x (pos 0 ∷ []) symbols s 1 refl h

le_moved : (p m a : ℤ) → p ≤ℤ (m +ℤ a) → int_le (p -ℤ m) a ≡ true
le_moved p m a h = grind (arith, ints)

le_back : (p m a : ℤ) → int_le (p -ℤ m) a ≡ true → p ≤ℤ (m +ℤ a)
le_back p m a h = grind (arith, ints)

bound_to : (x : List ℕ) (symbols : List SymId) (b : SymBound) → IsBetween (is_listed symbols) b
    → Meets (pos 0 ∷ integers_of x symbols) (bound_of symbols b) → is_met x b ≡ true
bound_to x symbols b known h =
    le_moved (number x b.plus) (number x b.minus) b.at_most
    (subst (λ (p : ℤ). p ≤ℤ (number x b.minus +ℤ b.at_most)) (number_same x symbols b.plus known.plus)
    (subst (λ (m : ℤ). Integers.number (pos 0 ∷ integers_of x symbols) (unknown_of symbols b.plus) ≤ℤ (m +ℤ b.at_most))
    (number_same x symbols b.minus known.minus) h))

bound_from : (x : List ℕ) (symbols : List SymId) (b : SymBound) → IsBetween (is_listed symbols) b → is_met x b ≡ true
    → Meets (pos 0 ∷ integers_of x symbols) (bound_of symbols b)
bound_from x symbols b known h =
    subst (λ (m : ℤ). Integers.number (pos 0 ∷ integers_of x symbols) (unknown_of symbols b.plus) ≤ℤ (m +ℤ b.at_most))
    (sym (number_same x symbols b.minus known.minus))
    (subst (λ (p : ℤ). p ≤ℤ (number x b.minus +ℤ b.at_most)) (sym (number_same x symbols b.plus known.plus))
    (le_back (number x b.plus) (number x b.minus) b.at_most h))

pub and_both : (a b : Bool) → a ≡ true → b ≡ true → (a && b) ≡ true
and_both true b h g = g
and_both false b h g = absurd (cc)

pub and_left : (a b : Bool) → (a && b) ≡ true → a ≡ true
and_left true b h = refl
and_left false b h = absurd (cc)

pub and_right : (a b : Bool) → (a && b) ≡ true → b ≡ true
and_right true b h = h
and_right false b h = absurd (cc)

case_to : (x : List ℕ) (symbols : List SymId) (case : Case) → AreBetween (is_listed symbols) case
    → All (Meets (pos 0 ∷ integers_of x symbols)) (case_of symbols case) → is_case_met x case ≡ true
case_to x symbols [] known h = refl
case_to x symbols (b ∷ case) known h =
    and_both (is_met x b) (is_case_met x case)
    (bound_to x symbols b known.0
    (All-head (Meets (pos 0 ∷ integers_of x symbols)) (bound_of symbols b) (case_of symbols case) h))
    (case_to x symbols case known.1
    (All-tail (Meets (pos 0 ∷ integers_of x symbols)) (bound_of symbols b) (case_of symbols case) h))

case_from : (x : List ℕ) (symbols : List SymId) (case : Case) → AreBetween (is_listed symbols) case
    → is_case_met x case ≡ true → All (Meets (pos 0 ∷ integers_of x symbols)) (case_of symbols case)
case_from x symbols [] known h = All-nil (Meets (pos 0 ∷ integers_of x symbols))
case_from x symbols (b ∷ case) known h =
    All-cons (Meets (pos 0 ∷ integers_of x symbols)) (bound_of symbols b) (case_of symbols case)
    (bound_from x symbols b known.0 (and_left (is_met x b) (is_case_met x case) h))
    (case_from x symbols case known.1 (and_right (is_met x b) (is_case_met x case) h))

-- one of the cases is met by the values, as one of the same cases between unknowns is by their integers
pub one_to : (x : List ℕ) (symbols : List SymId) (cases : List Case) → EachAreBetween (is_listed symbols) cases
    → MeetsOne (pos 0 ∷ integers_of x symbols) (choice_of symbols cases) → is_one_met x cases ≡ true
one_to x symbols [] known h = absurd h
one_to x symbols (case ∷ cases) known h =
    elim h [
      | inl here ↦ or_left (is_case_met x case) (is_one_met x cases) (case_to x symbols case known.0 here)
      | inr later ↦ or_right (is_case_met x case) (is_one_met x cases) (one_to x symbols cases known.1 later)
    ]

pub one_from : (x : List ℕ) (symbols : List SymId) (cases : List Case) → EachAreBetween (is_listed symbols) cases
    → is_one_met x cases ≡ true → MeetsOne (pos 0 ∷ integers_of x symbols) (choice_of symbols cases)
one_from x symbols [] known h = absurd (cc)
one_from x symbols (case ∷ cases) known h =
    elim (or_cases (is_case_met x case) (is_one_met x cases) h) [
      | inl here ↦ inl (case_from x symbols case known.0 here)
      | inr later ↦ inr (one_from x symbols cases known.1 later)
    ]

unknown_low_by : (first : ℕ) (symbols : List SymId) (s : SymId) (b : Bool)
    → (is_listed symbols s ≡ true → suc first ≤ unknown_from (suc first) symbols s) → (b || is_listed symbols s) ≡ true
    → first ≤ cond b first (unknown_from (suc first) symbols s)
unknown_low_by first symbols s true later h = omega arith
unknown_low_by first symbols s false later h = let l = later h in omega (arith, l)

-- the unknown of a symbol that is listed is none before the first
pub unknown_low : (first : ℕ) (symbols : List SymId) (s : SymId) → is_listed symbols s ≡ true
    → first ≤ unknown_from first symbols s
unknown_low first [] s h = absurd (cc)
unknown_low first (r ∷ symbols) s h = unknown_low_by first symbols s (nat_eq r.0 s.0) (unknown_low (suc first) symbols s) h

unknown_high_by : (first n u : ℕ) (b : Bool) → u < suc first + n → cond b first u < first + suc n
unknown_high_by first n u true h = omega arith
unknown_high_by first n u false h = omega arith

unknown_high_from : (first : ℕ) (symbols : List SymId) (s : SymId) → 0 < first
    → unknown_from first symbols s < first + length symbols
unknown_high_from first [] s above = omega arith
unknown_high_from first (r ∷ symbols) s above =
    unknown_high_by first (length symbols) (unknown_from (suc first) symbols s) (nat_eq r.0 s.0)
    (unknown_high_from (suc first) symbols s (omega arith))

-- each unknown is at most the number of the symbols
pub unknown_high : (symbols : List SymId) (o : Option SymId) → unknown_of symbols o ≤ length symbols
unknown_high symbols None = omega arith
unknown_high symbols (Some s) = omega (arith, unknown_high_from 1 symbols s (omega arith))

same_unknown_by : (first : ℕ) (symbols : List SymId) (r s t : SymId) (b d : Bool) → nat_eq r.0 s.0 ≡ b → nat_eq r.0 t.0 ≡ d
    → (is_listed symbols s ≡ true → is_listed symbols t ≡ true
    → unknown_from (suc first) symbols s ≡ unknown_from (suc first) symbols t → s.0 ≡ t.0)
    → (b || is_listed symbols s) ≡ true → (d || is_listed symbols t) ≡ true
    → cond b first (unknown_from (suc first) symbols s) ≡ cond d first (unknown_from (suc first) symbols t) → s.0 ≡ t.0
same_unknown_by first symbols r s t true true x y later h g e = sym (eqb-true r.0 s.0 x) ∙ eqb-true r.0 t.0 y
same_unknown_by first symbols r s t true false x y later h g e = absurd (omega (arith, e, unknown_low (suc first) symbols t g))
same_unknown_by first symbols r s t false true x y later h g e = absurd (omega (arith, e, unknown_low (suc first) symbols s h))
same_unknown_by first symbols r s t false false x y later h g e = later h g e

same_unknown : (first : ℕ) (symbols : List SymId) (s t : SymId) → is_listed symbols s ≡ true
    → is_listed symbols t ≡ true → unknown_from first symbols s ≡ unknown_from first symbols t → s.0 ≡ t.0
same_unknown first [] s t h g e = absurd (cc)
same_unknown first (r ∷ symbols) s t h g e =
    same_unknown_by first symbols r s t (nat_eq r.0 s.0) (nat_eq r.0 t.0) refl refl (same_unknown (suc first) symbols s t) h g e

-- two symbols that are listed have different unknowns, and none is that of the number zero
pub unknowns_apart : (symbols : List SymId) (o p : Option SymId) → Passes (is_listed symbols) o
    → Passes (is_listed symbols) p → unknown_of symbols o ≡ unknown_of symbols p → o ≡ p
unknowns_apart symbols None None h g e = refl
unknowns_apart symbols None (Some t) h g e = absurd (omega (arith, e, unknown_low 1 symbols t g))
unknowns_apart symbols (Some s) None h g e = absurd (omega (arith, e, unknown_low 1 symbols s h))
unknowns_apart symbols (Some s) (Some t) h g e =
    let same : s.0 ≡ t.0 = same_unknown 1 symbols s t h g e in
    ap (λ (n : ℕ). Some (record { 0 = n })) same
