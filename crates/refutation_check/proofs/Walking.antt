-- Bounds that join head to tail.
use Rattle.std.proofs.Common.{◌≡◌, ℕ, pos, ◌+◌, ◌<◌, ◌+ℤ◌, ◌↔◌, List, [], ◌∷◌, length, drop, get_or, Option, Some, None, refl, sym, ap, ◌∙◌, subst, arith}
use Rattle.std.proofs.lemmas.Int.{ints}
use Rattle.std.specs.Prelude.{slice_get, IsTrue, false}
use Rattle.std.proofs.lemmas.List.{drop_more}
use Rattle.sn_width.specs.declared.ids.SymId.{SymId}
use Rattle.path_formula.specs.Bounds.{Case}
use Rattle.path_formula.specs.declared.sym_bound.SymBound.{SymBound}
use Rattle.refutation_check.specs.Cycles.{IsWalk, at_most_of, total, IsNegativeCycle}

same_bound : (g : Case) (n : ℕ) (b d : SymBound) → slice_get g n ≡ Some b → slice_get g n ≡ Some d → d ≡ b
same_bound g n b d e f = cc

walk_on : (g : Case) (n : ℕ) (rest : List ℕ) (place to : Option SymId) (b : SymBound) → slice_get g n ≡ Some b → IsWalk g place (n ∷ rest) to → (b.plus ≡ place) × IsWalk g b.minus rest to
walk_on g n rest place to b e w =
    let same = same_bound g n b w.0 e w.1 in
    subst (λ (x : SymBound). (x.plus ≡ place) × IsWalk g x.minus rest to) same (w.2, w.3)

-- the first of the numbers that are left is that of a bound from the place on
pub walk_next : (g : Case) (numbers : List ℕ) (i : ℕ) (place to : Option SymId) (b : SymBound) → i < length numbers → slice_get g (get_or numbers i 0) ≡ Some b → b.plus ≡ place
    → IsWalk g place (drop i numbers) to ↔ IsWalk g b.minus (drop (i + 1) numbers) to
walk_next g numbers i place to b lt e from =
    let n = get_or numbers i 0 in
    let rest = drop (i + 1) numbers in
    let is = drop_more numbers i 0 lt in
    (λ w. (walk_on g n rest place to b e (subst (λ ns. IsWalk g place ns to) is w)).1, λ w. subst (λ ns. IsWalk g place ns to) (sym is) (b, e, from, w))

-- there is no bound of the first of the numbers that are left
pub walk_stops : (g : Case) (numbers : List ℕ) (i : ℕ) (place to : Option SymId) → i < length numbers → None ≡ slice_get g (get_or numbers i 0) → IsWalk g place (drop i numbers) to → ⊥
walk_stops g numbers i place to lt e w =
    let v = subst (λ ns. IsWalk g place ns to) (drop_more numbers i 0 lt) w in
    let at = v.1 in
    cc

-- the bound of the first of the numbers that are left begins elsewhere
pub walk_breaks : (g : Case) (numbers : List ℕ) (i : ℕ) (place to : Option SymId) (b : SymBound) → i < length numbers → slice_get g (get_or numbers i 0) ≡ Some b → (b.plus ≡ place → ⊥) → IsWalk g place (drop i numbers) to → ⊥
walk_breaks g numbers i place to b lt e not w =
    let v = subst (λ ns. IsWalk g place ns to) (drop_more numbers i 0 lt) w in
    not (walk_on g (get_or numbers i 0) (drop (i + 1) numbers) place to b e v).0

-- the sum of the bounds of the numbers that are left
pub total_next : (g : Case) (numbers : List ℕ) (i : ℕ) (b : SymBound) → i < length numbers → slice_get g (get_or numbers i 0) ≡ Some b → total g (drop i numbers) ≡ b.at_most +ℤ total g (drop (i + 1) numbers)
total_next g numbers i b lt e = ap (total g) (drop_more numbers i 0 lt) ∙ ap (λ o. at_most_of o +ℤ total g (drop (i + 1) numbers)) e

start_by : (g : Case) (numbers : List ℕ) (start : Option SymId) (n : ℕ) (b : SymBound) → slice_get numbers 0 ≡ Some n → slice_get g n ≡ Some b → IsWalk g start numbers start → b.plus ≡ start
start_by g [] start n b first e w = cc
start_by g (m ∷ rest) start n b first e w =
    let same : n ≡ m = cc in
    (walk_on g m rest start start b (subst (λ k. slice_get g k ≡ Some b) same e) w).0

-- a circle is one from the first of its bounds on
pub from_first : (g : Case) (numbers : List ℕ) (n : ℕ) (b : SymBound) → slice_get numbers 0 ≡ Some n → slice_get g n ≡ Some b → IsNegativeCycle g numbers → IsWalk g b.plus numbers b.plus
from_first g numbers n b first e cycle = subst (λ s. IsWalk g s numbers s) (sym (start_by g numbers cycle.start n b first e cycle.closed)) cycle.closed

no_bound_by : (g : Case) (numbers : List ℕ) (start : Option SymId) (n : ℕ) → slice_get numbers 0 ≡ Some n → None ≡ slice_get g n → IsWalk g start numbers start → ⊥
no_bound_by g [] start n first e w = cc
no_bound_by g (m ∷ rest) start n first e w =
    let same : m ≡ n = cc in
    let at = subst (λ k. slice_get g k ≡ Some w.0) same w.1 in
    cc

-- there is no bound of the first number
pub no_circle : (g : Case) (numbers : List ℕ) (n : ℕ) → slice_get numbers 0 ≡ Some n → None ≡ slice_get g n → IsNegativeCycle g numbers → ⊥
no_circle g numbers n first e cycle = no_bound_by g numbers cycle.start n first e cycle.closed

nothing_by : (g : Case) (numbers : List ℕ) → None ≡ slice_get numbers 0 → total g numbers ≡ pos 0
nothing_by g [] none = refl
nothing_by g (n ∷ rest) none = cc

-- there is no number
pub no_number : (g : Case) (numbers : List ℕ) → None ≡ slice_get numbers 0 → IsNegativeCycle g numbers → ⊥
no_number g numbers none cycle = omega (arith, ints, cycle.negative, nothing_by g numbers none)

pub false_yes : IsTrue false → ⊥
false_yes h = cc

-- the answer no
pub answer_no : (P : Type 0) → (P → ⊥) → IsTrue false ↔ P
answer_no P not = (λ h. absurd (false_yes h), λ p. absurd (not p))
