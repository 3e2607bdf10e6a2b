-- Unknowns of symbols that ascend.
use Rattle.std.proofs.Common.{◌≡◌, ℕ, zero, suc, ◌+◌, ◌<◌, ◌≤◌, Bool, true, false, cond, nat_eq, List, [], ◌∷◌, length, Some, refl, ap, subst, ◌∙◌, arith}
use Rattle.std.specs.Prelude.{slice_get}
use Rattle.std.proofs.lemmas.Bool.{eq-eqb, eqb-true}
use Rattle.sn_width.specs.declared.ids.SymId.{SymId}
use Rattle.path_cond.specs.Coupled.{symbol_at, symbols_from}
use Rattle.path_solver.specs.Unknowns.{is_listed, unknown_from}
use Rattle.path_solver.proofs.Atoms.{or_left, or_right}
use Rattle.path_solver.proofs.Ascending.{listed_is_from}

pub listed_at : (symbols : List SymId) (i : ℕ) (s : SymId) → slice_get symbols i ≡ Some s → is_listed symbols s ≡ true
listed_at [] i s e = absurd (cc)
listed_at (r ∷ symbols) zero s e =
    let same : r ≡ s = cc in or_left (nat_eq r.0 s.0) (is_listed symbols s)
    (eq-eqb r.0 s.0 (ap (λ (q : SymId). q.0) same))
listed_at (r ∷ symbols) (suc i) s e = or_right (nat_eq r.0 s.0) (is_listed symbols s) (listed_at symbols i s e)

skip : (place first u : ℕ) (s : SymId) (b : Bool) → nat_eq place s.0 ≡ b → suc place ≤ s.0 → cond b first u ≡ u
skip place first u s true e low = let same : place ≡ s.0 = eqb-true place s.0 e in absurd (omega arith)
skip place first u s false e low = refl

here : (place first u : ℕ) (b : Bool) → nat_eq place place ≡ b → cond b first u ≡ first
here place first u true e = refl
here place first u false e = let yes : nat_eq place place ≡ true = eq-eqb place place refl in absurd (cc)

place_by : (test : SymId → Bool) (place count first i : ℕ) (s : SymId) (b : Bool)
    → ((j : ℕ) (f : ℕ) → slice_get (symbols_from test (suc place) count) j ≡ Some s
    → unknown_from f (symbols_from test (suc place) count) s ≡ f + j)
    → slice_get (cond b (symbol_at place ∷ symbols_from test (suc place) count) (symbols_from test (suc place) count)) i ≡ Some s
    → unknown_from first (cond b (symbol_at place ∷ symbols_from test (suc place) count)
    (symbols_from test (suc place) count)) s ≡ first + i
place_by test place count first zero s true later e =
    let same : symbol_at place ≡ s = cc in
    let none : first ≡ first + 0 = omega arith in
    subst (λ (r : SymId). cond (nat_eq place r.0) first
    (unknown_from (suc first) (symbols_from test (suc place) count) r) ≡ first) same
    (here place first (unknown_from (suc first) (symbols_from test (suc place) count) (symbol_at place))
    (nat_eq place place) refl) ∙ none
place_by test place count first (suc i) s true later e =
    let low = (listed_is_from test (suc place) count s (listed_at (symbols_from test (suc place) count) i s e)).low in
    let next : suc first + i ≡ first + suc i = omega arith in
    skip place first (unknown_from (suc first) (symbols_from test (suc place) count) s) s (nat_eq place s.0) refl low
    ∙ later i (suc first) e ∙ next
place_by test place count first i s false later e = later i first e

place_from : (test : SymId → Bool) (place count first i : ℕ) (s : SymId)
    → slice_get (symbols_from test place count) i ≡ Some s
    → unknown_from first (symbols_from test place count) s ≡ first + i
place_from test place zero first i s e = absurd (cc)
place_from test place (suc count) first i s e =
    place_by test place count first i s (test (symbol_at place)) (λ j f g. place_from test (suc place) count f j s g) e

-- the symbols of a list that passes a test, ascending, have the unknowns from 1 on
pub unknown_at : (test : SymId → Bool) (n i : ℕ) (s : SymId) → slice_get (symbols_from test 0 n) i ≡ Some s
    → unknown_from 1 (symbols_from test 0 n) s ≡ 1 + i
unknown_at test n i s e = place_from test 0 n 1 i s e

pub place_of : {X : Type 0} (xs : List X) (i : ℕ) → i < length xs → (x : X) × (slice_get xs i ≡ Some x)
place_of [] i lt = absurd (omega arith)
place_of (x ∷ xs) zero lt = (x, refl)
place_of (x ∷ xs) (suc i) lt = place_of xs i (omega arith)
