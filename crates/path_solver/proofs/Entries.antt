-- Facts of the crates below, and what follows for the formulas of a condition.
use Rattle.std.proofs.Common.{◌≡◌, ℕ, zero, suc, ◌<◌, Bool, true, cond, List, [], ◌∷◌, length, Some, None, refl, sym, ap, subst, ◌∙◌, arith, inl, inr}
use Rattle.std.specs.Prelude.{slice_get, slice_index}
use Rattle.std.specs.List.{list_all, list_any}
use Rattle.sn_width.specs.declared.ids.SymId.{SymId}
use Rattle.path_formula.specs.Kinds.{kind_of}
use Rattle.path_formula.specs.Typed.{IsTyped}
use Rattle.path_formula.specs.View.{view}
use Rattle.path_formula.specs.declared.kinds.Kind.{Kind}
use Rattle.path_formula.specs.declared.kinds.Kind.TheVariants.{Constant, Simple, Inside, Outside}
use Rattle.path_cond.specs.Conditions.{Condition, Entry, AllTyped}
use Rattle.path_formula.specs.Splits.{CanSplit}
use Rattle.path_cond.specs.Coupled.{occurs_in, is_inside_kind, is_inside, couples, is_coupled, coupled_symbols}
use Rattle.path_solver.specs.Laws.{Facts}
use Rattle.path_solver.specs.Unknowns.{is_listed}
use Rattle.path_solver.proofs.Atoms.{IsNarrow, occurs_narrow, or_cases, or_left, or_right}
use Rattle.path_solver.proofs.Ascending.{listed_from, listed_is_from}
use Rattle.path_solver.proofs.Numbering.{and_both, and_left, and_right}

pub at_all : {X : Type 0} (p : X → Bool) (xs : List X) (i : ℕ) (x : X) → list_all p xs ≡ true → slice_get xs i ≡ Some x
    → p x ≡ true
at_all p [] i x h e = absurd (cc)
at_all p (y ∷ xs) zero x h e = let same : y ≡ x = cc in ap p (sym same) ∙ and_left (p y) (list_all p xs) h
at_all p (y ∷ xs) (suc i) x h e = at_all p xs i x (and_right (p y) (list_all p xs) h) e

pub all_at : {X : Type 0} (p : X → Bool) (xs : List X) → ((i : ℕ) (x : X) → slice_get xs i ≡ Some x → p x ≡ true)
    → list_all p xs ≡ true
all_at p [] h = refl
all_at p (x ∷ xs) h = and_both (p x) (list_all p xs) (h 0 x refl) (all_at p xs (λ i y e. h (suc i) y e))

pub any_at : {X : Type 0} (p : X → Bool) (xs : List X) (i : ℕ) (x : X) → slice_get xs i ≡ Some x → p x ≡ true
    → list_any p xs ≡ true
any_at p [] i x e h = absurd (cc)
any_at p (y ∷ xs) zero x e h = let same : y ≡ x = cc in or_left (p y) (list_any p xs) (ap p same ∙ h)
any_at p (y ∷ xs) (suc i) x e h = or_right (p y) (list_any p xs) (any_at p xs i x e h)

-- an element that passes the test
pub record StandsAt {X : Type 0} (p : X → Bool) (xs : List X) : Type 0 where
  pub place : ℕ
  pub element : X
  pub at : slice_get xs place ≡ Some element
  pub passes : p element ≡ true

pub any_stands : {X : Type 0} (p : X → Bool) (xs : List X) → list_any p xs ≡ true → StandsAt p xs
any_stands p [] h = absurd (cc)
any_stands p (y ∷ xs) h =
    elim (or_cases (p y) (list_any p xs) h) [
      | inl here ↦ record { place = 0; element = y; at = refl; passes = here }
      | inr later ↦ let r = any_stands p xs later in
          record { place = suc r.place; element = r.element; at = r.at; passes = r.passes }
    ]

pub typed_at : (widths : List ℕ) (entries : List Entry) (i : ℕ) (e : Entry) → AllTyped widths entries
    → slice_get entries i ≡ Some e → IsTyped widths (view e.0)
typed_at widths [] i e h is = absurd (cc)
typed_at widths (d ∷ entries) zero e h is = let same : d ≡ e = cc in subst (λ (x : Entry). IsTyped widths (view x.0)) same h.0
typed_at widths (d ∷ entries) (suc i) e h is = typed_at widths entries i e h.1 is

pub known_at : (xs : List ℕ) (i x : ℕ) → slice_get xs i ≡ Some x → i < length xs
known_at [] i x e = absurd (cc)
known_at (y ∷ xs) zero x e = omega arith
known_at (y ∷ xs) (suc i) x e = omega (arith, known_at xs i x e)

pub index_at : (xs : List ℕ) (i x : ℕ) → slice_get xs i ≡ Some x → slice_index xs i ≡ x
index_at [] i x e = absurd (cc)
index_at (y ∷ xs) zero x e = cc
index_at (y ∷ xs) (suc i) x e = index_at xs i x e

pub get_at : (xs : List ℕ) (i : ℕ) → i < length xs → slice_get xs i ≡ Some (slice_index xs i)
get_at [] i lt = absurd (omega arith)
get_at (y ∷ xs) zero lt = refl
get_at (y ∷ xs) (suc i) lt = get_at xs i (omega arith)

inside_kind : (k : Kind) → is_inside_kind k ≡ true → k ≡ Inside
inside_kind (Constant truth) h = absurd (cc)
inside_kind (Simple s) h = absurd (cc)
inside_kind Inside h = refl
inside_kind Outside h = absurd (cc)

pub entry_splits : Facts → (cond : Condition) (pick : ℕ) (e : Entry) → AllTyped cond.widths cond.entries
    → slice_get cond.entries pick ≡ Some e → is_inside e ≡ true → CanSplit (view e.0)
entry_splits facts cond pick e typed is inside =
    facts.inside_splits (view e.0) cond.widths (inside_kind (kind_of (view e.0)) inside)
    (typed_at cond.widths cond.entries pick e typed is)

-- a symbol that occurs in an inside formula is listed as coupled
pub occurs_listed : Facts → (cond : Condition) (pick : ℕ) (e : Entry) (s : SymId) → AllTyped cond.widths cond.entries
    → slice_get cond.entries pick ≡ Some e → is_inside e ≡ true → occurs_in s (view e.0) ≡ true
    → is_listed (coupled_symbols cond) s ≡ true
occurs_listed facts cond pick e s typed is inside occurs =
    let narrow =
    occurs_narrow cond.widths s (view e.0) (entry_splits facts cond pick e typed is inside)
    (typed_at cond.widths cond.entries pick e typed is) occurs in
    let coupled : is_coupled cond s ≡ true =
    any_at (couples s) cond.entries pick e is (and_both (is_inside e) (occurs_in s (view e.0)) inside occurs) in
    listed_from (is_coupled cond) 0 (length cond.widths) s coupled (omega arith)
    (omega (arith, known_at cond.widths s.0 narrow.width narrow.at))

-- a coupled symbol is one of the condition, of at most 64 bits
pub listed_narrow : Facts → (cond : Condition) (s : SymId) → AllTyped cond.widths cond.entries
    → is_listed (coupled_symbols cond) s ≡ true → IsNarrow cond.widths s
listed_narrow facts cond s typed h =
    let coupled = (listed_is_from (is_coupled cond) 0 (length cond.widths) s h).passes in
    let here = any_stands (couples s) cond.entries coupled in
    let inside : is_inside here.element ≡ true =
    and_left (is_inside here.element) (occurs_in s (view here.element.0)) here.passes in
    occurs_narrow cond.widths s (view here.element.0) (entry_splits facts cond here.place here.element typed here.at inside)
    (typed_at cond.widths cond.entries here.place here.element typed here.at)
    (and_right (is_inside here.element) (occurs_in s (view here.element.0)) here.passes)

pub missing : {X : Type 0} (xs : List X) (i : ℕ) → None ≡ slice_get xs i → i < length xs → ⊥
missing [] i e lt = omega arith
missing (x ∷ xs) zero e lt = cc
missing (x ∷ xs) (suc i) e lt = missing xs i e (omega arith)
