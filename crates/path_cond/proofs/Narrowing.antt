-- Formulas that are simple on one symbol, and the values that meet them.
use Rattle.std.proofs.Common.{◌≡◌, ℕ, suc, ◌+◌, Bool, true, false, cond, ◌&&◌, List, [], ◌∷◌, Option, Some, None, refl, sym, ap, ap₂, ◌∙◌, subst, arith}
use Rattle.std.specs.Prelude.{slice_get, reverse}
use Rattle.std.specs.List.{list_all}
use Rattle.std.proofs.lemmas.Bool.{eqb-true}
use Rattle.std.proofs.lemmas.List.{reverse-append}
use Rattle.std.proofs.lemmas.List.Folds.{list_all-append}
use Rattle.sn_ranges.specs.Ranges.{RangeSet, IsSetOf, fits_width}
use Rattle.sn_width.specs.declared.ids.SymId.{SymId}
use Rattle.path_formula.specs.Kinds.{kind_of}
use Rattle.path_formula.specs.Solutions.{alone}
use Rattle.path_formula.specs.View.{view}
use Rattle.path_formula.specs.declared.kinds.Kind.{Kind}
use Rattle.path_formula.specs.declared.kinds.Kind.TheVariants.{Constant, Simple, Inside, Outside}
use Rattle.path_cond.specs.Conditions.{Condition, Entry, entry_holds, is_entry_on, is_simple_on, in_domain, picks_from, simple_picks}
use Rattle.path_cond.specs.Picks.{passes, is_simple_pick, pick_holds, are_simple_picks, meets_picks}

-- a kind that is simple on the symbol
pub kind_simple : (s : SymId) (k : Kind) → is_simple_on s k ≡ true → k ≡ Simple s
kind_simple s (Constant b) h = cc
kind_simple s (Simple r) h = let same : r.0 ≡ s.0 = eqb-true r.0 s.0 h in λ i. Simple (record { 0 = same i })
kind_simple s Inside h = cc
kind_simple s Outside h = cc

-- the formula that stands at a simple pick
pub simple_at : (s : SymId) (o : Option Entry) (e : Entry) → Some e ≡ o → passes (is_entry_on s) o ≡ true → kind_of (view e.0) ≡ Simple s
simple_at s None e is h = cc
simple_at s (Some d) e is h = let same : d ≡ e = cc in kind_simple s (kind_of (view e.0)) (subst (λ (x : Entry). is_entry_on s x ≡ true) same h)

and_comm : (a b : Bool) → a && b ≡ b && a
and_comm true true = refl
and_comm true false = refl
and_comm false true = refl
and_comm false false = refl

and_all : (b : Bool) → b && true ≡ b
and_all true = refl
and_all false = refl

all_reversed : (p : ℕ → Bool) (xs : List ℕ) → list_all p (reverse xs) ≡ list_all p xs
all_reversed p [] = refl
all_reversed p (x ∷ xs) =
    ap (list_all p) (reverse-append (x ∷ []) xs) ∙ list_all-append p (reverse xs) (x ∷ []) ∙ ap₂ ◌&&◌ (all_reversed p xs) (and_all (p x)) ∙ and_comm (list_all p xs) (p x)

chosen_all : (p : ℕ → Bool) (n : ℕ) (later : List ℕ) (on r rest : Bool) → p n ≡ r → list_all p later ≡ rest → list_all p (cond on (n ∷ later) later) ≡ (cond on r true && rest)
chosen_all p n later true r rest h e = ap₂ ◌&&◌ h e
chosen_all p n later false r rest h e = e

-- a test of the picks on a symbol is a test of the formulas at these picks
picks_all : (s : SymId) (p : ℕ → Bool) (q : Entry → Bool) (n : ℕ) (entries : List Entry) → ((i : ℕ) (e : Entry) → slice_get entries i ≡ Some e → p (n + i) ≡ q e)
    → list_all p (picks_from s n entries) ≡ list_all (λ e. cond (is_entry_on s e) (q e) true) entries
picks_all s p q n [] h = refl
picks_all s p q n (e ∷ entries) h =
    let start : n + 0 ≡ n = omega arith in
    let first : p n ≡ q e = ap p (sym start) ∙ h 0 e refl in
    chosen_all p n (picks_from s (suc n) entries) (is_entry_on s e) (q e) (list_all (λ d. cond (is_entry_on s d) (q d) true) entries) first
    (picks_all s p q (suc n) entries (λ i d is. let next : suc n + i ≡ n + suc i = omega arith in ap p next ∙ h (suc i) d is))

-- the value meets the symbol's simple formulas exactly where it lies in the domain
pub meets_simple : (s : SymId) (c : Condition) (x : ℕ) → meets_picks s c (reverse (simple_picks s c)) x ≡ in_domain s c x
meets_simple s c x =
    all_reversed (pick_holds c (alone s x)) (simple_picks s c)
    ∙ picks_all s (pick_holds c (alone s x)) (entry_holds (alone s x)) 0 c.entries (λ i e is. let from : 0 + i ≡ i = omega arith in ap (pick_holds c (alone s x)) from ∙ ap (passes (entry_holds (alone s x))) is)

on_or_not : (on : Bool) → cond on on true ≡ true
on_or_not true = refl
on_or_not false = refl

all_on : (s : SymId) (entries : List Entry) → list_all (λ e. cond (is_entry_on s e) (is_entry_on s e) true) entries ≡ true
all_on s [] = refl
all_on s (e ∷ entries) = ap₂ ◌&&◌ (on_or_not (is_entry_on s e)) (all_on s entries)

-- the symbol's simple picks are simple on it
pub simple_are_simple : (s : SymId) (c : Condition) → are_simple_picks s c (reverse (simple_picks s c)) ≡ true
simple_are_simple s c =
    all_reversed (is_simple_pick s c) (simple_picks s c)
    ∙ picks_all s (is_simple_pick s c) (is_entry_on s) 0 c.entries (λ i e is. let from : 0 + i ≡ i = omega arith in ap (is_simple_pick s c) from ∙ ap (passes (is_entry_on s)) is)
    ∙ all_on s c.entries

-- the set of the values that meet the symbol's simple formulas is its domain
pub simple_set : (s : SymId) (c : Condition) (w : ℕ) (picks : List ℕ) (set : RangeSet) → picks ≡ reverse (simple_picks s c)
    → IsSetOf w (λ x. fits_width w x && meets_picks s c picks x) set → IsSetOf w (λ x. fits_width w x && in_domain s c x) set
simple_set s c w picks set is h = record {
  same_width = h.same_width;
  canonical = h.canonical;
  members = λ x. h.members x ∙ ap (λ b. fits_width w x && b) (ap (λ ps. meets_picks s c ps x) is ∙ meets_simple s c x);
}
