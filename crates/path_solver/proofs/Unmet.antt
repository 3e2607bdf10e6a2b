-- The first of picks whose formula has not the truth that it must have.
use Rattle.std.proofs.Common.{◌≡◌, ℕ, ◌+◌, ◌<◌, Bool, true, false, cond, ◌&&◌, not, List, length, drop, get_or, Option, Some, sym, ap, ◌∙◌}
use Rattle.std.specs.Prelude.{slice_get}
use Rattle.std.specs.List.{position_from}
use Rattle.std.proofs.lemmas.List.{drop_more}
use Rattle.path_cond.specs.Conditions.{Condition, Entry, entry_holds}
use Rattle.path_cond.specs.Summaries.{is_outside, picks_where, outside_picks}
use Rattle.path_cond.specs.Picks.{first_where, passes}
use Rattle.refutation_check.specs.Least.{is_broken_outside, first_broken_outside}
use Rattle.path_solver.specs.Unmet.{is_unmet, is_unmet_at}

next : (p : ℕ → Bool) (picks : List ℕ) (i : ℕ) (b : Bool) → i < length picks → p (get_or picks i 0) ≡ b
    → first_where p (drop i picks) ≡ cond b (Some (get_or picks i 0)) (first_where p (drop (i + 1) picks))
next p picks i b lt is =
    ap (first_where p) (drop_more picks i 0 lt) ∙ ap (λ t. cond t (Some (get_or picks i 0)) (first_where p (drop (i + 1) picks))) is

pub found : (p : ℕ → Bool) (picks : List ℕ) (i : ℕ) → i < length picks → p (get_or picks i 0) ≡ true → first_where p (drop i picks) ≡ Some (get_or picks i 0)
found p picks i lt is = next p picks i true lt is

pub passed : (p : ℕ → Bool) (picks : List ℕ) (i : ℕ) → i < length picks → p (get_or picks i 0) ≡ false → first_where p (drop i picks) ≡ first_where p (drop (i + 1) picks)
passed p picks i lt is = next p picks i false lt is

abbrev pub FirstOfPicks : Type 0
FirstOfPicks = (chosen other test : Entry → Bool) (entries : List Entry) → ((e : Entry) → chosen e ≡ true → other e ≡ test e) → ((e : Entry) → chosen e ≡ false → test e ≡ false)
    → first_where (λ p. passes other (slice_get entries p)) (picks_where chosen 0 entries) ≡ position_from test 0 entries

-- the first of the outside formulas that is unmet is the first that is broken
pub first_is : FirstOfPicks → (c : Condition) (values : List ℕ) (first : Option ℕ) (picks : List ℕ) → picks ≡ outside_picks c
    → first ≡ first_where (is_unmet_at c values) picks → first ≡ first_broken_outside c values
first_is law c values first picks is h =
    h ∙ ap (first_where (is_unmet_at c values)) is
    ∙ law is_outside (is_unmet values) (is_broken_outside values) c.entries
    (λ e on. sym (ap (λ b. b && not (entry_holds values e)) on)) (λ e off. ap (λ b. b && not (entry_holds values e)) off)
