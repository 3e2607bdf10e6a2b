-- The symbols that simple formulas are on.
use Rattle.std.proofs.Common.{◌≡◌, ℕ, zero, suc, ◌≤◌, Bool, true, false, cond, List, [], ◌∷◌, length, Some, refl, ap, ◌∙◌, subst, arith}
use Rattle.std.specs.Prelude.{slice_get}
use Rattle.std.proofs.lemmas.Option.{slice_get_within}
use Rattle.sn_width.specs.declared.ids.SymId.{SymId}
use Rattle.path_formula.specs.Formulas.{FormulaTree}
use Rattle.path_formula.specs.Kinds.{kind_of}
use Rattle.path_formula.specs.Typed.{IsTyped}
use Rattle.path_formula.specs.View.{view}
use Rattle.path_formula.specs.declared.kinds.Kind.TheVariants.{Simple}
use Rattle.path_cond.specs.Conditions.{Entry, AllTyped, is_entry_on, picks_from}
use Rattle.path_cond.proofs.Narrowing.{kind_simple}

pub typed_at : (widths : List ℕ) (entries : List Entry) (pick : ℕ) (entry : Entry) → AllTyped widths entries → slice_get entries pick ≡ Some entry → IsTyped widths (view entry.0)
typed_at widths [] pick entry typed is = cc
typed_at widths (e ∷ entries) zero entry typed is = let same : e ≡ entry = cc in subst (λ (x : Entry). IsTyped widths (view x.0)) same typed.0
typed_at widths (e ∷ entries) (suc pick) entry typed is = typed_at widths entries pick entry typed.1 is

-- the law of formulas, as it is handed on
abbrev pub KnownSymbols : Type 0
KnownSymbols = (f : FormulaTree) (s : SymId) (widths : List ℕ) → kind_of f ≡ Simple s → IsTyped widths f → (w : ℕ) × (slice_get widths s.0 ≡ Some w)

not_on : (law : KnownSymbols) (widths : List ℕ) (s : SymId) (e : Entry) (on : Bool) → is_entry_on s e ≡ on → IsTyped widths (view e.0) → length widths ≤ s.0 → on ≡ false
not_on law widths s e true is typed past =
    let known = law (view e.0) s widths (kind_simple s (kind_of (view e.0)) is) typed in
    absurd (omega (arith, slice_get_within widths s.0 known.0 known.1, past))
not_on law widths s e false is typed past = refl

pub none_past : (law : KnownSymbols) (widths : List ℕ) (s : SymId) (n : ℕ) (entries : List Entry) → AllTyped widths entries → length widths ≤ s.0 → picks_from s n entries ≡ []
none_past law widths s n [] typed past = refl
none_past law widths s n (e ∷ entries) typed past =
    ap (λ b. cond b (n ∷ picks_from s (suc n) entries) (picks_from s (suc n) entries)) (not_on law widths s e (is_entry_on s e) refl typed.0 past)
    ∙ none_past law widths s (suc n) entries typed.1 past
