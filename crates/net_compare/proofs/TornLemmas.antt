-- A formula of one row that is in another with the other truth.
use denote.Ref.{Bor}
use Rattle.std.proofs.Common.{◌≡◌, ◌∙◌, ℕ, Bool, true, false, not, List, refl, sym, ap, subst, Some, option_map, slice_get}
use Rattle.path_formula.specs.Formulas.{FormulaTree}
use Rattle.path_formula.specs.View.{view}
use Rattle.path_formula.specs.declared.formula.Formula.{Formula}
use Rattle.path_cond.specs.Seen.{itself}
use Rattle.refutation_check.specs.Seen.{is_outside}
use Rattle.sefl_meaning.specs.Order.{Has}
use Rattle.compare_typing.specs.Selecting.{IsTorn}
use Rattle.net_compare.specs.Rows.{lent_seen, row_seen}
use Rattle.net_compare.proofs.Lacking.{got_lent, has_at}

other_truth : (a b : Bool) → (a ≡ b → ⊥) → b ≡ not a
other_truth true true h = absurd (h refl)
other_truth true false h = refl
other_truth false true h = refl
other_truth false false h = absurd (h refl)

pub has_lent : (row : List (Bor Formula × Bool)) (n : ℕ) (d : Bor Formula × Bool) → slice_get row n ≡ Some d → Has (row_seen row) (lent_seen d)
has_lent row n d at = has_at (row_seen row) n (lent_seen d) (got_lent row n ∙ ap (option_map lent_seen) at)

pub torn_at : (row others : List (Bor Formula × Bool)) (m n : ℕ) (d e : Bor Formula × Bool) → slice_get row m ≡ Some d → slice_get others n ≡ Some e
    → (d.1 ≡ e.1 → ⊥) → is_outside itself (lent_seen d) ≡ false → view d.0.now ≡ view e.0.now → IsTorn (row_seen row) (row_seen others)
torn_at row others m n d e at there differ inner same =
    let turned : lent_seen e ≡ (view d.0.now, not d.1) = λ i. (sym same i, other_truth d.1 e.1 differ i) in
    record {
      entry = lent_seen d;
      own = has_lent row m d at;
      others = subst (Has (row_seen others)) turned (has_lent others n e there);
      inner = inner;
    }
