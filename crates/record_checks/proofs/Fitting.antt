-- Lists of values that are tried member by member.
use Rattle.std.proofs.Common.{◌<◌, ◌≤◌, ℕ, zero, suc, List, [], ◌∷◌, length, take, get_or, refl, subst, arith}
use Rattle.std.proofs.lemmas.List.{take_all}
use Rattle.sn_width.specs.Width.{FitsWidth}
use Rattle.refutation_check.specs.Seen.{FitsAt}
use Rattle.sefl_meaning.specs.Injected.{FitWidths}
use Rattle.record_checks.proofs.Parts.{some_same}

-- there are at least as many values
pub fit_long : (ws vs : List ℕ) → FitWidths ws vs → length ws ≤ length vs
fit_long [] vs h = omega arith
fit_long (w ∷ ws) [] h = absurd h
fit_long (w ∷ ws) (v ∷ vs) h = let m = fit_long ws vs h.1 in omega (arith, m)

-- each fits at its place
pub fit_at : (ws vs : List ℕ) (k : ℕ) → FitWidths ws vs → FitsAt ws k (get_or vs k 0)
fit_at [] vs k h = λ w e. absurd (cc)
fit_at (w ∷ ws) [] k h = absurd h
fit_at (w ∷ ws) (v ∷ vs) zero h = λ x e. subst (λ y. FitsWidth y v) (some_same e) h.0
fit_at (w ∷ ws) (v ∷ vs) (suc k) h = fit_at ws vs k h.1

-- the first values fit, and one more
pub fit_more : (ws vs : List ℕ) (k : ℕ) → k < length ws → length ws ≤ length vs → FitWidths (take k ws) vs → FitsAt ws k (get_or vs k 0)
    → FitWidths (take (suc k) ws) vs
fit_more [] vs k less long h f = absurd (omega (arith, less))
fit_more (w ∷ ws) [] k less long h f = absurd (omega (arith, long))
fit_more (w ∷ ws) (v ∷ vs) zero less long h f = (f w refl, tt)
fit_more (w ∷ ws) (v ∷ vs) (suc k) less long h f = (h.0, fit_more ws vs k (omega (arith, less)) (omega (arith, long)) h.1 f)

pub fit_all : (ws vs : List ℕ) (k : ℕ) → length ws ≤ k → FitWidths (take k ws) vs → FitWidths ws vs
fit_all ws vs k long h = subst (λ xs. FitWidths xs vs) (take_all k ws long) h
