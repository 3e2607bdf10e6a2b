-- Records among which no path that is cut is found.
use Rattle.std.proofs.Common.{◌≡◌, ℕ, suc, inl, inr, List, [], ◌∷◌, refl, sym, subst, ◌∙◌}
use Rattle.std.specs.List.{AllByRecursion}
use Rattle.sefl_meaning.specs.declared.walk.End.{End}
use Rattle.sefl_meaning.specs.declared.walk.End.TheVariants.{Cut}
use Rattle.exact_records.specs.Exact.{IsTried}
use Rattle.exact_records.specs.Records.{RecordTree, path, pruned, unexplored}
use Rattle.loop_meaning.specs.declared.answer.LoopAnswer.{LoopAnswer}
use Rattle.loop_check.specs.Finding.{AreFound, IsCut, IsCutRecord}
use Rattle.hop_bounds.specs.Beyond.{AllUncut, IsUncut}

is_cut : (end' : End) → end' ≡ Cut → IsCut end'
is_cut end' is = subst IsCut (sym is) tt

uncut : (x : RecordTree) → (IsCutRecord x → ⊥) → IsTried x → IsUncut x
uncut (path ds places end' fields verdict) none tried = λ is. none (is_cut end' is)
uncut (pruned ds before refutation) none tried = tt
uncut (unexplored ds) none tried = absurd (tried tt)

some_found : (f : ℕ × LoopAnswer) (fs : List (ℕ × LoopAnswer)) → [] ≡ f ∷ fs → ⊥
some_found f fs e = cc e

pub all_uncut : (Is : RecordTree → LoopAnswer → Type 0) (number : ℕ) (rs : List RecordTree) (found : List (ℕ × LoopAnswer)) → found ≡ []
    → AreFound Is number rs found → AllByRecursion IsTried rs → AllUncut rs
all_uncut Is number [] found none h tried = tt
all_uncut Is number (x ∷ rs) found none (inl h) tried = absurd (some_found (number, h.answer) h.rest (sym none ∙ h.is))
all_uncut Is number (x ∷ rs) found none (inr h) tried = (uncut x h.0 tried.0, all_uncut Is (suc number) rs found none h.1 tried.1)
