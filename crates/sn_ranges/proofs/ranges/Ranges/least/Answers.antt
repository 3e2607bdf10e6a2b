use Rattle.std.proofs.Common.{◌≡◌, List, [], ◌∷◌, Some, None, refl, sym, ap, ◌∙◌, arith}
use Rattle.std.proofs.lemmas.Bool.{false≢true}
use Rattle.std.specs.List.{slice_get}
use Rattle.sn_ranges.specs.Ranges.{Range, RangeSet, IsLeast, AscendFrom}
use Rattle.sn_ranges.proofs.RangesLemmas.{first_is_least, is_member-nil, AscendFrom-same}
use Rattle.sn_ranges.proofs.ranges.Ranges.least.Goals as goal

no_first : (rs : List Range) → None ≡ slice_get rs 0 → rs ≡ []
no_first [] e = refl
no_first (r ∷ rs) e = absurd (cc)

first_start : (rs : List Range) (r : Range) → AscendFrom 0 rs → Some r ≡ slice_get rs 0 → IsLeast rs r.0
first_start [] r h e = absurd (cc)
first_start (x ∷ rs) r h e =
    let same : r ≡ x = cc in
    rw same (first_is_least 0 (x ∷ rs) h (omega arith))

pub returns-in_err-range-clause-none : goal.returns-in_err-range-clause-none
returns-in_err-range-clause-none c =
    let none : c.args.self.now.pairs ≡ [] = sym (ap (λ (s : RangeSet). s.pairs) c.self.view_is) ∙ sym c.deref.ensures.value
    ∙ no_first c.deref.result.now c.in_err-range.ensures.value in
    rw (c.from_residual.ensures, none) ((λ _ v. is_member-nil v), (λ _. refl))

pub returns-clause-least : goal.returns-clause-least
returns-clause-least c =
    let is = c.deref.ensures.value ∙ ap (λ (s : RangeSet). s.pairs) c.self.view_is in
    let ascending = AscendFrom-same 0 _ _ (sym c.deref.ensures.value) c.self.invariant.ascending in
    rw (← is) (first_start c.deref.result.now c.in_ok-range.range.now ascending c.in_ok-range.ensures.value)

pub returns-clause-none : goal.returns-clause-none
returns-clause-none c =
    let least = returns-clause-least c in (
      (λ e. absurd (false≢true (sym e))),
      (λ empty. absurd (false≢true (sym (empty _) ∙ least.member))),
    )
