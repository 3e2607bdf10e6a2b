use Rattle.std.proofs.Common.{◌≡◌, ℕ, ◌<◌, ◌&&◌, ◌||◌, false, min, max, ap, sym, ◌∙◌, arith}
use Rattle.sn_ranges.specs.Ranges.{Range, in_range, is_member}
use Rattle.sn_ranges.proofs.RangesLemmas.{in_range_tells, or-false}
use Rattle.sn_ranges.proofs.meet.append_overlap.Goals as goal

-- what two ranges have in common, where it is a range and where it is none
overlap : (x y : Range) (first last v : ℕ) → first ≡ max x.0 y.0 → last ≡ min x.1 y.1 → in_range (first, last) v ≡ (in_range x v && in_range y v)
overlap x y first last v f l = grind (arith, in_range_tells (first, last) v, in_range_tells x v, in_range_tells y v)

no_overlap : (x y : Range) (first last v : ℕ) → first ≡ max x.0 y.0 → last ≡ min x.1 y.1 → last < first → (in_range x v && in_range y v) ≡ false
no_overlap x y first last v f l h = grind (arith, in_range_tells x v, in_range_tells y v)

pub returns-in_ok-append-clause-members : goal.returns-in_ok-append-clause-members
returns-in_ok-append-clause-members c =
    λ v. c.in_ok-append.ensures.members v
    ∙ ap (λ b. is_member c.args.common.now.items v || b) (overlap c.args.left c.args.right _ _ v c.max-first.ensures c.min-last.ensures)

pub returns-else-first-last-clause-members : goal.returns-else-first-last-clause-members
returns-else-first-last-clause-members c =
    λ v. sym (or-false _)
    ∙ ap (λ b. is_member c.args.common.now.items v || b)
    (sym (no_overlap c.args.left c.args.right _ _ v c.max-first.ensures c.min-last.ensures c.if-first-last.false))
