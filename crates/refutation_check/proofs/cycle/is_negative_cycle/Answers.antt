use Rattle.std.proofs.Common.{◌≡◌, Some, None, rules}
use Rattle.std.specs.Prelude.{slice_get}
use Rattle.refutation_check.specs.Cycles.{IsWalk, IsNegativeCycle}
use Rattle.refutation_check.proofs.Walking.{from_first, no_circle, no_number, answer_no}
use Rattle.refutation_check.proofs.cycle.is_negative_cycle.Goals as goal

pub returns-in_default : goal.returns-in_default
returns-in_default c =
    let g = c.args.gathered.now in
    let ns = c.args.numbers.now in
    let none : None ≡ slice_get ns 0 = search rules in
    answer_no (IsNegativeCycle g ns) (no_number g ns none)

pub returns-in_default-bound_at : goal.returns-in_default-bound_at
returns-in_default-bound_at c =
    let g = c.args.gathered.now in
    let ns = c.args.numbers.now in
    let n = c.in-Some.first in
    let first : slice_get ns 0 ≡ Some n = search rules in
    let none : None ≡ slice_get g n = search rules in
    answer_no (IsNegativeCycle g ns) (no_circle g ns n first none)

pub returns-in-None : goal.returns-in-None
returns-in-None c =
    let g = c.args.gathered.now in
    let ns = c.args.numbers.now in
    let n = c.in-Some.first in
    let b = c.in-Some-bound_at.bound in
    let first : slice_get ns 0 ≡ Some n = search rules in
    let at : slice_get g n ≡ Some b = search rules in
    let not : IsWalk g b.plus ns b.plus → ⊥ = search rules in
    answer_no (IsNegativeCycle g ns) (λ cycle. not (from_first g ns n b first at cycle))
