-- What a solver of bounds says of the bounds that are gathered.
use Rattle.std.proofs.Common.{◌≡◌, ℕ, ◌<◌, ℤ, List, length, get_or, ap, sym, subst, ◌∙◌}
use Rattle.std.specs.Global.{Vec}
use Rattle.std.proofs.lemmas.List.{get_or-map, length-map}
use Rattle.difference_solver.specs.Verdict.{IfValues}
use Rattle.difference_solver.specs.declared.bound.DiffVerdict.{DiffVerdict}
use Rattle.difference_solver.specs.declared.bound.DiffVerdict.TheVariants.{Values}
use Rattle.difference_solver.specs.Choices.{Case, lists_of, cases_of, cases_at, items_of}
use Rattle.difference_solver.specs.declared.choice.Choice.{Choice}

-- the fact of an answer with values
pub of_values : (P : Case → List ℤ → Type 0) (g seen : Case) (verdict : DiffVerdict) (values : Vec ℤ) → seen ≡ g → verdict ≡ Values values → IfValues verdict (P seen) → P g values.items
of_values P g seen verdict values same is h =
    subst (λ (b : Case). P b values.items) same (subst (λ (v : DiffVerdict). IfValues v (P seen)) is h)

-- the cases of a choice, by the choice itself
pub cases_there : (choices : List Choice) (k : ℕ) (x : Choice) → k < length choices → x ≡ get_or choices k x → cases_at (lists_of choices) k ≡ cases_of x
cases_there choices k x lt is = get_or-map cases_of choices k x _ lt ∙ ap cases_of (sym is)

pub cases_there-length : (choices : List Choice) (k : ℕ) (x : Choice) → k < length choices → x ≡ get_or choices k x → length (cases_at (lists_of choices) k) ≡ length x.cases.items
cases_there-length choices k x lt is = ap length (cases_there choices k x lt is) ∙ length-map x.cases.items items_of
