use Rattle.std.proofs.Common.{ap, ◌∙◌, map, ◌≡◌, Vec, Global, ℕ}
use Rattle.std.proofs.lemmas.Result.{IfOk-weaker}
use Rattle.path_formula.specs.Formulas.{truth_at}
use Rattle.path_formula.specs.Solutions.{agrees, alone}
use Rattle.path_formula.specs.View.{view}
use Rattle.path_formula.specs.Bounds.{lists_of}
use Rattle.path_formula.specs.Cases.{range_case, single_cases}
use Rattle.path_formula.specs.declared.sym_bound.SymBound.{SymBound}
use Rattle.path_formula.proofs.CaseSets.{ranges_where-set}
use Rattle.path_formula.proofs.atoms.single.Goals as goal

pub returns : goal.returns
returns c =
    let test = λ (x : ℕ). agrees c.args.holds (truth_at (view c.args.atom.now) (alone c.args.symbol x)) in
    let is = ranges_where-set c.args.width test c.in_ok-set.set c.in_ok-set.ensures in
    IfOk-weaker c.range_cases.result (λ (cases : Vec (Vec SymBound Global) Global). lists_of cases.items ≡ map (range_case c.args.symbol) c.in_ok-set.set.pairs)
    (λ (cases : Vec (Vec SymBound Global) Global). lists_of cases.items ≡ single_cases c.args.symbol c.args.width test)
    (λ cases h. h ∙ ap (map (range_case c.args.symbol)) is) c.range_cases.ensures
