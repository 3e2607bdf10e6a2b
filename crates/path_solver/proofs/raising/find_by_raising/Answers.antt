use Rattle.std.proofs.Common.{◌≡◌, ◌∙◌, List, Option, length, sym, subst}
use Rattle.std.specs.Prelude.{All, IfSome}
use Rattle.sn_width.specs.declared.ids.SymId.{SymId}
use Rattle.difference_solver.specs.Bound.{IsInRange, IsSolution}
use Rattle.difference_solver.specs.Cycle.{IsNegativeCycle}
use Rattle.difference_solver.specs.Raising.{IfCircle, IfRaised, IsLeastNatural}
use Rattle.difference_solver.specs.declared.bound.Bound.{Bound}
use Rattle.difference_solver.specs.declared.lifting.Raised.{Raised}
use Rattle.path_cond.specs.Counts.{formula_choices}
use Rattle.path_cond.specs.Coupled.{coupled_symbols}
use Rattle.refutation_check.specs.Accepted.{IsAccepted}
use Rattle.refutation_check.specs.declared.steps.Refute.{Refute}
use Rattle.path_solver.specs.Origins.{choices_from, origins_of}
use Rattle.path_solver.proofs.Bridge.{origins_are}
use Rattle.path_solver.specs.Singles.{AreSinglesOf}
use Rattle.path_solver.specs.declared.singles.Singles.{Singles}
use Rattle.path_solver.proofs.Joining.{capped_one, least_single, unmet_single}
use Rattle.path_solver.proofs.Solved.{choices_in_range, unmet_none}
use Rattle.path_solver.proofs.raising.find_by_raising.Goals as goal

-- what is said of the bounds as they are lent, and of the symbols that are handed over
said : (P : List SymId → List Bound → Type 0) (symbols coupled : List SymId) (lent bounds : List Bound) → symbols ≡ coupled
    → lent ≡ bounds → P symbols lent → P coupled bounds
said P symbols coupled lent bounds same is h =
    subst (λ (bs : List Bound). P coupled bs) is (subst (λ (ss : List SymId). P ss lent) same h)

pub of-requires-clause-one : goal.of-requires-clause-one
of-requires-clause-one c =
    capped_one (formula_choices c.args.cond.now) (sym c.formula_choices.ensures ∙ c.if-formula_choices-ne1.false)

pub raise-requires-clause-in_range : goal.raise-requires-clause-in_range
raise-requires-clause-in_range c =
    let cond = c.args.cond.now in
    let joined =
    subst (λ (o : Option Singles). IfSome o (AreSinglesOf cond (origins_of cond))) c.in-Some.is c.in_ok-singles.ensures in
    said (λ ss bs. All (IsInRange (length ss)) bs) (coupled_symbols cond) c.args.symbols.now c.in-Some.singles.bounds.items
    c.as_slice.result.now (sym c.requires.symbols) (sym c.as_slice.ensures.value)
    (joined.in_range (length (coupled_symbols cond)) (choices_in_range c.facts.ensures cond (origins_of cond) c.formulas_are_typed.ensures (origins_are cond)))

pub returns-in-Ok-Least : goal.returns-in-Ok-Least
returns-in-Ok-Least c =
    let cond = c.args.cond.now in
    let symbols = c.args.symbols.now in
    let lent = c.as_slice.result.now in
    let bounds = c.in-Some.singles.bounds.items in
    let values = c.in-Ok-Least.values.items in
    let joined =
    subst (λ (o : Option Singles). IfSome o (AreSinglesOf cond (origins_of cond))) c.in-Some.is c.in_ok-singles.ensures in
    let solution =
    subst (λ (r : Raised). IfRaised r (IsSolution (length symbols) lent)) c.in-Ok-Least.field-0-is
    c.in-Ok-Least.ensures.solution in
    let least =
    subst (λ (r : Raised). IfRaised r (IsLeastNatural (length symbols) lent)) c.in-Ok-Least.field-0-is
    c.in-Ok-Least.ensures.least in
    least_single cond bounds values joined
    (said (λ ss bs. IsSolution (length ss) bs values) symbols (coupled_symbols cond) lent bounds c.requires.symbols
    c.as_slice.ensures.value solution)
    (said (λ ss bs. IsLeastNatural (length ss) bs values) symbols (coupled_symbols cond) lent bounds c.requires.symbols
    c.as_slice.ensures.value least)

pub returns : goal.returns
returns c =
    let cond = c.args.cond.now in
    let bounds = c.in-Some.singles.bounds.items in
    let indices = c.in-Ok-Cycle.bounds.items in
    let joined =
    subst (λ (o : Option Singles). IfSome o (AreSinglesOf cond (origins_of cond))) c.in-Some.is c.in_ok-singles.ensures in
    let lent =
    subst (λ (r : Raised). IfCircle r (IsNegativeCycle c.as_slice.result.now)) c.in-Ok-Cycle.field-0-is
    c.in-Ok-Cycle.ensures.cycle in
    let cycle = subst (λ (bs : List Bound). IsNegativeCycle bs indices) c.as_slice.ensures.value lent in
    let unmet =
    unmet_single c.cycle_refutes.ensures (length (coupled_symbols cond)) (choices_from cond (origins_of cond)) bounds indices
    joined cycle in (
      unmet_none c.facts.ensures cond (origins_of cond) c.formulas_are_typed.ensures (origins_are cond) unmet,
      subst (λ (o : Option (List Refute)). IfSome o (IsAccepted cond)) c.in-Some-2.is c.in_ok-accepted_around-in-Ok-Cycle.ensures,
    )
