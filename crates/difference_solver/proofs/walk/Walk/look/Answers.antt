use Rattle.std.proofs.Common.{◌≡◌, ◌++◌, ap, sym, subst, ◌∙◌}
use Rattle.std.specs.Prelude.{All}
use Rattle.difference_solver.specs.Bound.{IsInRange, IsSolution, HasLowerBounds}
use Rattle.difference_solver.specs.Bound as Bounds
use Rattle.difference_solver.specs.Choices.{Case, lists_of}
use Rattle.difference_solver.specs.Floors.{bounds_of}
use Rattle.difference_solver.proofs.Solving.{of_values}
use Rattle.difference_solver.proofs.SearchSteps.{first_of, floors_in_range}
use Rattle.difference_solver.proofs.walk.Walk.look.Goals as goal

pub solve-requires-clause-in_range : goal.solve-requires-clause-in_range
solve-requires-clause-in_range c =
    let seen : c.as_slice-all.result.now ≡ c.args.self.now.gathered.items ++ bounds_of c.args.floors.now =
    c.as_slice-all.ensures.value ∙ c.in_ok-bounds.ensures ∙ ap (λ (b : Case). b ++ bounds_of c.args.floors.now) c.as_slice-gathered.ensures.value in
    subst (λ (b : Case). All (IsInRange c.args.count) b) (sym seen)
    (floors_in_range c.args.count (lists_of c.args.choices.now) c.args.self.now.gathered.items c.args.floors.now c.requires.floors.each c.requires.at.way.in_range)

pub weigh-requires-clause-values : goal.weigh-requires-clause-values
weigh-requires-clause-values c =
    let g : Case = c.args.self.now.gathered.items in
    let all : Case = g ++ bounds_of c.args.floors.now in
    let seen : c.as_slice-all.result.now ≡ c.args.self.now.gathered.items ++ bounds_of c.args.floors.now =
    c.as_slice-all.ensures.value ∙ c.in_ok-bounds.ensures ∙ ap (λ (b : Case). b ++ bounds_of c.args.floors.now) c.as_slice-gathered.ensures.value in
    first_of c.args.count (lists_of c.args.choices.now) g c.args.floors.now c.in-Values.values.items c.requires.floors
    (of_values (IsSolution c.args.count) all c.as_slice-all.result.now c.in_ok-verdict.verdict c.in-Values.values seen c.in-Values.is c.in_ok-verdict.ensures.solution)
    (of_values (λ b v. HasLowerBounds c.args.count b → Bounds.IsLeast c.args.count b v) all c.as_slice-all.result.now c.in_ok-verdict.verdict c.in-Values.values seen c.in-Values.is c.in_ok-verdict.ensures.least)
