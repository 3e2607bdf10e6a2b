use Rattle.std.proofs.Common.{◌≡◌, ℤ, pos, Some, None, map, rules, sym, ap, subst, ◌∙◌, arith}
use Rattle.std.specs.Prelude.{FitsSigned, neg_ℤ, ◌^◌}
use Rattle.std.specs.Int.{w128}
use Rattle.std.proofs.lemmas.Int.{ints, to_z-of_z}
use Rattle.difference_solver.specs.Choices.{lists_of, cases_of, items_of}
use Rattle.difference_solver.specs.Floors.{weakest, floor_bound, IsFloor}
use Rattle.difference_solver.specs.declared.floors.Floor.{Floor}
use Rattle.difference_solver.proofs.Flooring.{floor_at, pass_over, none_weakest}
use Rattle.difference_solver.proofs.floors.floor_of.Goals as goal

-- the least number of a bound
abbrev least : ℤ
least = neg_ℤ (pos (2 ^ 66))

pub returns-in-Some : goal.returns-in-Some
returns-in-Some c =
    let fits : FitsSigned w128 c.in-Some.at_most = search rules in
    let is : weakest c.args.unknown least (cases_of c.index-choices-index.result) ≡ Some c.in-Some.at_most =
    sym (c.weakest.ensures ∙ ap (λ cs. weakest c.args.unknown least (map items_of cs)) c.as_slice.ensures.value) ∙ c.in-Some.is in
    let made = c.implied_floor.ensures
    ∙ ap (λ (z : ℤ). record { choice = c.loop-index.index; bound = floor_bound c.args.unknown z }) (to_z-of_z w128 c.in-Some.at_most fits) in (
      subst (λ (f : Floor). IsFloor c.args.count (lists_of c.args.choices.now) f) (sym made)
          (floor_at c.args.count c.args.unknown c.args.choices.now c.loop-index.index c.index-choices-index.result least c.in-Some.at_most c.loop-index-test.true c.index-choices-index.is c.requires.in_range c.requires.unknown
          (omega (arith, ints)) (omega (arith, ints)) is),
      ap (λ (f : Floor). f.bound.plus) made,
      ap (λ (f : Floor). f.bound.minus) made,
    )

pub loop-index-preserved : goal.loop-index-preserved
loop-index-preserved c = λ one.
    let is : weakest c.args.unknown least (cases_of c.index-choices-index.result) ≡ None =
    sym (c.weakest.ensures ∙ ap (λ cs. weakest c.args.unknown least (map items_of cs)) c.as_slice.ensures.value) ∙ c.in-None.is in
    pass_over c.args.unknown c.args.choices.now c.loop-index.index c.index-choices-index.result c.loop-index-test.true c.index-choices-index.is
    (none_weakest c.args.unknown least (cases_of c.index-choices-index.result) is) (c.loop-index.invariant one)
