use Rattle.std.proofs.Common.{◌≡◌, ◌∙◌, ℕ, List, map, take, ap, sym, subst, true, get_or, [], arith, rules}
use Rattle.path_cond.specs.Conditions.{Condition}
use Rattle.path_cond.specs.Picks.{is_inside_pick, are_inside_picks}
use Rattle.path_solver.specs.Origins.{IsMemberAt, whole}
use Rattle.std.specs.Prelude.{◌++◌, ◌∷◌}
use Rattle.refutation_check.specs.declared.steps.Refute.TheVariants.{Split}
use Rattle.path_solver.proofs.Gathering.{given_push, next_formula, inside_at, whole_member, whole_problem}
use Rattle.path_solver.proofs.problem.Problem.of.Goals as goal

member_by : (cond : Condition) (pick : ℕ) (way : List ℕ) → [] ≡ way → is_inside_pick cond pick ≡ true → IsMemberAt cond pick way
member_by cond pick way empty inside = subst (IsMemberAt cond pick) empty (whole_member cond pick inside)

pub add_member-requires-clause-member : goal.add_member-requires-clause-member
add_member-requires-clause-member c =
    let cond = c.args.cond.now in
    let inside : are_inside_picks cond c.deref-pick-items.result.now ≡ true = ap (are_inside_picks cond) c.deref-pick-items.ensures.value ∙ c.in_ok-picks.ensures.inside in
    let empty : [] ≡ c.from_vec-way.result = search rules in
    member_by cond (get_or c.deref-pick-items.result.now c.loop-pick.pick-index 0) c.from_vec-way.result empty
    (inside_at cond c.deref-pick-items.result.now c.loop-pick.pick-index inside c.loop-pick-test.true)

pub loop-pick-preserved : goal.loop-pick-preserved
loop-pick-preserved c =
    let cond = c.args.cond.now in
    let picks = c.deref-pick-items.result.now in
    let pick = get_or picks c.loop-pick.pick-index 0 in
    let inside : are_inside_picks cond picks ≡ true = ap (are_inside_picks cond) c.deref-pick-items.ensures.value ∙ c.in_ok-picks.ensures.inside in
    let is = whole_member cond pick (inside_at cond picks c.loop-pick.pick-index inside c.loop-pick-test.true) in
    let empty : [] ≡ c.from_vec-way.result = search rules in
    next_formula cond picks c.loop-pick.pick-index c.add_member.new.self c.loop-pick-test.true
    (given_push cond (map whole (take c.loop-pick.pick-index picks)) pick [] c.loop-pick.problem c.add_member.new.self is
    (c.in_ok-add_member.ensures.steps ∙ ap (λ (way : List ℕ). c.loop-pick.problem.steps.items ++ Split pick way ∷ []) (sym empty))
    c.in_ok-add_member.ensures.choices c.loop-pick.invariant)

pub returns : goal.returns
returns c =
    whole_problem c.args.cond.now c.deref-pick-items.result.now c.loop-pick.pick-index c.loop-pick.problem (omega (arith, c.loop-pick-test.false))
    (c.deref-pick-items.ensures.value ∙ c.in_ok-picks.ensures.all) c.loop-pick.invariant
