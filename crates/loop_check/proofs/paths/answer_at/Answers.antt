use Rattle.std.proofs.Common.{◌≡◌, ◌++◌, ◌∷◌, [], rules, sym, subst}
use Rattle.std.specs.List.{AllByRecursion}
use Rattle.sym_state.specs.Symbolic.{Symbolic}
use Rattle.loop_check.specs.Lasting.{AreOfOneStart}
use Rattle.loop_check.proofs.Seeing.{all_alike, at_the_end}
use Rattle.loop_check.proofs.paths.answer_at.Goals as goal

pub answer_from-requires-clause-start : goal.answer_from-requires-clause-start
answer_from-requires-clause-start c =
    let split : c.args.states.now ≡ c.in-Some.visits.now ++ c.in-Some.end.now ∷ [] = search rules in
    subst (λ (s : Symbolic). AllByRecursion (AreOfOneStart s) c.in-Some.visits.now) (sym c.in_ok-last.ensures.state)
    (all_alike c.args.states.now c.in-Some.visits.now c.in-Some.end.now split c.requires)

pub returns : goal.returns
returns c =
    let split : c.args.states.now ≡ c.in-Some.visits.now ++ c.in-Some.end.now ∷ [] = search rules in
    at_the_end c.args.before.now c.args.port c.args.states.now c.in-Some.visits.now c.in-Some.end.now c.in_ok-last.last.state.now split c.in_ok-last.ensures.state
    c.answer_from.result c.answer_from.ensures
