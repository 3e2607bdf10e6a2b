use Rattle.std.proofs.Common.{◌≡◌, ℕ, true, ap, ◌∙◌}
use Rattle.std.specs.Global.{Vec}
use Rattle.std.specs.Prelude.{reverse}
use Rattle.std.proofs.lemmas.Result.{IfOk-weaker}
use Rattle.path_cond.specs.Summaries.{inside_picks}
use Rattle.path_cond.specs.Picks.{are_inside_picks}
use Rattle.path_cond.proofs.PickLemmas.{inside_are_inside, reversed_twice}
use Rattle.path_cond.proofs.picks.inside_picks.Goals as goal

pub returns-clause-inside : goal.returns-clause-inside
returns-clause-inside c =
    let cond = c.args.cond.now in
    IfOk-weaker c.ascending.result _ (λ (picks : Vec ℕ). are_inside_picks cond picks.items ≡ true)
    (λ picks h. inside_are_inside cond picks.items (h ∙ ap reverse c.inside_picks.ensures ∙ reversed_twice (inside_picks cond))) c.ascending.ensures
