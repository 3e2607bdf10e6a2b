use Rattle.std.proofs.Common.{◌≡◌, ◌-◌, ◌^◌, ap, ◌∙◌}
use Rattle.std.proofs.lemmas.Result.{IfOk-weaker}
use Rattle.lin_term.specs.Terms.{LinearTerm}
use Rattle.lin_term.proofs.Combining.{term_difference-minus_one}
use Rattle.lin_term.proofs.Values.{IsDifference-from_minus_one, value_at-minus_one}
use Rattle.lin_term.proofs.term.Term.minus.Goals as goal
use Rattle.lin_term.proofs.term.Term.minus.Goals.{After-plus_multiple}

minus_one_is : (c : After-plus_multiple) → c.max.result ≡ 2 ^ c.args.self.now.width - 1
minus_one_is c = c.max.ensures.value ∙ ap (λ (t : LinearTerm). 2 ^ t.width - 1) c.self.view_is

pub returns-clause-term : goal.returns-clause-term
returns-clause-term c =
    let a = c.args.self.now in
    let b = c.args.other.now in
    IfOk-weaker _ _ _ (λ t h. term_difference-minus_one c.max.result a b t (minus_one_is c) c.requires c.plus_multiple.ensures.other h) c.plus_multiple.ensures.combination

pub returns-clause-difference : goal.returns-clause-difference
returns-clause-difference c =
    let a = c.args.self.now in
    let b = c.args.other.now in
    IfOk-weaker _ _ _ (λ t h. IsDifference-from_minus_one c.max.result a b t (minus_one_is c) c.requires c.plus_multiple.ensures.other h) c.plus_multiple.ensures.combination

pub returns-clause-value : goal.returns-clause-value
returns-clause-value c =
    let a = c.args.self.now in
    let b = c.args.other.now in
    IfOk-weaker _ _ _ (λ t h. value_at-minus_one c.max.result a b t (minus_one_is c) c.requires c.plus_multiple.ensures.other h) c.plus_multiple.ensures.combination
