use Rattle.path_questions.specs.Formulas.{explored}
use Rattle.path_questions.proofs.Typing.{formulas_typed}
use Rattle.path_questions.proofs.laws.the_formulas_of_questions_are_typed.Goals as goal

pub returns : goal.returns
returns c = λ net i hops is q own ds way leads.
    formulas_typed i (c.below.ensures net i hops).typing net hops (explored net i hops) is way q own ds leads
