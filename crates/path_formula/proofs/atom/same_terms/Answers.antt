use Rattle.std.proofs.Common.{◌≡◌, subst, true}
use Rattle.std.proofs.lemmas.Bool.Decides.{same_from_decides}
use Rattle.path_formula.specs.Terms.{same_term}
use Rattle.path_formula.proofs.SameTerm.{same_term-self, same_term-true}
use Rattle.path_formula.proofs.atom.same_terms.Goals as goal

pub returns : goal.returns
returns c =
    let a = c.args.left.now in
    let b = c.args.right.now in
    same_from_decides {P = a ≡ b} c.same.result (same_term a b) c.same.ensures.same (same_term-true a b, λ e. subst (λ t. same_term a t ≡ true) e (same_term-self a))
