use Rattle.std.proofs.Common.{◌∙◌, sym}
use Rattle.std.proofs.lemmas.Slice.Eq.{bytes_eq-Decides}
use Rattle.same_injections.proofs.equality.same_name.Goals as goal

pub returns : goal.returns
returns c =
    let same = bytes_eq-Decides c.args.left.now c.args.right.now in
    (λ h. same.0 (sym c.eq.ensures ∙ h), λ e. c.eq.ensures ∙ same.1 e)
