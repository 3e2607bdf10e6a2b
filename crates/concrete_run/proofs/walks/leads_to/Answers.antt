use Rattle.std.proofs.Common.{rules, sym, drop, length}
use Rattle.std.proofs.lemmas.Slice.Eq.{starts_is}
use Rattle.concrete_run.proofs.walks.leads_to.Goals as goal

pub returns : goal.returns
returns c =
    let is = starts_is (λ a b. search rules) c.args.decisions.now c.args.first.now c.starts_with.result c.starts_with.ensures.value in
    (λ t. (drop (length c.args.first.now) c.args.decisions.now, sym (is.0 t)), λ b. is.1 b.0 (sym b.1))
