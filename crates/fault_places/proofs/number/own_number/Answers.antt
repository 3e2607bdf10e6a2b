use Rattle.std.proofs.Common.{◌+◌, ◌≤◌, ◌∙◌, rules, ap, sym, length, map, drop}
use Rattle.std.proofs.lemmas.Result.{IfOk-weaker}
use Rattle.sefl_syntax.specs.Views.{decl_tree}
use Rattle.fault_places.proofs.Starts.{no_own}
use Rattle.fault_places.proofs.number.own_number.Goals as goal

pub returns-then-own-index : goal.returns-then-own-index
returns-then-own-index c =
    let l = c.loop-index in
    let past : length c.args.own.now ≤ l.index = search rules in
    IfOk-weaker c.sum.result _ _
    (λ n is. is ∙ ap (λ m. l.number + m) c.saturating_sub.ensures
    ∙ sym (no_own c.args.site l.number l.begin l.index c.args.own.now (map decl_tree (drop l.index c.args.filled.now)) past) ∙ l.invariant)
    c.sum.ensures
