use denote.Ref.{Bor}
use Rattle.std.proofs.Common.{◌≡◌, ◌∙◌, ◌++◌, ◌∷◌, [], Bool, Some, false, ap, slice_get, rules}
use Rattle.path_cond.specs.Seen.{itself}
use Rattle.path_formula.specs.View.{view}
use Rattle.path_formula.specs.declared.formula.Formula.{Formula}
use Rattle.refutation_check.specs.Seen.{is_outside}
use Rattle.net_compare.specs.Rows.{lent_seen}
use Rattle.net_compare.proofs.NeedLemmas.{required_is_needed}
use Rattle.net_compare.proofs.WeighLemmas.{last_follows, last_typed}
use Rattle.net_compare.proofs.weighing.last_of.Goals as goal

pub returns-clause-follow : goal.returns-clause-follow
returns-clause-follow c =
    let row = c.args.row.now in
    let n = c.saturating_sub.result in
    let d : Bor Formula × Bool = (c.in-Some.formula, c.in-Some.holds) in
    let g = c.in_ok-required.field-0 in
    let at : slice_get row n ≡ Some d = search rules in
    let inner : is_outside itself (lent_seen d) ≡ false = search rules in
    let need = required_is_needed (view d.0.now) d.1 (view g) c.in_ok-required.ensures in
    last_follows row n d at g need c.push.new.self.items (c.in_ok-push.ensures.items ∙ ap (λ xs. xs ++ g ∷ []) c.new-list.ensures.items) inner

pub returns-clause-typed : goal.returns-clause-typed
returns-clause-typed c =
    let row = c.args.row.now in
    let n = c.saturating_sub.result in
    let d : Bor Formula × Bool = (c.in-Some.formula, c.in-Some.holds) in
    let g = c.in_ok-required.field-0 in
    let at : slice_get row n ≡ Some d = search rules in
    let need = required_is_needed (view d.0.now) d.1 (view g) c.in_ok-required.ensures in
    last_typed row n d at g need c.push.new.self.items (c.in_ok-push.ensures.items ∙ ap (λ xs. xs ++ g ∷ []) c.new-list.ensures.items)
