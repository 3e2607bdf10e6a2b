use Rattle.std.proofs.Common.{◌≡◌, ◌∙◌, false, rules, sym}
use Rattle.cell_stacks.specs.Cells.{lent_stack}
use Rattle.path_records.specs.Shown.{held_head}
use Rattle.record_checks.proofs.Same.{no_yes, other_members}
use Rattle.record_checks.proofs.fields.are_same_heads.Goals as goal

pub returns-then-not-is_same_head : goal.returns-then-not-is_same_head
returns-then-not-is_same_head c =
    let no : c.is_same_head.result ≡ false = search rules in
    other_members lent_stack held_head c.args.first.now c.args.second.now c.loop-place.place c.index-first-place.result c.index-second-place.result c.loop-place-test.true
    c.index-first-place.is c.index-second-place.is (λ e. no_yes (sym no ∙ c.is_same_head.ensures.1 e))
