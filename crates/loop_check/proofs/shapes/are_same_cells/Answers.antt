use Rattle.std.proofs.Common.{◌≡◌, ◌∙◌, false, rules, sym}
use Rattle.loop_check.specs.Lists.{shape_of}
use Rattle.loop_check.proofs.Same.{no_yes, other_members}
use Rattle.loop_check.proofs.shapes.are_same_cells.Goals as goal

pub returns-then-not-is_same_cell : goal.returns-then-not-is_same_cell
returns-then-not-is_same_cell c =
    let no : c.is_same_cell.result ≡ false = search rules in
    other_members shape_of c.args.first.now c.args.second.now c.loop-place.place c.index-first-place.result c.index-second-place.result c.loop-place-test.true
    c.index-first-place.is c.index-second-place.is (λ e. no_yes (sym no ∙ c.is_same_cell.ensures.1 e))
