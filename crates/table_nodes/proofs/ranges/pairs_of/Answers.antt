use Rattle.std.proofs.Common.{◌≡◌, ◌∙◌, ◌++◌, ◌∷◌, [], Some, sym, ap}
use Rattle.std.specs.Prelude.{slice_get}
use Rattle.table_nodes.proofs.Growth.{taken_more, within_more}
use Rattle.table_nodes.proofs.ranges.pairs_of.Goals as goal

pub loop-range-preserved : goal.loop-range-preserved
loop-range-preserved c =
    let pairs = c.args.set.now.pairs in
    let is : slice_get pairs c.loop-range.index ≡ Some c.in-Some.range = sym c.range.ensures.value ∙ c.in-Some.is in
    record {
      pairs = c.in_ok-push.ensures.items ∙ ap (λ taken. taken ++ c.in-Some.range ∷ []) c.loop-range.invariant.pairs
          ∙ sym (taken_more pairs c.loop-range.index c.in-Some.range is);
      within = within_more pairs c.loop-range.index c.in-Some.range is;
    }
