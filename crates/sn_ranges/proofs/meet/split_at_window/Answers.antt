use Rattle.std.proofs.lemmas.List.{take_rest}
use Rattle.sn_ranges.proofs.RangesLemmas.{AscendFrom-drop}
use Rattle.sn_ranges.proofs.Windows.{is_cut_so}
use Rattle.sn_ranges.proofs.meet.split_at_window.Goals as goal

pub ending_before-requires-2 : goal.ending_before-requires-2
ending_before-requires-2 c = rw (take_rest c.args.ranges.now c.ending_before.result) (AscendFrom-drop 0 c.args.ranges.now c.ending_before.result c.requires.ascending)

pub returns : goal.returns
returns c = is_cut_so
    c.args.ranges.now c.args.window c.ending_before.result c.ending_before-2.result _ _ _ c.requires.ordered c.requires.ascending
    c.ending_before.ensures.before c.ending_before.ensures.at c.ending_before-2.ensures.before c.ending_before-2.ensures.at
    (take_rest c.args.ranges.now c.ending_before.result) c.split_at.ensures.front c.split_at.ensures.back
