use Rattle.path_cond.specs.Seen.{itself}
use Rattle.refutation_check.specs.Seen.{holds_unless_outside}
use Rattle.net_compare.specs.Rows.{row_seen}
use Rattle.net_compare.specs.Weighing.{whole_seen}
use Rattle.net_compare.proofs.WeighLemmas.{added_typed, first_to_add, later_to_add, least_by, none_left, pass_both, selection_more}
use Rattle.net_compare.proofs.weighing.grown.Goals as goal

pub returns-then-is_nothing-2 : goal.returns-then-is_nothing-2
returns-then-is_nothing-2 c =
    let w = c.args.whole.now in
    let values = c.args.values in
    let firsts = row_seen w.firsts.now in
    let seconds = row_seen w.seconds.now in
    let one = none_left values c.as_slice.result.now firsts c.in_ok-one.one.items c.as_slice-3.result.now c.as_slice.ensures c.in_ok-one.ensures.none c.as_slice-3.ensures.value
    (c.is_nothing.ensures c.if-is_nothing.true) in
    let two = none_left values c.as_slice-2.result.now seconds c.in_ok-two.two.items c.as_slice-then-is_nothing.result.now c.as_slice-2.ensures c.in_ok-two.ensures.none
    c.as_slice-then-is_nothing.ensures.value (c.is_nothing-then-is_nothing.ensures c.if-is_nothing-2.true) in
    least_by (whole_seen w) c.args.chosen c.requires.selection c.the_least_of_some_formulas_are_the_least.ensures values c.requires.least
    (pass_both (holds_unless_outside itself values) firsts seconds one two)

pub with_each-requires-clause-typed : goal.with_each-requires-clause-typed
with_each-requires-clause-typed c =
    let w = c.args.whole.now in
    let firsts = row_seen w.firsts.now in
    let seconds = row_seen w.seconds.now in
    let one = first_to_add w.most w.symbols.now.widths firsts seconds c.requires.typed c.as_slice-4.result.now c.in_ok-one.one.items c.as_slice-4.ensures.value c.in_ok-one.ensures.follow
    c.in_ok-one.ensures.typed in
    added_typed (whole_seen w) c.args.chosen c.requires.selection c.as_slice-4.result.now one

pub with_each-requires-2-clause-typed : goal.with_each-requires-2-clause-typed
with_each-requires-2-clause-typed c =
    let w = c.args.whole.now in
    let whole = whole_seen w in
    let widths = w.symbols.now.widths in
    let firsts = row_seen w.firsts.now in
    let seconds = row_seen w.seconds.now in
    let one = first_to_add w.most widths firsts seconds c.requires.typed c.as_slice-4.result.now c.in_ok-one.one.items c.as_slice-4.ensures.value c.in_ok-one.ensures.follow c.in_ok-one.ensures.typed in
    let two = later_to_add w.most widths firsts seconds c.requires.typed c.as_slice-5.result.now c.in_ok-two.two.items c.as_slice-5.ensures.value c.in_ok-two.ensures.follow c.in_ok-two.ensures.typed in
    let more = selection_more whole c.args.chosen c.requires.selection c.as_slice-4.result.now one c.in_ok-more.more c.in_ok-more.ensures.ready c.in_ok-more.ensures.longer in
    added_typed whole c.in_ok-more.more more c.as_slice-5.result.now two

pub returns : goal.returns
returns c =
    let w = c.args.whole.now in
    let whole = whole_seen w in
    let widths = w.symbols.now.widths in
    let firsts = row_seen w.firsts.now in
    let seconds = row_seen w.seconds.now in
    let one = first_to_add w.most widths firsts seconds c.requires.typed c.as_slice-4.result.now c.in_ok-one.one.items c.as_slice-4.ensures.value c.in_ok-one.ensures.follow c.in_ok-one.ensures.typed in
    let two = later_to_add w.most widths firsts seconds c.requires.typed c.as_slice-5.result.now c.in_ok-two.two.items c.as_slice-5.ensures.value c.in_ok-two.ensures.follow c.in_ok-two.ensures.typed in
    let more = selection_more whole c.args.chosen c.requires.selection c.as_slice-4.result.now one c.in_ok-more.more c.in_ok-more.ensures.ready c.in_ok-more.ensures.longer in
    selection_more whole c.in_ok-more.more more c.as_slice-5.result.now two c.in_ok-chosen.chosen c.in_ok-chosen.ensures.ready c.in_ok-chosen.ensures.longer
