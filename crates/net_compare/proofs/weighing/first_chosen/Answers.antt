use Rattle.net_compare.specs.Rows.{row_seen}
use Rattle.net_compare.specs.Weighing.{whole_seen}
use Rattle.net_compare.proofs.WeighLemmas.{added_typed, first_to_add, later_to_add, selection_first, selection_more}
use Rattle.net_compare.proofs.weighing.first_chosen.Goals as goal

pub with_each-requires-clause-typed : goal.with_each-requires-clause-typed
with_each-requires-clause-typed c =
    let w = c.args.whole.now in
    let widths = w.symbols.now.widths in
    let firsts = row_seen w.firsts.now in
    let seconds = row_seen w.seconds.now in
    let start = selection_first (whole_seen w) w.most c.in_ok-start.start c.in_ok-start.ensures.ready c.in_ok-start.ensures.none in
    let one = first_to_add w.most widths firsts seconds c.requires.typed c.as_slice.result.now c.in_ok-one.one.items c.as_slice.ensures.value c.in_ok-one.ensures.follow c.in_ok-one.ensures.typed in
    added_typed (whole_seen w) c.in_ok-start.start start c.as_slice.result.now one

pub with_each-requires-2-clause-typed : goal.with_each-requires-2-clause-typed
with_each-requires-2-clause-typed c =
    let w = c.args.whole.now in
    let whole = whole_seen w in
    let widths = w.symbols.now.widths in
    let firsts = row_seen w.firsts.now in
    let seconds = row_seen w.seconds.now in
    let start = selection_first whole w.most c.in_ok-start.start c.in_ok-start.ensures.ready c.in_ok-start.ensures.none in
    let one = first_to_add w.most widths firsts seconds c.requires.typed c.as_slice.result.now c.in_ok-one.one.items c.as_slice.ensures.value c.in_ok-one.ensures.follow c.in_ok-one.ensures.typed in
    let two = later_to_add w.most widths firsts seconds c.requires.typed c.as_slice-2.result.now c.in_ok-two.two.items c.as_slice-2.ensures.value c.in_ok-two.ensures.follow c.in_ok-two.ensures.typed in
    let more = selection_more whole c.in_ok-start.start start c.as_slice.result.now one c.in_ok-more.more c.in_ok-more.ensures.ready c.in_ok-more.ensures.longer in
    added_typed whole c.in_ok-more.more more c.as_slice-2.result.now two

pub returns : goal.returns
returns c =
    let w = c.args.whole.now in
    let whole = whole_seen w in
    let widths = w.symbols.now.widths in
    let firsts = row_seen w.firsts.now in
    let seconds = row_seen w.seconds.now in
    let start = selection_first whole w.most c.in_ok-start.start c.in_ok-start.ensures.ready c.in_ok-start.ensures.none in
    let one = first_to_add w.most widths firsts seconds c.requires.typed c.as_slice.result.now c.in_ok-one.one.items c.as_slice.ensures.value c.in_ok-one.ensures.follow c.in_ok-one.ensures.typed in
    let two = later_to_add w.most widths firsts seconds c.requires.typed c.as_slice-2.result.now c.in_ok-two.two.items c.as_slice-2.ensures.value c.in_ok-two.ensures.follow c.in_ok-two.ensures.typed in
    let more = selection_more whole c.in_ok-start.start start c.as_slice.result.now one c.in_ok-more.more c.in_ok-more.ensures.ready c.in_ok-more.ensures.longer in
    selection_more whole c.in_ok-more.more more c.as_slice-2.result.now two c.in_ok-chosen.chosen c.in_ok-chosen.ensures.ready c.in_ok-chosen.ensures.longer
