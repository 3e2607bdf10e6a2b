use Rattle.std.proofs.Common.{◌≡◌, ◌+◌, Some, None, rules}
use Rattle.std.specs.Prelude.{slice_get}
use Rattle.run_text.proofs.Dropped.{part_written, parts_written}
use Rattle.run_text.proofs.terms.write_parts.Goals as goal

pub returns : goal.returns
returns c =
    let past : slice_get c.args.term.now.parts c.loop-symbol.index ≡ None = search rules in
    parts_written _ _ _ c.args.term.now.parts c.loop-symbol.index past c.loop-symbol.invariant c.in_ok-end_list.ensures

pub loop-symbol-preserved : goal.loop-symbol-preserved
loop-symbol-preserved c =
    let got : slice_get c.args.term.now.parts c.loop-symbol.index ≡ Some (c.in-Some.symbol, c.in-Some.coefficient) = search rules in
    let moved : c.in_ok-index.index ≡ c.loop-symbol.index + 1 = search rules in
    part_written _ _ _ c.args.term.now.parts c.loop-symbol.index c.in_ok-index.index (c.in-Some.symbol, c.in-Some.coefficient) got moved c.in_ok-write_part.ensures c.loop-symbol.invariant
