use Rattle.std.proofs.Common.{◌≡◌, ◌+◌, ◌<◌, ◌^◌, Some, rules}
use Rattle.std.specs.Prelude.{slice_get}
use Rattle.report_forms.proofs.Parts.{part_read}
use Rattle.report_forms.proofs.fields.term_fits.Goals as goal

pub loop-symbol-preserved : goal.loop-symbol-preserved
loop-symbol-preserved c =
    let got : slice_get c.args.term.now.parts c.loop-symbol.index ≡ Some (c.in-Some.symbol, c.in-Some.field-0-1) = search rules in
    let moved : c.in_ok-index.index ≡ c.loop-symbol.index + 1 = search rules in
    let fits : c.in-Some.symbol.0 < 2 ^ 64 = search rules in
    part_read c.args.term.now.parts c.loop-symbol.index c.in_ok-index.index (c.in-Some.symbol, c.in-Some.field-0-1) got moved fits c.loop-symbol.invariant
