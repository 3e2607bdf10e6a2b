use Rattle.std.proofs.Common.{◌<◌, ◌^◌, rules, refl, sym, subst}
use Rattle.serde_json.specs.View.{view}
use Rattle.net_check.specs.Network.{network}
use Rattle.report_shape.specs.declared.part.Part.TheVariants as part
use Rattle.report_forms.specs.Fits.{TermFits}
use Rattle.path_report.proofs.Reduces.{set_reduced, symbols_fit, no_some}
use Rattle.path_report.proofs.decoder.Decoder.set_cell.Goals as goal

pub unreachable-requires : goal.unreachable-requires
unreachable-requires c =
    let low : c.in_ok-constant.constant < 2 ^ 128 = search rules in
    let reduced = set_reduced (network c.args.self.now.net.now) part.Width part.Value part.Terms (view c.args.value.now) (view c.item.result.now) (view c.item-2.result.now) (view c.item-3.result.now)
    c.requires.parts c.item.ensures c.item-2.ensures c.item-3.ensures c.width-width.result c.in_ok-constant.constant c.in_ok-terms.terms.items
    c.width-width.ensures.shown c.in_ok-constant.ensures c.in_ok-terms.ensures.shown c.large_numbers_have_digits.ensures.digits c.width-width.ensures.most low c.in_ok-terms.ensures.fits c.requires.reduced in
    no_some c.of_parts.result (c.of_parts.ensures.reduced.1 reduced) c.in-None.is

pub returns-clause-fits : goal.returns-clause-fits
returns-clause-fits c =
    let low : c.in_ok-constant.constant < 2 ^ 128 = search rules in
    let reduced = set_reduced (network c.args.self.now.net.now) part.Width part.Value part.Terms (view c.args.value.now) (view c.item.result.now) (view c.item-2.result.now) (view c.item-3.result.now)
    c.requires.parts c.item.ensures c.item-2.ensures c.item-3.ensures c.width-width.result c.in_ok-constant.constant c.in_ok-terms.terms.items
    c.width-width.ensures.shown c.in_ok-constant.ensures c.in_ok-terms.ensures.shown c.large_numbers_have_digits.ensures.digits c.width-width.ensures.most low c.in_ok-terms.ensures.fits c.requires.reduced in (
      c.width-width.ensures.least,
      c.width-width.ensures.most,
      subst (TermFits c.width-width.result) (sym c.in-Some.ensures.term) (record { same = refl; reduced = reduced; symbols = symbols_fit c.in_ok-terms.terms.items c.in_ok-terms.ensures.fits }),
    )
