use Rattle.std.proofs.Common.{◌≡◌, ◌∙◌, ◌<◌, true, false, length, sym, add-one, arith, rules}
use Rattle.sefl_meaning.specs.Injected.{FitWidths}
use Rattle.record_checks.proofs.Fitting.{fit_at, fit_long, fit_more}
use Rattle.record_checks.proofs.Same.{no_fact, no_yes}
use Rattle.record_checks.proofs.values.fit_symbols.Goals as goal

pub returns-then-values-symbols : goal.returns-then-values-symbols
returns-then-values-symbols c =
    let ws = c.args.cond.now.widths in
    let vs = c.args.values.now in
    no_fact (FitWidths ws vs) (λ h. let m = fit_long ws vs h in let l = c.if-values-symbols.true in let e = c.symbols.ensures in omega (arith, m, l, e))

pub returns-then-not-fits : goal.returns-then-not-fits
returns-then-not-fits c =
    let ws = c.args.cond.now.widths in
    let vs = c.args.values.now in
    let off : c.fits.result ≡ false = search rules in
    no_fact (FitWidths ws vs) (λ h. no_yes (sym off ∙ c.fits.ensures.1 (fit_at ws vs c.loop-symbol.symbol h)))

pub loop-symbol-preserved : goal.loop-symbol-preserved
loop-symbol-preserved c =
    let ws = c.args.cond.now.widths in
    let vs = c.args.values.now in
    let i = c.loop-symbol.symbol in
    let inv = c.loop-symbol.invariant in
    let on : c.fits.result ≡ true = search rules in
    let less : i < length ws = let l = c.loop-symbol-test.true in let e = c.symbols-symbol-end.ensures in omega (arith, l, e) in
    (inv.0, rw add-one (fit_more ws vs i less inv.0 inv.1 (c.fits.ensures.0 on)))
