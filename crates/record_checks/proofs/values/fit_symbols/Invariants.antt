use Rattle.std.proofs.Common.{◌≤◌, length, take}
use Rattle.sefl_meaning.specs.Injected.{FitWidths}
use Rattle.record_checks.proofs.values.fit_symbols.Given as goal

-- the values so far fit
abbrev pub invariant-loop-symbol : goal.invariant-loop-symbol
invariant-loop-symbol l = (length l.cond.widths ≤ length l.values) × FitWidths (take l.symbol l.cond.widths) l.values
