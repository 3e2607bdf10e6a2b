use Rattle.std.specs.List.{AllByRecursion}
use Rattle.run_text.specs.Held.{held_meta}
use Rattle.report_forms.specs.Fits.{MetaFits}
use Rattle.path_report.proofs.scanned.Direct.metas_after.Given as goal

-- the items so far fit
abbrev pub invariant-loop-place : goal.invariant-loop-place
invariant-loop-place g l = AllByRecursion (λ meta. MetaFits g.N.OfNet.net (held_meta meta)) l.found.items
