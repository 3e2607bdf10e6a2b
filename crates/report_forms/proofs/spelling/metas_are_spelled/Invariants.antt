use Rattle.std.proofs.Common.{drop}
use Rattle.std.specs.List.{AllByRecursion}
use Rattle.net_check.specs.Network.{network}
use Rattle.report_forms.specs.Spelled.{IsSpelled}
use Rattle.report_forms.proofs.spelling.metas_are_spelled.Given as goal

-- where those that are left are spelled, all are
abbrev pub invariant-loop-index : goal.invariant-loop-index
invariant-loop-index l = AllByRecursion IsSpelled (drop l.index (network l.net).names.metas) → AllByRecursion IsSpelled (network l.net).names.metas
