use Rattle.net_compare.proofs.WeighLemmas.{AgreeFrom}
use Rattle.net_compare.proofs.missing.all_agree.Given as goal

-- all have their truths where those that are left have
abbrev pub invariant-loop-formula : goal.invariant-loop-formula
invariant-loop-formula l = AgreeFrom l.values l.row l.formula-index
