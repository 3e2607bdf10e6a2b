use Rattle.concrete_run.proofs.Beginning.{Fit}
use Rattle.concrete_run.proofs.injecting.first_too_wide.Given as goal

-- the fields that are left, with the numbers for them, tell of all
abbrev pub invariant-loop-field : goal.invariant-loop-field
invariant-loop-field l = Fit l.fields l.field-index l.values l.number
