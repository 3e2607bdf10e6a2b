-- What is found of two terms, and of the cells of two visits.
use Rattle.std.specs.Prelude.{Bool, true, false, List, Option, None, Some}
use Rattle.std.specs.List.{AllByRecursion}
use Rattle.path_cond.specs.Seen.{itself}
use Rattle.path_solver.specs.declared.decision.Decided.{Decided}
use Rattle.path_solver.specs.declared.decision.Decided.TheVariants.{Sat, Unsat, Undecided}
use Rattle.refutation_check.specs.Seen.{IsMetBy, IsUndecidedBy}
use Rattle.exact_records.specs.Records.{SymCondition}
use Rattle.loop_meaning.specs.declared.answer.Why.{Why}
use Rattle.loop_meaning.specs.declared.answer.Why.TheVariants.{Cell, Unknown}
use Rattle.loop_meaning.specs.Visits.{FirstOpen, IsRuledOut}
use Rattle.loop_check.specs.declared.differing.Differing.{Differing}
use Rattle.loop_check.specs.declared.differing.Differing.TheVariants.{Never, With, Open}

abbrev pub is_never : Differing → Bool
is_never Never = true
is_never (With values) = false
is_never (Open cause) = false

-- what a decision tells
abbrev pub told_by : Decided → Differing
told_by (Sat values) = With values
told_by (Unsat refutation) = Never
told_by (Undecided cause) = Open cause

-- why a visit differs, or None
abbrev pub why_of : Differing → Option Why
why_of Never = None
why_of (With values) = Some (Cell values)
why_of (Open cause) = Some (Unknown cause)

-- the condition of a difference is refuted, met by these values, or undecided
abbrev pub Tells : SymCondition → Differing → Type 0
Tells c Never = IsRuledOut c
Tells c (With values) = IsMetBy itself c values
Tells c (Open cause) = IsUndecidedBy itself c cause

-- each of these conditions is refuted, or the first that is not is met by these values, or undecided
abbrev pub FirstTells : List SymCondition → Differing → Type 0
FirstTells cs Never = AllByRecursion IsRuledOut cs
FirstTells cs (With values) = FirstOpen (λ d. IsMetBy itself d values) cs
FirstTells cs (Open cause) = FirstOpen (λ d. IsUndecidedBy itself d cause) cs
