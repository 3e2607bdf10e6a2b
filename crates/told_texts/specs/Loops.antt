-- What the text of `loops` tells, and when its numbers have texts of their own.
use Rattle.std.specs.Prelude.{ℕ, ◌<◌, ◌^◌, List, [], map}
use Rattle.std.specs.List.{AllByRecursion}
use Rattle.refutation_check.specs.declared.outcome.Cause.{Cause}
use Rattle.refutation_check.specs.declared.outcome.Cause.TheVariants.{Outside, Cases, Coupled}
use Rattle.report_forms.specs.Fits.{Fit128}
use Rattle.loop_meaning.specs.declared.answer.Differ.{Differ}
use Rattle.loop_meaning.specs.declared.answer.LoopAnswer.{LoopAnswer}
use Rattle.loop_meaning.specs.declared.answer.Why.{Why}
use Rattle.loop_meaning.specs.declared.answer.Why.TheVariants.{Choice, Layout, Cell, Unknown}
use Rattle.loops_command.specs.declared.text.OpenPaths.{OpenPaths}
use Rattle.loops_command.specs.declared.text.OpenPaths.TheVariants.{Numbers, Visits}
use Rattle.loops_command.specs.Texts.{loops_in, open_in}

-- ---- what is told

-- of a cause, its kind
abbrev pub cause_told : Cause → Cause
cause_told (Outside pick values) = Outside 0 []
cause_told (Cases count) = Cases 0
cause_told (Coupled count) = Coupled 0

abbrev pub why_told : Why → Why
why_told Choice = Choice
why_told Layout = Layout
why_told (Cell values) = Cell values
why_told (Unknown cause) = Unknown (cause_told cause)

abbrev pub visit_told : Differ → Differ
visit_told d = record { place = d.place; why = why_told d.why }

-- of a path without a loop the number of its record, alone or with its earlier visits
abbrev pub open_told : OpenPaths → ℕ × List Differ → ℕ × List Differ
open_told Numbers other = (other.0, [])
open_told Visits other = (other.0, map visit_told other.1)

-- the loops, and the paths without one
abbrev pub loops_told : OpenPaths → List (ℕ × LoopAnswer) → List (ℕ × ℕ) × List (ℕ × List Differ)
loops_told detail found = (loops_in found, map (open_told detail) (open_in found))

-- ---- places and numbers of records have 64 bits, and the numbers of a packet 128

abbrev pub LoopFits : ℕ × ℕ → Type 0
LoopFits l = (l.0 < 2 ^ 64) × (l.1 < 2 ^ 64)

abbrev pub WhyFits : Why → Type 0
WhyFits Choice = Unit {0}
WhyFits Layout = Unit {0}
WhyFits (Cell values) = Fit128 values
WhyFits (Unknown cause) = Unit {0}

abbrev pub VisitFits : Differ → Type 0
VisitFits d = (d.place < 2 ^ 64) × WhyFits d.why

abbrev pub OpenFits : ℕ × List Differ → Type 0
OpenFits other = (other.0 < 2 ^ 64) × AllByRecursion VisitFits other.1

abbrev pub FoundFits : List (ℕ × LoopAnswer) → Type 0
FoundFits found = AllByRecursion LoopFits (loops_in found) × AllByRecursion OpenFits (open_in found)
