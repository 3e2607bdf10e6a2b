-- What the code finds of miss conditions.
use denote.Ref.{Bor}
use Rattle.std.specs.Prelude.{◌≡◌, ℕ, List, map, option_map}
use Rattle.std.specs.List.{AllByRecursion}
use Rattle.path_cond.specs.Seen.{itself, seen}
use Rattle.path_formula.specs.Typed.{IsTyped}
use Rattle.path_formula.specs.View.{view}
use Rattle.path_records.specs.Shown.{held_head}
use Rattle.path_solver.specs.declared.decision.Decided.{Decided}
use Rattle.path_solver.specs.declared.decision.Decided.TheVariants.{Sat, Unsat, Undecided}
use Rattle.refutation_check.specs.Seen.{IsMetBy, IsUndecidedBy}
use Rattle.refutation_check.specs.declared.outcome.Cause.{Cause}
use Rattle.exact_records.specs.Records.{SymCondition}
use Rattle.compare_meaning.specs.Comparing.{AreUndecided, Comparison, IsFirstMet, IsMetAt, IsOutAt, IsUndecidedAt, same, other, unknown}
use Rattle.compare_meaning.specs.Facing.{IsImpossible, IsKnownMiss}
use Rattle.compare_meaning.specs.Paths.{DeliveredPath}
use Rattle.net_compare.specs.declared.comparing.Compared.{Compared}
use Rattle.net_compare.specs.declared.comparing.Compared.TheVariants as compared
use Rattle.net_compare.specs.declared.comparing.Told.{Told}
use Rattle.net_compare.specs.declared.comparing.Told.TheVariants as told
use Rattle.net_compare.specs.declared.delivery.Delivery.{Delivery}
use Rattle.net_compare.specs.Joining.{IsReady, denied_by}
use Rattle.net_compare.specs.declared.judged.Judged.{Judged}
use Rattle.net_compare.specs.declared.facing.Faced.{Faced}
use Rattle.net_compare.specs.declared.judged.Judged.TheVariants.{Met, Open, Out}

abbrev pub judged_by : Decided → Judged
judged_by (Sat values) = Met values
judged_by (Unsat refutation) = Out
judged_by (Undecided cause) = Open

abbrev pub Says : SymCondition → Judged → Type 0
Says c (Met values) = IsMetBy itself c values
Says c Open = (cause : Cause) × IsUndecidedBy itself c cause
Says c Out = IsImpossible c

abbrev pub exit_seen : Bor (List ℕ) × ℕ → List ℕ × ℕ
exit_seen exit = (exit.0.now, exit.1)

abbrev pub seen_path : Delivery → DeliveredPath
seen_path d = record { number = d.number; exit = option_map exit_seen d.exit; heads = map held_head d.heads.now; condition = seen view d.condition.now }

-- the miss condition of a path says this
abbrev pub MissSays : List DeliveredPath → DeliveredPath → Judged → Type 0
MissSays qs p (Met values) = IsMetAt IsKnownMiss IsImpossible qs p values
MissSays qs p Open = IsUndecidedAt IsKnownMiss IsImpossible qs p
MissSays qs p Out = IsOutAt IsKnownMiss IsImpossible qs p

-- Its condition with the symbols of those that face it, which has its formulas, and a formula for each of these: with each false it is its
-- miss condition.
abbrev pub IsFaced : List DeliveredPath → DeliveredPath → Faced → Type 0
IsFaced qs p faced =
    IsReady faced.start
    × AllByRecursion (λ f. IsTyped faced.start.condition.widths (view f)) faced.formulas.items
    × ((seen view faced.start.condition).entries ≡ p.condition.entries)
    × IsKnownMiss p qs (denied_by (seen view faced.start.condition) (map view faced.formulas.items))

-- those of several paths
abbrev pub Tells : List DeliveredPath → List DeliveredPath → Told → Type 0
Tells qs ps (told.Met number values) = IsFirstMet IsKnownMiss IsImpossible qs ps number values
Tells qs ps (told.Open numbers) = AreUndecided IsKnownMiss IsImpossible qs ps numbers.items

abbrev pub compared_seen : Compared → Comparison
compared_seen compared.Same = same
compared_seen (compared.Other left number values) = other left number values
compared_seen (compared.Unknown left right) = unknown left.items right.items
