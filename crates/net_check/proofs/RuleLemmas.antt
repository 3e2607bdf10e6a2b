-- The rules of the table are not that on bad patterns.
use Rattle.std.proofs.Common.{◌≡◌, sym, subst, ap, refl, ◌∙◌, ℕ, ◌+◌, Bool, true, false, if◌then◌else◌, List, [], ◌∷◌, Option, None, Some, Result, Ok, Err, fold}
use Rattle.std.specs.List.{AllByRecursion}
use Rattle.std.proofs.lemmas.Option.{none-some, same_Some}
use Rattle.std.proofs.lemmas.Bool.{true≢false}
use Rattle.sn_width.specs.declared.ids.Site.{Site}
use Rattle.sefl_syntax.specs.Trees.{JobTree}
use Rattle.job_items.specs.declared.rule.Breach.{Breach}
use Rattle.job_items.specs.declared.rule.Breach.TheVariants.{Breaks, Passes}
use Rattle.job_items.specs.declared.rule.Rule.{Rule}
use Rattle.job_items.specs.declared.rule.Rule.TheVariants.{BadPattern}
use Rattle.job_items.specs.Items.{Item, job_items}
use Rattle.job_items.specs.Rules.{Counts, stopped_or, outcome, counted, no_counts, breach, breach_to_limits, or_else, first_breach, early_breach, limit_breach, late_breach, early_rows, limit_rows, late_rows, ports_in, copies_in, told, refusal_of, refusal}
use Rattle.net_check.specs.declared.acceptance.Accepted.{Accepted}
use Rattle.net_check.specs.declared.fault.AcceptFault.{AcceptFault}
use Rattle.net_check.specs.declared.fault.AcceptFault.TheVariants.{Refused, NoMemory}

abbrev is_on_patterns : Rule → Bool
is_on_patterns BadPattern = true
is_on_patterns _ = false

abbrev breaks_it : Breach → Bool
breaks_it (Breaks rule) = is_on_patterns rule
breaks_it (Passes which) = false

-- the rows' breaches are others
abbrev AreOthers : List (Bool × Breach) → Type 0
AreOthers rows = AllByRecursion (λ row. breaks_it row.1 ≡ false) rows

abbrev IsOther : Option Breach → Type 0
IsOther found = (b : Breach) → found ≡ Some b → breaks_it b ≡ false

first_is_other : (rows : List (Bool × Breach)) → AreOthers rows → IsOther (first_breach rows)
first_is_other [] others b h = absurd (none-some b h)
first_is_other (row ∷ rows) others b h = by row.0 h (first_is_other rows others.1 b)
  where
    by : (holds : Bool) → (if holds then Some row.1 else first_breach rows) ≡ Some b → (first_breach rows ≡ Some b → breaks_it b ≡ false) → breaks_it b ≡ false
    by true h later = subst (λ x. breaks_it x ≡ false) (same_Some row.1 b h) others.0
    by false h later = later h

either_is_other : (a b : Option Breach) → IsOther a → IsOther b → IsOther (or_else a b)
either_is_other None b first other = other
either_is_other (Some x) b first other = first

breach_is_other : (c : Counts) (item : Item) → IsOther (breach c item)
breach_is_other c item =
    either_is_other (breach_to_limits c item) (late_breach item)
    (either_is_other (early_breach item) (limit_breach c item)
    (first_is_other (early_rows item) (refl, (refl, (refl, (refl, (refl, (refl, (refl, (refl, (refl, (refl, (refl, (refl, tt)))))))))))))
    (first_is_other (limit_rows c (ports_in item) (copies_in item)) (refl, (refl, (refl, (refl, (refl, (refl, (refl, (refl, (refl, (refl, tt))))))))))))
    (first_is_other (late_rows item) (refl, (refl, tt)))

told_is_other : (totals : Counts) (b : Breach) → breaks_it b ≡ false → is_on_patterns (told totals b) ≡ false
told_is_other totals (Breaks rule) other = other
told_is_other totals (Passes which) other = refl

refused_is_other : (totals c : Counts) (number : ℕ) (items : List Item) (site : ℕ) (rule : Rule) → refusal_of totals (outcome number c items) ≡ Some (site, rule) → is_on_patterns rule ≡ false
refused_is_other totals c number [] site rule h = absurd (none-some (site, rule) h)
refused_is_other totals c number (item ∷ items) site rule h =
    by (breach (counted c item) item) refl h (refused_is_other totals (counted c item) (number + 1) items site rule)
  where
    by : (b : Option Breach) → breach (counted c item) item ≡ b → refusal_of totals (stopped_or number b (outcome (number + 1) (counted c item) items)) ≡ Some (site, rule)
        → (refusal_of totals (outcome (number + 1) (counted c item) items) ≡ Some (site, rule) → is_on_patterns rule ≡ false) → is_on_patterns rule ≡ false
    by None p h later = later h
    by (Some b) p h later =
        subst (λ e. is_on_patterns e.1 ≡ false) (same_Some (number, told totals b) (site, rule) h) (told_is_other totals b (breach_is_other (counted c item) item b p))

abbrev rule_of : Result Accepted AcceptFault → Rule → Rule
rule_of (Ok a) other = other
rule_of (Err (Refused site rule)) other = rule
rule_of (Err NoMemory) other = other

-- so a refusal by the table is no refusal of a pattern
pub by_table : (j : JobTree) (own site : Site) (rule : Rule) → refusal j ≡ Some (own.0, rule)
    → ◌≡◌ {A = Result Accepted AcceptFault} (Err (Refused own rule)) (Err (Refused site BadPattern)) → ⊥
by_table j own site rule is same =
    let other = refused_is_other (fold counted no_counts (job_items j)) no_counts 0 (job_items j) own.0 rule is in
    true≢false (sym (ap (λ r. is_on_patterns (rule_of r rule)) same) ∙ other)
