-- Which paths face a path, as the code finds it.
use Rattle.std.specs.Prelude.{◌≡◌, Bool, true, false, List, [], ◌∷◌, Option, None, Some}
use Rattle.std.specs.List.{AllByRecursion}
use Rattle.path_cond.specs.Seen.{itself}
use Rattle.refutation_check.specs.Seen.{IsRefuted}
use Rattle.interval_solver.specs.Domains.{AreDomainsOf}
use Rattle.exact_records.specs.Records.{SymCondition}
use Rattle.compare_meaning.specs.Clashes.{Agree}
use Rattle.compare_meaning.specs.Facing.{Faces, IsApart, IsImpossible}
use Rattle.compare_meaning.specs.Paths.{DeliveredPath}
use Rattle.compare_typing.specs.Typing.{IsTypedPath}
use Rattle.net_compare.specs.declared.delivery.Delivery.{Delivery}
use Rattle.net_compare.specs.declared.judged.Judged.{Judged}
use Rattle.net_compare.specs.declared.judged.Judged.TheVariants.{Met, Open, Out}
use Rattle.net_compare.specs.declared.weighing.Weighed.{Weighed}
use Rattle.net_compare.specs.declared.weighing.Weighed.TheVariants.{Least, Never, Unknown}
use Rattle.net_compare.specs.Rows.{row_seen}
use Rattle.net_compare.specs.Saying.{seen_path}

-- where they are delivered at one port, the symbols of one begin those of the other
abbrev pub FitsWith : DeliveredPath → DeliveredPath → Type 0
FitsWith p q = p.exit ≡ q.exit → Agree p q

-- any two of these
abbrev pub FitTogether : List DeliveredPath → Type 0
FitTogether [] = Unit {0}
FitTogether (p ∷ ps) = AllByRecursion (FitsWith p) ps × FitTogether ps

-- it faces it, or why not
abbrev pub TellsFacing : DeliveredPath → DeliveredPath → Bool → Type 0
TellsFacing p q true = Faces p q
TellsFacing p q false = IsApart p q

-- it is not refuted, or it is, and no values make it true
abbrev pub TellsOpen : SymCondition → Bool → Type 0
TellsOpen c true = IsRefuted itself c → ⊥
TellsOpen c false = IsImpossible c

-- what is known of it, if anything is
abbrev pub KnowsOpen : SymCondition → Option Bool → Type 0
KnowsOpen c None = Unit {0}
KnowsOpen c (Some known) = TellsOpen c known

abbrev pub weighed_open : Weighed → Option Bool
weighed_open (Least values) = Some true
weighed_open Never = Some false
weighed_open Unknown = None

abbrev pub is_open : Judged → Bool
is_open (Met values) = true
is_open Open = true
is_open Out = false

-- the domains are those of its condition, whose formulas stand in its row, and its formulas and cells are over its symbols
pub record IsSound (d : Delivery) : Type 0 where
  pub domains : AreDomainsOf d.condition.now d.domains.now
  pub row : row_seen d.formulas.items ≡ (seen_path d).condition.entries
  pub typed : IsTypedPath (seen_path d)

-- each of these with each of those
abbrev pub AllFit : List DeliveredPath → List DeliveredPath → Type 0
AllFit qs ps = AllByRecursion (λ p. AllByRecursion (FitsWith p) qs) ps
