-- The stops of a guided run, kept behind each of its decisions.
use Rattle.std.specs.Prelude.{◌≡◌, Bool, true, false, List, [], ◌∷◌, ◌++◌, map}
use Rattle.sefl_meaning.specs.declared.walk.Decision.{Decision}
use Rattle.sefl_meaning.specs.Routes.{IsOpen}
use Rattle.exact_records.specs.Records.{SymStart}
use Rattle.record_checks.specs.Stops.{LeadsTo, Stop}
use Rattle.record_checks.specs.declared.trail.Step.{Step}
use Rattle.record_checks.specs.declared.trail.Trail.{Trail}

module _ {S : Type 0} where
  -- the decisions of these steps
  abbrev pub taken : List (Step S) → List Decision
  taken steps = map (λ (step : Step S). step.decision) steps

  -- the decisions to which a trail leads
  abbrev pub decisions_of : Trail S → List Decision
  decisions_of trail = taken trail.steps.items

  -- the stop behind the last step, where it began at this one
  abbrev pub last_stop : S → List (Step S) → S
  last_stop first [] = first
  last_stop first (step ∷ steps) = last_stop step.stop steps

  abbrev pub top_of : Trail S → S
  top_of trail = last_stop trail.first trail.steps.items

module _ {S : Type 0} (s : SymStart) (seen : S → Stop) where
  -- behind these decisions each step leads to its stop
  abbrev pub AreLed : List Decision → List (Step S) → Type 0
  AreLed ds [] = Unit {0}
  AreLed ds (step ∷ steps) =
      LeadsTo s (ds ++ step.decision ∷ []) (seen step.stop) × AreLed (ds ++ step.decision ∷ []) steps

  -- each stop is the one behind its decisions
  pub record IsTrail (trail : Trail S) : Type 0 where
    pub first : LeadsTo s [] (seen trail.first)
    pub steps : AreLed [] trail.steps.items

  -- the trail leads along all of the decisions, or these are not open
  abbrev pub IsLedAlong : List Decision → Trail S → Bool → Type 0
  IsLedAlong ds trail true = decisions_of trail ≡ ds
  IsLedAlong ds trail false = IsOpen s.tree ds → ⊥
