-- Values are those of a packet that takes decisions exactly where they make true the condition to which these lead.
use Rattle.std.proofs.Common.{◌↔◌, ℕ, List, subst, sym}
use Rattle.sefl_meaning.specs.declared.walk.Decision.{Decision}
use Rattle.sefl_meaning.specs.Injected.{FitWidths}
use Rattle.exact_records.specs.Records.{Satisfy, SymRoute, SymStart, Takes, condition_on}
use Rattle.record_checks.specs.Checks.{IsOver}
use Rattle.record_checks.specs.Stops.{LeadsTo, Stop, StopsAs, trees_of}
use Rattle.record_checks.proofs.Parts.{one_way}

module _ (s : SymStart) (ds : List Decision) (stop : Stop) (v : List ℕ) where
  takes_there : LeadsTo s ds stop → IsOver stop → FitWidths s.unknowns v → Satisfy v (trees_of stop.state.condition) → Takes s v ds
  takes_there to over' fits holds =
      let o = subst (StopsAs to.way.left) over'.1 to.stops in
      record { fits = fits; way = to.way; progress = o.0; end' = over'.0; leads = to.leads; ended = o.1; holds = subst (Satisfy v) to.condition holds }

  taken_there : LeadsTo s ds stop → Takes s v ds → FitWidths s.unknowns v × Satisfy v (trees_of stop.state.condition)
  taken_there to t = (t.fits, subst (Satisfy v) (sym to.condition) (subst (λ (r : SymRoute). Satisfy v (condition_on s r)) (one_way s ds t.way to.way t.leads to.leads) t.holds))

  pub takes_where_true : LeadsTo s ds stop → IsOver stop → (FitWidths s.unknowns v × Satisfy v (trees_of stop.state.condition)) ↔ Takes s v ds
  takes_where_true to over' = (λ h. takes_there to over' h.0 h.1, taken_there to)
