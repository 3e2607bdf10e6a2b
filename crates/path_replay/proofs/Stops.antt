-- Where decisions lead, as a stop.
use Rattle.std.proofs.Common.{◌≡◌, ℕ, List, ◌∷◌, [], ◌++◌, drop, length, reverse, Option, Some, None, refl, sym, ap, subst, ◌∙◌}
use Rattle.std.proofs.lemmas.List.{take-append-drop}
use Rattle.refutation_check.specs.Longer.{condition_of}
use Rattle.net_check.specs.Network.{Network}
use Rattle.refutation_check.specs.declared.outcome.Verdict.{Verdict}
use Rattle.sefl_meaning.specs.declared.walk.Decision.{Decision}
use Rattle.sefl_meaning.specs.declared.walk.End.{End}
use Rattle.sefl_meaning.specs.Routes.{IsOpen}
use Rattle.sefl_meaning.specs.Start.{progress_of}
use Rattle.sefl_meaning.specs.Trees.{over, arrives, tests, splits}
use Rattle.exact_records.specs.Records.{SymStart, SymTree, condition_on, injection_tests}
use Rattle.exact_records.specs.Work.{begun_at}
use Rattle.sym_state.specs.Symbolic.{Symbolic}
use Rattle.path_exec.specs.declared.engine.Next.{Next}
use Rattle.path_exec.specs.declared.engine.Next.TheVariants.{AtEnd, AtNode}
use Rattle.path_exec.specs.declared.engine.Offer.{Offer}
use Rattle.path_exec.specs.declared.engine.Offer.TheVariants.{If, Constrain, Fork}
use Rattle.path_exec.specs.Following.{IsLed, LeadsTo as IsLedTo, location_of}
use Rattle.path_exec.specs.Location.{point_at}
use Rattle.path_exec.specs.Offers.{IsNode}
use Rattle.path_exec.specs.Stepping.{IsLedThere}
use Rattle.path_exec.specs.Handing.{Handed}
use Rattle.path_exec.specs.Views.{Views}
use Rattle.record_checks.specs.Stops.{LeadsTo, StopsAs, trees_of}
use Rattle.symbolic_engine.specs.declared.origin.Origin.{Ghosts}
use Rattle.symbolic_engine.specs.declared.points.Finished.{Finished}
use Rattle.symbolic_engine.specs.declared.points.Standing.{Standing}
use Rattle.symbolic_engine.specs.declared.points.Waiting.{Waiting}
use Rattle.symbolic_engine.specs.declared.stage.Wait.{Wait}
use Rattle.symbolic_engine.specs.declared.stage.Wait.TheVariants.{Asked, Forked}
use Rattle.symbolic_engine.specs.Origins.{IsRunOf, entries_seen, location_of as here_in, progress_in}
use Rattle.symbolic_engine.specs.declared.found.Found.{Found}
use Rattle.symbolic_engine.specs.Seeing.{views_of}
use Rattle.symbolic_engine.specs.Stages.{wait_tree}
use Rattle.path_replay.specs.Stopping.{state_of, stop_of}

abbrev IsOverTree : SymTree → Type 0
IsOverTree (over p end') = Unit {0}
IsOverTree (arrives place p t) = ⊥
IsOverTree (tests asking p test held broken) = ⊥
IsOverTree (splits p branches) = ⊥

node_goes_on : (offer : Offer) (t : SymTree) → IsNode offer t → StopsAs t None
node_goes_on If t h = λ p end' e. subst IsOverTree (sym e ∙ h.is) tt
node_goes_on Constrain t h = λ p end' e. subst IsOverTree (sym e ∙ h.is) tt
node_goes_on (Fork copies) t h = λ p end' e. subst IsOverTree (sym e ∙ h.is) tt

wait_carries : (net : Network) (wait : Wait) (x : Symbolic) (begun : ℕ) → (progress_of (wait_tree net wait x begun)).state ≡ x.carried
wait_carries net (Asked running question test frames) x begun = refl
wait_carries net (Forked node hops ports) x begun = refl

-- the formulas of a state are the tests of the injection and those behind
pub all_entries : (s : SymStart) (x : Symbolic) → IsRunOf s x → injection_tests s ++ drop (length s.tests) (entries_seen x) ≡ entries_seen x
all_entries s x run =
    ap (λ l. l ++ drop (length s.tests) (entries_seen x)) (sym run.tests) ∙ take-append-drop (length s.tests) (entries_seen x)

module _ (s : SymStart) (ds : List Decision) (x : Symbolic) (tree : ℕ → SymTree) (begun : ℕ) (run : IsRunOf s x)
    (led : IsLed s ds (point_at begun (here_in s x tree))) where
  condition_led : trees_of x.condition ≡ condition_on s led.way
  condition_led =
      let widths = led.widths ∙ ap (λ (t : SymTree). s.unknowns ++ (progress_of t).choices) (sym led.left) in
      let entries = sym (all_entries s x run) ∙ ap (λ l. injection_tests s ++ l) (sym led.tests) in
      λ j. condition_of (run.most_choices j) (widths j) (entries j)

  -- what they lead to is a stop
  stop_here : (how : Option End) → StopsAs led.way.left how → (progress_of (tree begun)).state ≡ x.carried
      → LeadsTo s ds (record { state = x; how = how })
  stop_here how stops carries = record {
    way = led.way;
    leads = led.leads;
    stops = stops;
    carries = ap (λ (t : SymTree). (progress_of t).state) led.left ∙ carries;
    decisions = led.decisions;
    places = sym led.places;
    condition = condition_led;
  }

module _ {B : Type 0} {origin : Ghosts B} (s : SymStart) (net : Network) where
  -- what the runs from this start are seen as
  abbrev pub here : Views (Standing B) (Finished B) (Waiting B origin) Verdict (Handed Found)
  here = views_of {B = B} {origin = origin} s net

  pub stop_led : (ds : List Decision) (next : Next (Finished B) (Waiting B origin)) → IsRunOf s (state_of next) → IsLedTo here ds next
      → LeadsTo s ds (stop_of next)
  stop_led ds (AtEnd ended) run l =
      let x = ended.run in
      let begun = begun_at s.tree (reverse x.decisions) in
      stop_here s ds x (λ n. over (progress_in x n) ended.how) begun run l.led (Some ended.how) (progress_in x begun, l.led.left) refl
  stop_led ds (AtNode node offer) run l =
      let x = node.run in
      let begun = begun_at s.tree (reverse x.decisions) in
      stop_here s ds x (wait_tree net node.wait x) begun run l.led None
      (node_goes_on offer l.led.way.left (subst (IsNode offer) (sym l.led.left) l.kind)) (wait_carries net node.wait x begun)

  -- the decisions of a stop are those that lead to it
  pub stop_decisions : (ds : List Decision) (next : Next (Finished B) (Waiting B origin)) → LeadsTo s ds (stop_of next) → (location_of here next).decisions ≡ ds
  stop_decisions ds (AtEnd ended) l = l.decisions
  stop_decisions ds (AtNode node offer) l = l.decisions

  pub led_there : (ds : List Decision) (next : Next (Finished B) (Waiting B origin)) → IsLedTo here ds next → IsLedThere here next
  led_there ds next l = subst (λ (es : List Decision). IsLedTo here es next) (sym l.led.decisions) l

  -- behind a decision: another stop, or nothing
  module _ (next : Next (Finished B) (Waiting B origin)) (d : Decision) (ds : List Decision) (l : LeadsTo s ds (stop_of next)) where
    pub leads_behind : (behind : Next (Finished B) (Waiting B origin)) → IsRunOf s (state_of behind)
        → IsLedTo here ((location_of here next).decisions ++ d ∷ []) behind → LeadsTo s (ds ++ d ∷ []) (stop_of behind)
    leads_behind behind run h =
        stop_led (ds ++ d ∷ []) behind run (subst (λ (es : List Decision). IsLedTo here (es ++ d ∷ []) behind) (stop_decisions ds next l) h)

    pub closed_behind : (IsOpen s.tree ((location_of here next).decisions ++ d ∷ []) → ⊥) → IsOpen s.tree (ds ++ d ∷ []) → ⊥
    closed_behind h = subst (λ (es : List Decision). IsOpen s.tree (es ++ d ∷ []) → ⊥) (stop_decisions ds next l) h
