-- The sides of tests, where a run waits.
use Rattle.std.proofs.Common.{◌≡◌, Bool, List, ◌∷◌, [], ◌++◌, Some, None, append_assoc, refl, sym, ap, ◌∙◌}
use Rattle.std.proofs.lemmas.List.{same_from_push}
use Rattle.path_formula.specs.Formulas.{FormulaTree}
use Rattle.path_cond.specs.Conditions.{Condition}
use Rattle.net_check.specs.Network.{Network}
use Rattle.sefl_meaning.specs.declared.walk.Decision.{Decision}
use Rattle.sefl_meaning.specs.Routes.{route, truth_of}
use Rattle.sefl_meaning.specs.Start.{progress_of}
use Rattle.exact_records.specs.Records.{SymRoute, SymStart, SymTree, injection_tests}
use Rattle.path_exec.specs.declared.engine.Next.{Next}
use Rattle.path_exec.specs.Stepping.{IsLedThere, IsSideBehind, SideBehind}
use Rattle.record_checks.specs.Stops.{IsSide, LeadsTo, SideOf, trees_of}
use Rattle.symbolic_engine.specs.declared.origin.Origin.{Ghosts}
use Rattle.symbolic_engine.specs.declared.points.Finished.{Finished}
use Rattle.symbolic_engine.specs.declared.points.Standing.{Standing}
use Rattle.symbolic_engine.specs.declared.points.Waiting.{Waiting}
use Rattle.symbolic_engine.specs.Origins.{IsRunOf}
use Rattle.path_replay.specs.Stopping.{stop_of}
use Rattle.path_replay.proofs.Stops.{all_entries, here, stop_decisions}

same_route : {a b : SymRoute} → Some a ≡ Some b → a ≡ b
same_route e = cc

module _ {B : Type 0} {origin : Ghosts B} (s : SymStart) (net : Network) (next : Next (Finished B) (Waiting B origin)) (d : Decision)
    (there : IsLedThere (here {B = B} {origin = origin} s net) next) (ds : List Decision) (l : LeadsTo s ds (stop_of next)) where
  leads : route s.tree ds ≡ Some there.led.way
  leads = ap (route s.tree) (sym (stop_decisions s net ds next l)) ∙ there.led.leads

  -- no test waits there that offers the decision, so no decisions end so
  pub no_side : SideBehind (here {B = B} {origin = origin} s net) next d None → SideOf s (ds ++ d ∷ []) None
  no_side none = λ side.
      let same = same_from_push ds side.parent d side.last side.joined in
      let ways : there.led.way ≡ side.way = same_route (sym leads ∙ (ap (route s.tree) same.0 ∙ side.leads)) in
      none side.asking side.progress side.test side.held side.broken side.truth
      (sym there.led.left ∙ (ap (λ (r : SymRoute). r.left) ways ∙ side.waits)) (ap (truth_of side.asking) same.1 ∙ side.offered)

  -- or this is the condition behind it
  pub side_seen : (place : Standing B) (c : Condition) → IsRunOf s place.run → trees_of c ≡ trees_of place.run.condition
      → IsSideBehind (here {B = B} {origin = origin} s net) next d place → IsSide s (ds ++ d ∷ []) c
  side_seen place c run is b =
      let entry : FormulaTree × Bool = (b.test, b.truth) in
      let widths = b.widths ∙ (there.led.widths ∙ ap (λ (t : SymTree). s.unknowns ++ (progress_of t).choices) (sym there.led.left)) in
      let entries =
      sym (all_entries s place.run run)
      ∙ (ap (λ l. injection_tests s ++ l) (b.tests_are ∙ ap (λ l. l ++ entry ∷ []) (sym there.led.tests))
      ∙ sym (append_assoc (injection_tests s) there.led.way.tests (entry ∷ []))) in
      record {
        side = record {
          parent = ds;
          last = d;
          joined = refl;
          way = there.led.way;
          leads = leads;
          asking = b.asking;
          progress = b.progress;
          test = b.test;
          held = b.held;
          broken = b.broken;
          waits = there.led.left ∙ b.waits;
          truth = b.truth;
          offered = b.offered;
        };
        condition = is ∙ (λ j. record { widths = widths j; entries = entries j; most_choices = run.most_choices j });
      }
