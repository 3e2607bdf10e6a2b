use Rattle.std.proofs.Common.{◌≡◌, List}
use Rattle.std.specs.List.{AllByRecursion}
use Rattle.sym_state.specs.Symbolic.{held_of}
use Rattle.symbolic_engine.specs.Origins.{condition_seen}
use Rattle.loop_meaning.specs.Answers.{Arrival}
use Rattle.loop_meaning.specs.Visits.{visit_of}
use Rattle.loop_check.specs.Lasting.{AreOfOneStart}
use Rattle.loop_check.specs.Seen.{AreSeen}
use Rattle.loop_check.proofs.Looking.{Looked, ports_of}
use Rattle.loop_check.proofs.visits.answer_from.Given as goal

-- what is left begins with the same unknown fields, and so much was looked at of whatever arrivals these are
abbrev pub invariant-loop-place : goal.invariant-loop-place
invariant-loop-place l =
    record {
      start : AllByRecursion (AreOfOneStart l.last.state.now) l.left;
      looked : (earlier : List Arrival) (end' : Arrival) → ports_of earlier ≡ l.before → (here : end'.0 ≡ l.port) → visit_of end'.1 ≡ held_of l.last.state.now
          → AreSeen l.port earlier l.visits → Looked (condition_seen l.last.state.now) l.port earlier end' here l.place l.found.items l.left;
    }
