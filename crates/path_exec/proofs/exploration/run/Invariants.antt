use Rattle.std.proofs.Common.{◌≤◌, ℕ}
use Rattle.path_exec.specs.Coursing.{AreOnCourse}
use Rattle.path_exec.specs.OpenNodes.{AreOpenNodes, all_obligations}
use Rattle.path_exec.specs.Receiving.{IsSame, TakesOwn}
use Rattle.path_exec.specs.Keeping.{Runs, weights}
use Rattle.path_exec.proofs.exploration.run.Given as goal

abbrev pub invariant-loop-count : goal.invariant-loop-count
invariant-loop-count g l =
    let x = g.E.Engine.views l.engine in
    let seen = g.K.Observer.seen in
    record {
      within : l.count ≤ l.limit;
      open_nodes : AreOpenNodes x l.open_nodes.items;
      course : AreOnCourse x l.course.items l.open_nodes.items;
      takes : TakesOwn x (seen l.out);
      same : IsSame (seen l.fn.out) (seen l.out);
      runs : (before : ℕ) → Runs x l.limit l.first (seen l.fn.out) (all_obligations x l.fn.open_nodes.items) before l.fn.steps
          → Runs x l.limit l.count (seen l.out) (all_obligations x l.open_nodes.items) before l.steps;
    }

abbrev pub decreases-loop-count : goal.decreases-loop-count
decreases-loop-count g l = weights (all_obligations (g.E.Engine.views l.engine) l.open_nodes.items)
