use Rattle.std.proofs.Common.{ℕ, length}
use Rattle.path_exec.specs.Coursing.{AreOnCourse}
use Rattle.path_exec.specs.OpenNodes.{AreOpenNodes, all_obligations}
use Rattle.path_exec.specs.Receiving.{IsSame, TakesOwn}
use Rattle.path_exec.specs.Keeping.{Leaves}
use Rattle.path_exec.proofs.exploration.leave.Given as goal

abbrev pub invariant-loop-next : goal.invariant-loop-next
invariant-loop-next g l =
    let x = g.E.Engine.views l.engine in
    let seen = g.K.Observer.seen in
    record {
      open_nodes : AreOpenNodes x l.open_nodes.items;
      course : AreOnCourse x l.course.items l.open_nodes.items;
      takes : TakesOwn x (seen l.out);
      same : IsSame (seen l.fn.out) (seen l.out);
      leaves : (before after : ℕ) → Leaves x l.limit (seen l.fn.out) (all_obligations x l.fn.open_nodes.items) before after
          → Leaves x l.limit (seen l.out) (all_obligations x l.open_nodes.items) before after;
    }

abbrev pub decreases-loop-next : goal.decreases-loop-next
decreases-loop-next g l = length (all_obligations (g.E.Engine.views l.engine) l.open_nodes.items)
