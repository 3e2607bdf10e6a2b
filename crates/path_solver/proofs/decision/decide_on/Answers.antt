use Rattle.std.proofs.Common.{subst}
use Rattle.path_solver.specs.Bases.{IsOnBase}
use Rattle.path_solver.proofs.decision.decide_on.Goals as goal

pub decide_staying-requires-clause-least : goal.decide_staying-requires-clause-least
decide_staying-requires-clause-least c = (subst (IsOnBase c.args.cond.now c.args.base.now) c.in-Stay.is c.in_ok-found.ensures).0

pub decide_staying-requires-clause-padded : goal.decide_staying-requires-clause-padded
decide_staying-requires-clause-padded c = (subst (IsOnBase c.args.cond.now c.args.base.now) c.in-Stay.is c.in_ok-found.ensures).1

pub decide_moved-requires-clause-least : goal.decide_moved-requires-clause-least
decide_moved-requires-clause-least c = subst (IsOnBase c.args.cond.now c.args.base.now) c.in-Moved.is c.in_ok-found.ensures
