use Rattle.std.proofs.Common.{sym}
use Rattle.path_cond.specs.Conditions.{Entry}
use Rattle.path_formula.specs.Members.{Member}
use Rattle.path_formula.specs.View.{view}
use Rattle.path_solver.proofs.Gathering.{member_there}
use Rattle.path_solver.proofs.members.leads.Goals as goal

pub returns-in-Some-member_at : goal.returns-in-Some-member_at
returns-in-Some-member_at c = λ yes.
    let e : Entry = (c.in-Some.formula.now, c.in-Some.holds) in
    let m : Member = (view c.in-Some-member_at._member.0.now, c.in-Some-member_at._member.1) in
    member_there c.args.cond.now c.args.pick c.args.way.now e m (sym c.in-Some.ensures) c.requires (sym c.in-Some-member_at.ensures)
